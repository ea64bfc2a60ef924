-- `translator::walk::is_one_line` meets its contract. Assumes nothing.
use mathlib.Core.Path.{sym, ◌∙◌}
use native.Mathlib.Omega.{arith}
use borrow.Author.Tests.{eq-eqb}
use Rattle.translator.proofs.OneLine.{some_bytes, one_line_lem}
use Rattle.translator.proofs.walk.is_one_line.Goals as goal

pub overflow_sub-result : goal.overflow_sub-result
overflow_sub-result c =
    let l = some_bytes c.args.text.now c.in-Whole.n (sym c.line_at.ensures.line ∙ c.in-Whole.is) in
    omega arith

pub returns-then-n-eq0 : goal.returns-then-n-eq0
returns-then-n-eq0 c =
    let e = sym c.line_at.ensures.line ∙ c.in-Whole.is in
    record { value = rw (one_line_lem c.args.text.now c.in-Whole.n e, eq-eqb _ _ c.if-n-eq0.true) }
