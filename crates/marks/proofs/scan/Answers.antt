-- `marks::scan` meets its contract. The loop's invariant: the first mark from line i on is the first mark. Assumes
-- nothing.
use mathlib.Core.Path.{◌≡◌, sym, ◌∙◌}
use Prim.Native.Nat.{◌+◌}
use native.Mathlib.Omega.{arith}
use Rattle.program.specs.Tables.{program_in}
use Rattle.marks.specs.Marks.{lines_in, mark_at, marks_in, stop}
use Rattle.marks.proofs.Bounds.{lines_limit}
use Rattle.marks.proofs.First.{mark_from, mark_start, mark_next, mark_here, mark_end}
use Rattle.marks.proofs.scan.Goals as goal

pub loop-i-init : goal.loop-i-init
unfolding marks_in
loop-i-init c =
    let a = c.args in
    let p = program_in a.t.now in
    rw c.lines_in-n.ensures.value (mark_start (lines_in p a.k a.m) (mark_at p a.k a.m) a.line)

pub overflow_add-result : goal.overflow_add-result
overflow_add-result c =
    let a = c.args in
    omega (arith, lines_limit a.t.now a.k a.m)

pub returns-then-mark-ne0 : goal.returns-then-mark-ne0
returns-then-mark-ne0 c =
    let a = c.args in
    let n = c.lines_in-n.result in
    let f = mark_at (program_in a.t.now) a.k a.m in
    let here : mark_from n f a.line c.loop-i.i ≡ stop (f c.loop-i.i) (a.line + c.loop-i.i) =
    mark_here n f a.line c.loop-i.i (omega arith) (λ e. c.if-mark-ne0.true (c.mark_at-mark.ensures.value ∙ e)) in
    record { value = cc }

pub loop-i-preserved : goal.loop-i-preserved
loop-i-preserved c =
    let a = c.args in
    c.loop-i.invariant
    ∙ mark_next c.lines_in-n.result (mark_at (program_in a.t.now) a.k a.m) a.line c.loop-i.i
    (omega arith) (sym c.mark_at-mark.ensures.value ∙ c.if-mark-ne0.false)

pub overflow_add-result-2 : goal.overflow_add-result-2
overflow_add-result-2 c =
    let a = c.args in
    omega (arith, lines_limit a.t.now a.k a.m)

pub returns : goal.returns
returns c =
    let a = c.args in
    record {
      value = sym
          (c.loop-i.invariant
          ∙ mark_end c.lines_in-n.result (mark_at (program_in a.t.now) a.k a.m) a.line c.loop-i.i (omega arith));
    }
