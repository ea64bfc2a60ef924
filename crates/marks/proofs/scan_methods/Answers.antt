-- `marks::scan_methods` meets its contract. The loop's invariant: the first mark from method m on is the first mark, and no
-- method has more than 41 lines. Assumes nothing.
use mathlib.Core.Path.{ap, sym, ◌∙◌}
use mathlib.Core.List.{List}
use Prim.Native.Nat.{ℕ}
use native.Mathlib.Omega.{arith}
use Rattle.program.specs.Program.{method_count}
use Rattle.program.specs.Tables.{program_in}
use Rattle.program.proofs.Read.{methods_limit}
use Rattle.marks.specs.Marks.{method_marks, first_mark}
use Rattle.marks.proofs.Bounds.{method_limit}
use Rattle.marks.proofs.First.{joined_start, joined_here, joined_on, joined_end}
use Rattle.marks.proofs.scan_methods.Goals as goal

pub loop-m-init : goal.loop-m-init
loop-m-init c =
    let a = c.args in
    let p = program_in a.t.now in (
      omega arith,
      rw c.method_count-n.ensures.value (ap (λ (xs : List ℕ). first_mark xs a.line) (joined_start (method_count p) (method_marks p))),
    )

pub scan_method-s-requires : goal.scan_method-s-requires
scan_method-s-requires c = omega (arith, methods_limit c.args.t.now)

pub returns-then-s-ne0 : goal.returns-then-s-ne0
returns-then-s-ne0 c =
    let a = c.args in
    record {
      value = joined_here c.method_count-n.result (method_marks (program_in a.t.now)) c.loop-m.m c.loop-m.at (omega arith) _
          c.scan_method-s.ensures.value c.if-s-ne0.true
          ∙ sym c.loop-m.invariant.1;
    }

pub loop-m-preserved : goal.loop-m-preserved
loop-m-preserved c =
    let a = c.args in (
      omega (arith, method_limit a.t.now c.loop-m.m c.loop-m.at _ c.scan_method-s.ensures.value),
      c.loop-m.invariant.1
          ∙ joined_on c.method_count-n.result (method_marks (program_in a.t.now)) c.loop-m.m c.loop-m.at (omega arith) _
          c.scan_method-s.ensures.value c.if-s-ne0.false,
    )

pub returns : goal.returns
returns c =
    let a = c.args in
    record {
      value = sym
          (c.loop-m.invariant.1
          ∙ joined_end c.method_count-n.result (method_marks (program_in a.t.now)) c.loop-m.m c.loop-m.at (omega arith));
    }
