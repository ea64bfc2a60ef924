-- `worklist::visit` meets its contract. Assumes nothing.
use Prim.Native.Nat.{◌<◌}
use native.Mathlib.Omega.{arith}
use Rattle.program.specs.Program.{method_count, code_length}
use Rattle.program.specs.Tables.{program_in}
use Rattle.fixpoint.proofs.Rises.{risen_upward, raised_risen}
use Rattle.worklist.proofs.visit.Goals as goal

pub returns-then-pc-code_length : goal.returns-then-pc-code_length
returns-then-pc-code_length c =
    record {
      upward = λ formed.
          let a = c.args in
          let p = program_in a.sets.now.tables.now in
          let lm : a.m < method_count p = omega (arith, c.method_count.ensures.value) in
          let lp : a.pc < code_length p a.m = omega (arith, c.code_length.ensures.value) in
          risen_upward p a.m a.pc _ _ (raised_risen p a.m a.pc _ _ lm lp (c.raise_by.ensures.raised formed lm lp));
    }
