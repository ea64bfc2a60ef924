-- `transfer::memory_at` meets its contract. Assumes nothing.
use mathlib.Core.Path.{◌≡◌}
use mathlib.Core.Bool.{false, ◌&&◌}
use lib.Dec.{eqb}
use borrow.Author.Tests.{eq-eqb, ne_eqb}
use Rattle.mask.proofs.Laws.{and_false}
use Rattle.program.specs.Tables.{program_in}
use Rattle.flow.specs.Rules.{initial_memory}
use Rattle.slots.specs.Layout.{claim_in}
use Rattle.order.proofs.Raising.{raised_when, left_when}
use Rattle.transfer.proofs.memory_at.Goals as goal
use Rattle.transfer.proofs.memory_at.Goals.{else-m-eq0-via-then-m-eq0+else-pc-eq0, else-m-eq0-via-else-m-eq0}

pub returns-then-pc-eq0 : goal.returns-then-pc-eq0
returns-then-pc-eq0 c =
    record {
      raised = λ formed.
          let a = c.args in
          raised_when _ (initial_memory (program_in a.t.now)) _ _
          (rw (eq-eqb a.m 0 c.if-m-eq0.true, eq-eqb a.pc 0 c.if-pc-eq0.true))
          (c.initial_memory.ensures.raised formed);
    }

pub returns-else-m-eq0 : goal.returns-else-m-eq0
returns-else-m-eq0 c =
    let a = c.args in
    let fails : eqb a.m 0 && eqb a.pc 0 ≡ false =
    elim c.else-m-eq0.branch [
      | else-m-eq0-via-then-m-eq0+else-pc-eq0 w ↦ rw (ne_eqb a.pc 0 w.if-pc-eq0.false) (and_false (eqb a.m 0))
      | else-m-eq0-via-else-m-eq0 w ↦ rw (ne_eqb a.m 0 w.if-m-eq0.false)
    ] in
    record { raised = λ formed. left_when _ (initial_memory (program_in a.t.now)) (claim_in a.w.now) fails }
