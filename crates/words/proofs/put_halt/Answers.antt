-- `words::put_halt` meets its contract. Assumes nothing.
use mathlib.Core.Logic.{inl, inr}
use Rattle.page.proofs.OnPages.{on_none}
use Rattle.words.proofs.put_halt.Goals as goal

pub returns-in-Done : goal.returns-in-Done
returns-in-Done c =
    elim c.in-Done.is [
      | inl done ↦ record { put = rw done (on_none _) }
      | inr uncaught ↦ record { put = rw uncaught (on_none _) }
    ]
