-- `frame::store` meets its contract. Assumes nothing.
use lib.ListN.{set}
use Prim.Native.Nat.{ℕ}
use mathlib.Core.List.{List}
use mathlib.Core.Path.{◌∙◌, ap}
use Rattle.frame.proofs.store.Goals as goal

pub returns : goal.returns
returns c = record {
  memory = c.write-2.ensures.memory ∙ ap (λ (l : List ℕ). set l c.args.at.count c.args.at.value) c.write.ensures.memory;
}
