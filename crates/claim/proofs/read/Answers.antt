-- `claim::read` meets its contract. Assumes nothing.
use mathlib.Core.Path.{refl}
use Rattle.slots.specs.Layout.{no_masks}
use Rattle.claim.proofs.read.Goals as goal

pub take-requires : goal.take-requires
unfolding no_masks
take-requires c = refl
