-- `claim::line::take_masks`: what its loop keeps.
use mathlib.Core.Path.{◌≡◌}
use Prim.Native.Nat.{◌+◌, ◌*◌}
use Rattle.program.specs.Lists.{tab}
use Rattle.flow.specs.Claim.{register_at}
use Rattle.claim.specs.Inside.{mask_in, masks_in}
use Rattle.claim.proofs.Masks.{masks_after}
use Rattle.claim.proofs.line.take_masks.Given as goal

abbrev pub invariant-loop-r : goal.invariant-loop-r
invariant-loop-r l =
    (l.bits ≡ mask_in l.text (l.at + 16 * l.r))
    × (masks_in l.text l.at l.allowed (tab l.n (register_at l.m l.pc)) l.initial.w ≡ masks_after l.text l.allowed l.n (register_at l.m l.pc) l.at l.r l.w)
