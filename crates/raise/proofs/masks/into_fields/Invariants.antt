-- `raise::masks::into_fields`: what its loops keep.
use mathlib.Core.Path.{◌≡◌}
use mathlib.Core.Bool.{true}
use Prim.Native.Nat.{ℕ, ◌<◌}
use Rattle.mask.specs.Mask.{has}
use Rattle.flow.specs.Claim.{field_of}
use Rattle.flow.specs.Flows.{each}
use Rattle.slots.specs.Layout.{place_of, claim_size, claim_in}
use Rattle.order.specs.Raised.{Raised}
use Rattle.raise.specs.Inside.{into_field}
use Rattle.raise.proofs.masks.into_fields.Given as goal

abbrev pub invariant-loop-k : goal.invariant-loop-k
invariant-loop-k l =
    (((i : ℕ) → has l.set i ≡ true → place_of (field_of i l.x) < claim_size)
    → Raised (each l.k (into_field l.set l.x l.value)) (claim_in l.initial.w) (claim_in l.w))
