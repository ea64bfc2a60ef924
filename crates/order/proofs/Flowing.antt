-- Flows between two claims: they hold of one claim exactly where they go from it to itself, and they go on from less into more. Assumes
-- nothing.
use mathlib.Core.Path.{◌≡◌, refl}
use mathlib.Core.Bool.{Bool, true, false, ◌||◌}
use Prim.Native.Nat.{ℕ}
use Rattle.instruction.proofs.Flags.{or_right}
use Rattle.mask.specs.declared.Mask.{Mask}
use Rattle.mask.specs.Mask.{has, has_number, zero_bit, other_bit}
use Rattle.flow.specs.Claim.{Claim}
use Rattle.flow.specs.Flows.{Flows, ◌∈◌, ◌⊆◌, ◌&◌, each, given, numeric, when, found, handled, unhandled, Holds}
use Rattle.order.specs.Order.{Below}
use Rattle.order.specs.Raised.{Goes}

-- ---- a mask with more bits has a number's bit too
number_more : (a b x y : Bool) → (a ≡ true → x ≡ true) → (b ≡ true → y ≡ true) → a || b ≡ true → x || y ≡ true
number_more true b x y f g e = rw (f refl)
number_more false b x y f g e = or_right x y (g e)

pub number_kept : (m other : Mask) → ((k : ℕ) → has m k ≡ true → has other k ≡ true) → has_number m ≡ true → has_number other ≡ true
unfolding has_number
number_kept m other h e =
    number_more (has m zero_bit) (has m other_bit) (has other zero_bit) (has other other_bit) (h zero_bit) (h other_bit) e

-- ---- from a claim to itself
pub goes_holds : (c : Claim) (f : Flows) → Goes c c f → Holds c f
goes_holds c (k ∈ s) h = h
goes_holds c (s ⊆ t) h = h
goes_holds c (f & g) h = (goes_holds c f h.0, goes_holds c g h.1)
goes_holds c (each n g) h = λ i l. goes_holds c (g i) (h i l)
goes_holds c (given k s f) h = λ t. goes_holds c f (h t)
goes_holds c (numeric s f) h = λ t. goes_holds c f (h t)
goes_holds c (when b f) h = λ t. goes_holds c f (h t)
goes_holds c (found r g) h = λ m t. goes_holds c (g m) (h m t)
goes_holds c (handled r g) h = λ m t. goes_holds c (g m) (h m t)
goes_holds c (unhandled r f) h = λ t. goes_holds c f (h t)

pub holds_goes : (c : Claim) (f : Flows) → Holds c f → Goes c c f
holds_goes c (k ∈ s) h = h
holds_goes c (s ⊆ t) h = h
holds_goes c (f & g) h = (holds_goes c f h.0, holds_goes c g h.1)
holds_goes c (each n g) h = λ i l. holds_goes c (g i) (h i l)
holds_goes c (given k s f) h = λ t. holds_goes c f (h t)
holds_goes c (numeric s f) h = λ t. holds_goes c f (h t)
holds_goes c (when b f) h = λ t. holds_goes c f (h t)
holds_goes c (found r g) h = λ m t. holds_goes c (g m) (h m t)
holds_goes c (handled r g) h = λ m t. holds_goes c (g m) (h m t)
holds_goes c (unhandled r f) h = λ t. holds_goes c f (h t)

-- ---- from less, into more
pub goes_more : (c c' d d' : Claim) → Below c' c → Below d d' → (f : Flows) → Goes c d f → Goes c' d' f
goes_more c c' d d' less more (k ∈ s) h = more s k h
goes_more c c' d d' less more (s ⊆ t) h = λ k e. more t k (h k (less s k e))
goes_more c c' d d' less more (f & g) h = (goes_more c c' d d' less more f h.0, goes_more c c' d d' less more g h.1)
goes_more c c' d d' less more (each n g) h = λ i l. goes_more c c' d d' less more (g i) (h i l)
goes_more c c' d d' less more (given k s f) h = λ e. goes_more c c' d d' less more f (h (less s k e))
goes_more c c' d d' less more (numeric s f) h = λ e. goes_more c c' d d' less more f (h (number_kept (c' s) (c s) (less s) e))
goes_more c c' d d' less more (when b f) h = λ t. goes_more c c' d d' less more f (h t)
goes_more c c' d d' less more (found r g) h = λ m t. goes_more c c' d d' less more (g m) (h m t)
goes_more c c' d d' less more (handled r g) h = λ m t. goes_more c c' d d' less more (g m) (h m t)
goes_more c c' d d' less more (unhandled r f) h = λ t. goes_more c c' d d' less more f (h t)
