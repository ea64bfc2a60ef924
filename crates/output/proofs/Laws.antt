-- What a caller of a call that writes a text learns from number, values and memory. Assumes nothing.
use mathlib.Core.Path.{◌≡◌, refl, ap}
use mathlib.Core.Bool.{Bool, true, false}
use mathlib.Core.List.{List, [], ◌∷◌, ◌++◌}
use Prim.Native.Nat.{ℕ, ◌≤◌, ◌<◌}
use native.Mathlib.Omega.{arith}
use lib.ListN.{length, take}
use Rattle.instruction.specs.Word.{pick}
use Rattle.output.specs.declared.Output.TheVariants.{Refused, Written}
use Rattle.output.specs.Numbers.{number_of, values_of}
use Rattle.output.specs.Written.{Writing, turned_down, short, written, answer_for, writing_number, writing_values, memory_after}

-- refusals are numbered up to `most`
abbrev pub Numbered : ℕ → Writing → Type 0
Numbered most (turned_down number line) = number ≤ most
Numbered most short = Unit {0}
Numbered most (written text) = Unit {0}

-- of a text that fits, or does not
pub fitted_numbered : (most : ℕ) (t : Bool) (text : List ℕ) → Numbered most (pick t short (written text))
fitted_numbered most true text = tt
fitted_numbered most false text = tt

-- number and values of a text: it is written, since 36 is no refusal's number
pub written_is : (most : ℕ) → most < 36 → (x : Writing) → Numbered most x → (n : ℕ) → writing_number x ≡ number_of (Written n)
    → writing_values x ≡ values_of (Written n) → answer_for x ≡ Written n
written_is most few (turned_down number line) h n e v = absurd (omega (arith, h, e))
written_is most few short h n e v = absurd (omega (arith, e))
written_is most few (written text) h n e v = cc

take-append-length : (xs ys : List ℕ) → take (length xs) (xs ++ ys) ≡ xs
take-append-length [] ys = refl
take-append-length (x ∷ xs) ys = ap (λ (zs : List ℕ). x ∷ zs) (take-append-length xs ys)

-- a text that is written stands at the front of memory
pub written_front : (x : Writing) (before after : List ℕ) (n : ℕ) → Written n ≡ answer_for x → after ≡ memory_after x before
    → (text : List ℕ) × (x ≡ written text) × (take n after ≡ text)
written_front (turned_down number line) before after n e g = absurd (apart number line e)
  where
    apart : (number line : ℕ) → Written n ≡ Refused number line → ⊥
    apart number line e = let z : ◌≡◌ {A = ℕ} 0 1 = cc in omega arith
written_front short before after n e g = absurd (let z : ◌≡◌ {A = ℕ} 0 1 = cc in omega arith)
written_front (written text) before after n e g =
    let count : n ≡ length text = cc in
    (text, refl, rw (count, g) (take-append-length text _))

-- what is written, if a text fits, is that text
pub fitted_written : (t : Bool) (text other : List ℕ) → pick t short (written text) ≡ written other → other ≡ text
fitted_written true text other e = absurd (let z : ◌≡◌ {A = ℕ} 0 1 = cc in omega arith)
fitted_written false text other e = cc
