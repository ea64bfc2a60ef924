-- How the stepper begins, from what the reader answered. Assumes nothing.
use Rattle.std.specs.Prelude.{⊤, Result, Ok, Err}
use mathlib.Core.Path.{◌≡◌, refl, ◌∙◌}
use mathlib.Core.Bool.{true, false}
use mathlib.Core.List.{[]}
use Prim.Native.Nat.{ℕ, min}
use native.Mathlib.Omega.{arith}
use Rattle.reader.specs.declared.Refusal.{Refusal}
use Rattle.reader.specs.declared.Refusal.TheVariants.{TooLong, BadLine, BadFrame, OutOfOrder, BadValue, FallsThrough}
use Rattle.reader.specs.Read.{Reading, reading_number, reading_values, number_of, values_of, line_of}
use Rattle.reader.proofs.Answers.{refused_is, found_program}
use Rattle.bounded.specs.Lent.{enough}
use Rattle.begun.specs.declared.NotBegun.TheVariants as not_begun
use Rattle.begun.specs.Begun.{start_run, begun_by}

-- no refusal has the number 0
unrefused : (a : Result ⊤ Refusal) → number_of a ≡ 0 → [] ≡ values_of a
unrefused (Ok u) z = refl
unrefused (Err TooLong) z = absurd (omega arith)
unrefused (Err (BadLine line)) z = absurd (omega arith)
unrefused (Err (BadFrame line)) z = absurd (omega arith)
unrefused (Err (OutOfOrder line)) z = absurd (omega arith)
unrefused (Err (BadValue line)) z = absurd (omega arith)
unrefused (Err (FallsThrough line)) z = absurd (omega arith)

module _ (x : Reading) (a : Result ⊤ Refusal) (n frames objects statics : ℕ) where
  pub begun_short : number_of a ≡ 0 → values_of a ≡ reading_values x → enough frames objects statics ≡ false
      → Err not_begun.Short ≡ begun_by x n frames objects statics
  begun_short z v few = found_program x (unrefused a z ∙ v) (λ p q. rw (q, few) refl)

  pub begun_started : number_of a ≡ 0 → values_of a ≡ reading_values x → enough frames objects statics ≡ true
      → Ok (start_run (min n 1000000)) ≡ begun_by x n frames objects statics
  begun_started z v many = found_program x (unrefused a z ∙ v) (λ p q. rw (q, many) refl)

pub begun_refused : (x : Reading) (a : Result ⊤ Refusal) (n frames objects statics : ℕ)
    → number_of a ≡ reading_number x → values_of a ≡ reading_values x → (number line : ℕ) → number ≡ number_of a → line ≡ line_of a
    → (number ≡ 0 → ⊥) → Err (not_begun.Refused number line) ≡ begun_by x n frames objects statics
begun_refused x (Ok u) n frames objects statics e v number line f g d = absurd (d f)
begun_refused x (Err r) n frames objects statics e v number line f g d = rw (refused_is x r e v, f, g) refl
