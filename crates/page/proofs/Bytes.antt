-- Bytes of a word, the low one first. Assumes nothing.
use mathlib.Core.Path.{◌≡◌, refl}
use mathlib.Core.List.{List, [], ◌∷◌, ◌++◌}
use Prim.Native.Nat.{ℕ, ◌+◌, ◌*◌, ◌<◌, ◌%◌, ◌^◌}
use native.Mathlib.Omega.{arith}
use mir.Syntax.{w64, w128}
use Rattle.std.specs.Int.{to_le_bytes}

-- two equal bytes in front
next : {a b : ℕ} {xs ys : List ℕ} → a ≡ b → xs ≡ ys → a ∷ xs ≡ b ∷ ys
next e f = rw (e, f)

-- eight bytes in a word
pub packed_eight : (a b c d e f g h : ℕ) → a < 256 → b < 256 → c < 256 → d < 256 → e < 256 → f < 256 → g < 256 → h < 256
    → to_le_bytes w64 (a + 256 * (b + 256 * (c + 256 * (d + 256 * (e + 256 * (f + 256 * (g + 256 * h)))))))
    ≡ a ∷ b ∷ c ∷ d ∷ e ∷ f ∷ g ∷ h ∷ []
packed_eight a b c d e f g h la lb lc ld le lf lg lh =
    next (omega arith) (next (omega arith) (next (omega arith) (next (omega arith)
    (next (omega arith) (next (omega arith) (next (omega arith) (next (omega arith) refl)))))))

-- two words in one
pub both_words : (a b : ℕ) → a < 2 ^ 64 → b < 2 ^ 64 → to_le_bytes w128 (a + b * 2 ^ 64 % 2 ^ 128) ≡ to_le_bytes w64 a ++ to_le_bytes w64 b
both_words a b la lb =
    next (omega arith) (next (omega arith) (next (omega arith) (next (omega arith)
    (next (omega arith) (next (omega arith) (next (omega arith) (next (omega arith)
    (next (omega arith) (next (omega arith) (next (omega arith) (next (omega arith)
    (next (omega arith) (next (omega arith) (next (omega arith) (next (omega arith) refl)))))))))))))))

-- two texts, each said in another way
pub both_said : {xs ys us vs : List ℕ} → xs ≡ us → ys ≡ vs → xs ++ ys ≡ us ++ vs
both_said p q = rw (p, q)
