-- Bytes that are put one after another into a buffer; what does not go in is left out. Definitions only.
use Rattle.std.specs.Prelude.{◌≡◌, cond as pick, List, [], ◌∷◌, ◌++◌, ℕ, ◌+◌, ltb, leb, length, drop, set}

-- the place after a place of a buffer of n bytes; its end has none
abbrev pub onward : ℕ → ℕ → ℕ
onward n at = pick (ltb at n) (at + 1) at

-- the place after bytes that are put from a place on
unfoldable pub place_after : ℕ → ℕ → List ℕ → ℕ
place_after n at [] = at
place_after n at (b ∷ bs) = place_after n (onward n at) bs

-- the buffer after them
unfoldable pub bytes_after : List ℕ → ℕ → List ℕ → List ℕ
bytes_after out at [] = out
bytes_after out at (b ∷ bs) = bytes_after (set out at b) (onward (length out) at) bs

-- a text is put into a buffer from a place on: the buffer after it, and the next place
pub record Put (before : List ℕ) (at : ℕ) (text after : List ℕ) (next : ℕ) : Type 0 where
  pub place : next ≡ place_after (length before) at text
  pub bytes : after ≡ bytes_after before at text

-- bytes at the front of a buffer, and nothing past them changed; where they do not fit, nothing is
abbrev pub filled : List ℕ → List ℕ → List ℕ
filled bytes out = pick (leb (length bytes) (length out)) (bytes ++ drop (length bytes) out) out

-- how many bytes that are
abbrev pub filled_count : List ℕ → List ℕ → ℕ
filled_count bytes out = pick (leb (length bytes) (length out)) (length bytes) 0
