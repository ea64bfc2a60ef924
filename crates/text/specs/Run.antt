-- How many digits a text starts with: what the scan of a line counts. Definitions only.
use Rattle.std.specs.Prelude.{List, [], ◌∷◌, ℕ, suc, ltb}
use Rattle.text.specs.Hex.{pick, digit_of}

-- how many digits stand before the first byte that is none, or before the end
unfoldable pub digit_run : List ℕ → ℕ
digit_run [] = 0
digit_run (b ∷ bs) = pick (ltb (digit_of b) 16) (suc (digit_run bs)) 0
