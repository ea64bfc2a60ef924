-- A number and its values as words that an export writes. Left free by document 01. Definitions only.
use Rattle.std.specs.Prelude.{List, ℕ, ◌+◌, ltb, leb, length, get_or, set}
use Rattle.instruction.specs.Word.{pick}

-- word 2: the fourth value, a pending object, and 1; 0 where there is none
abbrev pub pending_word : List ℕ → ℕ
pending_word vs = pick (ltb 3 (length vs)) (get_or vs 3 0 + 1) 0

-- five words: the number; the line, or the steps made; the pending object and 1, or 0; open frames; objects made. Nothing is
-- written where fewer than five are lent
abbrev pub answered : ℕ → List ℕ → List ℕ → List ℕ
answered number vs before =
    pick (leb 5 (length before))
    (set (set (set (set (set before 0 number) 1 (get_or vs 0 0)) 2 (pending_word vs)) 3 (get_or vs 1 0)) 4 (get_or vs 2 0))
    before

-- of a verdict, a reading, and a text that is written: the number; up to three values, 0 where there are fewer; 0
abbrev pub verdict_answered : ℕ → List ℕ → List ℕ → List ℕ
verdict_answered number vs before =
    pick (leb 5 (length before))
    (set (set (set (set (set before 0 number) 1 (get_or vs 0 0)) 2 (get_or vs 1 0)) 3 (get_or vs 2 0)) 4 0)
    before
