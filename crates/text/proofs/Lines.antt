-- The lines of a text: what the run of digits at its start says of its first line, and what a reader of lines may take from
-- what was read. Assumes nothing.
use mathlib.Core.Path.{◌≡◌, refl, sym, ◌∙◌}
use mathlib.Core.Bool.{Bool, true, false, not, ◌&&◌, and-false, and_assoc}
use mathlib.Core.List.{List, [], ◌∷◌}
use Prim.Native.Nat.{ℕ, suc, ◌+◌, ◌%◌, ◌≤◌, ◌<◌}
use native.Mathlib.Omega.{arith}
use lib.ListN.{length, take, drop, get_or, length-drop, get_or-eq_default}
use lib.Seq.{drop-drop, get_or-drop, length-take-le}
use lib.Dec.{eqb, ltb}
use borrow.Author.Tests.{not-true, lt-ltb, eq-eqb, ne_eqb, ltb-true, ltb-false, eqb-true, eqb-false}
use Rattle.text.specs.Hex.{pick, digit_of, all_digits, Line, onto, lines_of, whole, line_read_of}
use Rattle.text.specs.Run.{digit_run}
use Rattle.text.specs.declared.LineRead.TheVariants.{Whole, Broken, End}
use Rattle.text.proofs.Cases.{by_test, never, both_true}
-- with the bound of a number, for readers that cite the laws of this file
pub use Rattle.text.proofs.Numbers.{number_bound}

-- a digit is not byte 0a
digit_no_end : (b : ℕ) → ltb (digit_of b) 16 ≡ true → b ≡ 10 → ⊥
unfolding digit_of
digit_no_end b d e = omega (arith, ltb-true (digit_of 10) 16 (rw e at d))

-- the first line stays not whole whatever stands before it: it has no end, or another byte
abbrev spoiled : List Line → Bool
spoiled [] = false
spoiled (l ∷ ls) = not (l.ended && all_digits l.bytes)

-- a byte that is no digit spoils the line that it stands before
spoils : (b : ℕ) (ls : List Line) → ltb (digit_of b) 16 ≡ false → spoiled (onto b ls) ≡ true
unfolding all_digits
spoils b [] d = refl
spoils b (l ∷ ls) d = simp (d, and-false)

-- a spoiled line stays so behind a digit
stays : (b : ℕ) (ls : List Line) → ltb (digit_of b) 16 ≡ true → spoiled ls ≡ true → spoiled (onto b ls) ≡ true
unfolding all_digits
stays b [] d h = refl
stays b (l ∷ ls) d h = simp d h

-- a spoiled line is not whole
spoiled_broken : (ls : List Line) → spoiled ls ≡ true → line_read_of ls ≡ Broken
unfolding whole
spoiled_broken [] h = never (cc)
spoiled_broken (l ∷ ls) h =
    let b : l.ended && all_digits l.bytes ≡ false = not-true _ h in
    rw (← and_assoc l.ended (all_digits l.bytes), b)

-- the run of digits is no longer than the text
run_length : (s : List ℕ) → digit_run s ≤ length s
unfolding digit_run
run_length [] = omega arith
run_length (b ∷ bs) =
    by_test (ltb (digit_of b) 16) (λ d. rw d (omega (arith, run_length bs))) (λ d. rw d (omega arith))

-- the run has digits alone
run_digits : (s : List ℕ) → all_digits (take (digit_run s) s) ≡ true
unfolding digit_run all_digits
run_digits [] = refl
run_digits (b ∷ bs) =
    by_test (ltb (digit_of b) 16) (λ d. simp (d, run_digits bs)) (λ d. rw d)

-- byte 0a after the run: it ends the first line, which is the run
first_line_lem : (s : List ℕ) → get_or s (digit_run s) 0 ≡ 10
    → lines_of s ≡ record { bytes = take (digit_run s) s; ended = true } ∷ lines_of (drop (suc (digit_run s)) s)
unfolding digit_run lines_of
first_line_lem [] e = absurd (omega arith)
first_line_lem (b ∷ bs) e =
    by_test
    (ltb (digit_of b) 16)
    (λ d. rw (d, ne_eqb b 10 (digit_no_end b d), first_line_lem bs (rw d at e)))
    (λ d. rw (d, eq-eqb b 10 (rw d at e)))

-- another byte after the run, or none: the first line is spoiled
first_spoiled : (s : List ℕ) → 0 < length s → (get_or s (digit_run s) 0 ≡ 10 → ⊥) → spoiled (lines_of s) ≡ true
unfolding digit_run lines_of
first_spoiled [] l none = absurd (omega arith)
first_spoiled (b ∷ []) l none =
    by_test
    (ltb (digit_of b) 16)
    (λ d. rw (ne_eqb b 10 (digit_no_end b d)))
    (λ d. rw (ne_eqb b 10 (rw d at none)))
first_spoiled (b ∷ x ∷ xs) l none =
    by_test
    (ltb (digit_of b) 16)
    (λ d. rw (ne_eqb b 10 (digit_no_end b d))
    (stays b (lines_of (x ∷ xs)) d (first_spoiled (x ∷ xs) (omega arith) (rw d at none))))
    (λ d. rw (ne_eqb b 10 (rw d at none)) (spoils b (lines_of (x ∷ xs)) d))

-- another byte after the run, or none: a broken line
spoiled_read : (s : List ℕ) → 0 < length s → (get_or s (digit_run s) 0 ≡ 10 → ⊥) → line_read_of (lines_of s) ≡ Broken
spoiled_read s l none = spoiled_broken (lines_of s) (first_spoiled s l none)

-- no text, no line
pub no_text : (s : List ℕ) → length s ≤ 0 → line_read_of (lines_of s) ≡ End
unfolding lines_of
no_text [] l = refl
no_text (b ∷ bs) l = absurd (omega arith)

-- the run, as an ended line, is whole if its digits are pairs, at least one
run_whole : (s : List ℕ)
    → whole (record { bytes = take (digit_run s) s; ended = true }) ≡ ltb 0 (digit_run s) && eqb (digit_run s % 2) 0
unfolding whole
run_whole s = simp (run_digits s, length-take-le (digit_run s) s (run_length s))

-- the run, ended: a whole line if its digits are pairs, at least one
ended_read : (s : List ℕ) → get_or s (digit_run s) 0 ≡ 10
    → line_read_of (lines_of s) ≡ pick (ltb 0 (digit_run s) && eqb (digit_run s % 2) 0) (Whole (digit_run s)) Broken
ended_read s e =
    rw (first_line_lem s e, run_whole s, length-take-le (digit_run s) s (run_length s))

-- r digits that count as a whole line of n: they are n, at least one, in pairs
pairs : (r n : ℕ) → pick (ltb 0 r && eqb (r % 2) 0) (Whole r) Broken ≡ Whole n → (r ≡ n) × (0 < r) × (r % 2 ≡ 0)
pairs r n e =
    by_test
    (ltb 0 r)
    (λ p. by_test
    (eqb (r % 2) 0)
    (λ q. (cc (simp (p, q) at e), ltb-true 0 r p, eqb-true (r % 2) 0 q))
    (λ q. never (cc (simp (p, q) at e))))
    (λ p. never (cc (simp p at e)))

-- a whole line: byte 0a follows the run, which is the line
whole_run : (s : List ℕ) (n : ℕ) → line_read_of (lines_of s) ≡ Whole n
    → (get_or s (digit_run s) 0 ≡ 10) × (digit_run s ≡ n) × (0 < digit_run s) × (digit_run s % 2 ≡ 0)
whole_run s n e =
    by_test
    (eqb (get_or s (digit_run s) 0) 10)
    (λ t. let h : get_or s (digit_run s) 0 ≡ 10 = eqb-true (get_or s (digit_run s) 0) 10 t in
    let p = pairs (digit_run s) n (sym (ended_read s h) ∙ e) in
    (h, p.0, p.1, p.2))
    (λ t. by_test
    (ltb 0 (length s))
    (λ l. never (cc (spoiled_read s (ltb-true 0 (length s) l) (eqb-false (get_or s (digit_run s) 0) 10 t))))
    (λ l. never (cc (no_text s (ltb-false 0 (length s) l)))))

-- lines of which the first was read as broken: there is a first, and it is not whole
broken_first : (ls : List Line) → line_read_of ls ≡ Broken
    → (l : Line) × (rest : List Line) × (ls ≡ l ∷ rest) × (whole l ≡ false)
broken_first [] e = never (cc)
broken_first (l ∷ ls) e =
    by_test
    (whole l)
    (λ w. never (cc (rw w at e)))
    (λ w. (l, ls, refl, w))

-- lines of which none was read: there is none
none_first : (ls : List Line) → line_read_of ls ≡ End → ls ≡ []
none_first [] e = refl
none_first (l ∷ ls) e =
    by_test
    (whole l)
    (λ w. never (cc (rw w at e)))
    (λ w. never (cc (rw w at e)))

-- byte 0a stands inside the text
pub end_inside : (s : List ℕ) (i : ℕ) → get_or s i 0 ≡ 10 → i < length s
end_inside s i e =
    by_test
    (ltb i (length s))
    (λ t. ltb-true i (length s) t)
    (λ t. never (omega (arith, e, get_or-eq_default s 0 (ltb-false i (length s) t))))

-- a whole line has digits only
pub whole_digits : (ds : List ℕ) → whole (record { bytes = ds; ended = true }) ≡ true → all_digits ds ≡ true
unfolding whole
whole_digits ds w = (both_true (all_digits ds) (ltb 0 (length ds) && eqb (length ds % 2) 0) w).0

-- At a place of a text, where a run of n digits stands.
module _ (s : List ℕ) (at n : ℕ) (run : n ≡ digit_run (drop at s)) where
  -- the byte after it is where the text has it
  after_run : get_or (drop at s) (digit_run (drop at s)) 0 ≡ get_or s (at + n) 0
  after_run = rw (← run) (get_or-drop at s n 0)

  -- byte 0a follows: a whole line if the digits are pairs, at least one
  pub ended_at : get_or s (at + n) 0 ≡ 10
      → line_read_of (lines_of (drop at s)) ≡ pick (ltb 0 n && eqb (n % 2) 0) (Whole n) Broken
  ended_at e = rw run (ended_read (drop at s) (after_run ∙ e))

  -- another byte follows, or none
  pub spoiled_at : at < length s → (get_or s (at + n) 0 ≡ 10 → ⊥) → line_read_of (lines_of (drop at s)) ≡ Broken
  spoiled_at l none =
      spoiled_read (drop at s) (simp length-drop (omega arith)) (λ e. none (sym after_run ∙ e))

-- What a reader of lines may take from what was read at a place.
module _ (s : List ℕ) (at : ℕ) where
  -- a whole line: it stands there, its digits and its end, and the lines after it are those of what follows its end
  pub next_line : (n : ℕ) → line_read_of (lines_of (drop at s)) ≡ Whole n
      → (at + n < length s)
      × (0 < n)
      × (n % 2 ≡ 0)
      × (lines_of (drop at s) ≡ record { bytes = take n (drop at s); ended = true } ∷ lines_of (drop (at + n + 1) s))
      × (whole (record { bytes = take n (drop at s); ended = true }) ≡ true)
  next_line n e =
      let w = whole_run (drop at s) n e in
      let r : ℕ = digit_run (drop at s) in
      let sum : at + suc r ≡ at + r + 1 = omega arith in
      let after : drop (suc r) (drop at s) ≡ drop (at + r + 1) s = drop-drop (suc r) at s ∙ rw sum in
      rw (← w.1) (
        omega (arith, simp length-drop at (end_inside (drop at s) r w.0)),
        w.2,
        w.3,
        rw after at (first_line_lem (drop at s) w.0),
        run_whole (drop at s) ∙ simp (lt-ltb 0 r w.2, eq-eqb (r % 2) 0 w.3),
      )

  -- a broken line: there is a line, and it is not whole
  pub broken_line : line_read_of (lines_of (drop at s)) ≡ Broken
      → (l : Line) × (ls : List Line) × (lines_of (drop at s) ≡ l ∷ ls) × (whole l ≡ false)
  broken_line e = broken_first (lines_of (drop at s)) e

  -- no line: there is none
  pub no_line : line_read_of (lines_of (drop at s)) ≡ End → lines_of (drop at s) ≡ []
  no_line e = none_first (lines_of (drop at s)) e
