-- Demand 3 of what is printed: where it begins with `accepted`, the calls that its lines say cover the run. Assumes nothing.
use mathlib.Core.Path.{◌≡◌, refl, sym, ap, ◌∙◌}
use mathlib.Core.List.{List, [], ◌∷◌, ◌++◌}
use Prim.Native.Nat.{ℕ, suc, ◌+◌, ◌*◌, ◌/◌, ◌%◌, ◌<◌}
use native.Mathlib.Omega.{arith}
use lib.Dec.{ltb, leb}
use lib.ListN.{length, take, drop, get_or}
use lib.Seq.{take-append_seam}
use borrow.Author.Tests.{ltb-true, ltb-false, lt-ltb, le-ltb}
use Rattle.text.specs.Hex.{digit_of}
use Rattle.text.proofs.Cases.{by_test, never}
use Rattle.page.specs.Digits.{digit_of as printed_digit}
use Rattle.page.specs.Page.{filled, filled_count}
use Rattle.program.specs.Lists.{tab, Every}
use Rattle.program.proofs.Every.{every_map}
use Rattle.program.proofs.Lists.{tab_cong}
use Rattle.reader.specs.Read.{Reading, refused, taken, read_program}
use Rattle.reader.proofs.WellFormed.{well_formed}
use Rattle.machine.specs.History.{Made}
use Rattle.flow.specs.Calls.{call_list, CalledIn}
use Rattle.flow.proofs.Ordered.{list_called}
use Rattle.slots.specs.Layout.{claim_in}
use Rattle.checker.specs.Check.{Checking, turned_down, short, broken, kept, checking}
use Rattle.checker.specs.Coverage.{Coverage}
use Rattle.checker.proofs.Kept.{Kept, kept_texts, kept_covered}
use Rattle.report.specs.Printed.{three, accepted_word}
use Rattle.response.specs.Claimed.{lines_for, number_said, calls_said, said_of, longer, checking_of, said}

-- ---- calls back from their lines
digit_back : (n : ℕ) → n < 16 → digit_of (printed_digit n) ≡ n
unfolding digit_of printed_digit
digit_back n l =
    by_test (ltb n 10)
    (λ t.
    let h = ltb-true n 10 t in
    simp (t, le-ltb (48 + n) 48 (omega arith), lt-ltb (48 + n) 58 (omega arith)) (omega arith))
    (λ t.
    let h = ltb-false n 10 t in
    simp (
      t,
      le-ltb (87 + n) 48 (omega arith),
      le-ltb (87 + n) 58 (omega arith),
      le-ltb (87 + n) 97 (omega arith),
      lt-ltb (87 + n) 103 (omega arith),
    )
    (omega arith))

-- the two digits of a byte
byte_back : (n : ℕ) → n < 256 → digit_of (printed_digit (n / 16 % 16)) * 16 + digit_of (printed_digit (n % 16)) ≡ n
byte_back n l = rw (digit_back (n / 16 % 16) (omega arith), digit_back (n % 16) (omega arith)) (omega arith)

-- call i of lines
abbrev call_at : List ℕ → ℕ → Made
call_at lines i =
    record {
      caller = number_said lines (9 * i);
      address = number_said lines (9 * i + 3);
      callee = number_said lines (9 * i + 6);
    }

-- a call of three bytes
abbrev Bytes : Made → Type 0
Bytes x = (x.caller < 256) × ((x.address < 256) × (x.callee < 256))

abbrev line_of : Made → List ℕ
line_of x = three x.caller x.address x.callee

-- the first line, and those past it
call_first : (x : Made) (lines : List ℕ) → Bytes x → call_at (line_of x ++ lines) 0 ≡ x
unfolding number_said
call_first x lines b = rw (byte_back x.caller b.0, byte_back x.address b.1.0, byte_back x.callee b.1.1)

number_past : (x : Made) (lines : List ℕ) (at to : ℕ) → to ≡ 9 + at → number_said (line_of x ++ lines) to ≡ number_said lines at
unfolding number_said
number_past x lines at to e =
    let next : to + 1 ≡ suc (suc (suc (suc (suc (suc (suc (suc (suc (at + 1))))))))) = omega (arith, e) in
    let here : to ≡ suc (suc (suc (suc (suc (suc (suc (suc (suc at)))))))) = omega (arith, e) in
    rw (next, here)

call_past : (x : Made) (lines : List ℕ) (i : ℕ) → call_at (line_of x ++ lines) (suc i) ≡ call_at lines i
call_past x lines i =
    rw (
      number_past x lines (9 * i) (9 * suc i) (omega arith),
      number_past x lines (9 * i + 3) (9 * suc i + 3) (omega arith),
      number_past x lines (9 * i + 6) (9 * suc i + 6) (omega arith),
    )

lines_length : (xs : List Made) → length (lines_for xs) ≡ 9 * length xs
lines_length [] = refl
lines_length (x ∷ xs) = omega (arith, lines_length xs)

lines_back : (xs : List Made) → Every Bytes xs → tab (length xs) (call_at (lines_for xs)) ≡ xs
lines_back [] b = refl
lines_back (x ∷ xs) b =
    rw (call_first x (lines_for xs) b.0)
    (ap (λ (l : List Made). x ∷ l)
    (tab_cong (length xs) (λ i. call_at (lines_for (x ∷ xs)) (suc i)) (call_at (lines_for xs)) (λ i l. call_past x (lines_for xs) i)
    ∙ lines_back xs b.1))

calls_said_lem : (xs : List Made) → Every Bytes xs → calls_said (lines_for xs) ≡ xs
calls_said_lem xs b =
    let count : length (lines_for xs) / 9 ≡ length xs = omega (arith, lines_length xs) in
    rw count (lines_back xs b)

-- every number of a call list is a byte
kept_bytes : (program claim : List ℕ) (calls : List Made) → Kept program claim calls → Every Bytes calls
kept_bytes program claim calls h =
    let limited = (well_formed program h.p h.program_read).limited in
    rw (sym h.listed)
    (every_map (CalledIn h.p (claim_in h.masks)) Bytes
    (λ x c. (
      omega (arith, c.caller_in, limited.methods),
      (omega (arith, c.address_in, limited.code x.caller), omega (arith, c.callee_in, limited.methods)),
    ))
    (call_list h.p (claim_in h.masks)) (list_called h.p (claim_in h.masks)))

-- ---- what is printed as accepted
longer_turned : (r : Reading) (calls : List Made) → longer r ≡ kept calls → ⊥
longer_turned (refused number line) calls e = never (cc)
longer_turned (taken p) calls e = never (cc)

-- a claim that is kept is not longer
kept_short : (panel claim : List ℕ) (calls : List Made) → checking_of panel claim ≡ kept calls → checking panel claim 24576 ≡ kept calls
unfolding checking_of
kept_short panel claim calls e =
    by_test (leb (length claim) 65536) (λ t. rw t at e) (λ t. absurd (longer_turned (read_program panel) calls (rw t at e)))

module _ (panel claim lines : List ℕ) where
  other_word : {A : Type 0} (xs : List ℕ) → (get_or xs 0 0 ≡ 97 → ⊥) → xs ≡ accepted_word ++ lines → A
  other_word xs d e = absurd (d (ap (λ (l : List ℕ). get_or l 0 0) e))

  covered_by : (x : Checking) → checking_of panel claim ≡ x → said_of x ≡ accepted_word ++ lines → Coverage panel claim (calls_said lines)
  covered_by (turned_down number line) e s = other_word (said_of (turned_down number line)) (λ h. absurd (omega (arith, h))) s
  covered_by short e s = other_word (said_of short) (λ h. absurd (omega (arith, h))) s
  covered_by (broken rule method address) e s = other_word (said_of (broken rule method address)) (λ h. absurd (omega (arith, h))) s
  covered_by (kept calls) e s =
      let there = kept_short panel claim calls e in
      let printed : lines_for calls ≡ lines = ap (drop 9) s in
      let bytes = kept_bytes panel claim calls (kept_texts panel claim 24576 calls there) in
      let listed : calls_said lines ≡ calls = rw (sym printed) (calls_said_lem calls bytes) in
      rw listed (kept_covered panel claim 24576 calls there)

  pub said_covered : said panel claim ≡ accepted_word ++ lines → Coverage panel claim (calls_said lines)
  unfolding said
  said_covered = covered_by (checking_of panel claim) refl

  -- the first n bytes of a buffer that is filled with it
  pub printed_covered : (before after : List ℕ) (n : ℕ) → n ≡ filled_count (said panel claim) before
      → after ≡ filled (said panel claim) before → take n after ≡ accepted_word ++ lines → Coverage panel claim (calls_said lines)
  printed_covered before after n count bytes s =
      by_test (leb (length (said panel claim)) (length before))
      (λ t.
      let all : take n after ≡ said panel claim =
      rw (count, bytes, t) (take-append_seam (said panel claim) (drop (length (said panel claim)) before)) in
      said_covered (sym all ∙ s))
      (λ t.
      let none : n ≡ 0 = count ∙ rw t in
      let empty : take 0 after ≡ accepted_word ++ lines = rw none at s in
      absurd (omega (arith, ap length empty)))
