-- Places of slots: that of a slot outside its limits, the greatest place of a row, that two slots which lie inside the words never share
-- a place (the slot is read back from it), and what a write leaves of a claim. Assumes nothing.
use mathlib.Core.Path.{◌≡◌, refl, sym, ap, ◌∙◌}
use mathlib.Core.Bool.{Bool, true, false, ◌&&◌}
use mathlib.Core.List.{List}
use mathlib.Core.Logic.{◌≢◌}
use Prim.Native.Nat.{ℕ, ◌+◌, ◌*◌, ◌-◌, ◌/◌, ◌%◌, ◌≤◌, ◌<◌}
use native.Mathlib.Omega.{arith}
use lib.Dec.{ltb}
use lib.ListN.{length, set}
use lib.Seq.{get_or-set_same, get_or-set_other}
use borrow.Author.Tests.{ltb-true, ltb-false, lt-ltb, le-ltb, ne_eqb}
use Rattle.text.proofs.Cases.{by_test}
use Rattle.instruction.specs.Word.{pick}
use Rattle.instruction.proofs.Flags.{both_true}
use Rattle.flow.specs.Claim.{Slot, register_at, result_at, field_of, static_of, returned_by, leaving}
use Rattle.slots.specs.Layout.{claim_size, row_of, place_of, slot_of_row, slot_at, mask_of, claim_in}

-- ---- the rows
pub row_in_lem : (m pc : ℕ) → m < 16 → pc < 32 → row_of m pc ≡ (m * 32 + pc) * 17
unfolding row_of
row_in_lem m pc l h = rw (lt-ltb m 16 l, lt-ltb pc 32 h)

pub row_method : (m pc : ℕ) → 16 ≤ m → row_of m pc ≡ claim_size
unfolding row_of
row_method m pc l = rw (le-ltb m 16 l)

pub row_address : (m pc : ℕ) → 32 ≤ pc → row_of m pc ≡ claim_size
unfolding row_of
row_address m pc l = by_test (ltb m 16) (λ t. rw (t, le-ltb pc 32 l)) (λ t. rw t)

pub row_most : (m pc : ℕ) → row_of m pc ≤ claim_size
row_most m pc =
    by_test (ltb m 16)
    (λ t. by_test (ltb pc 32)
    (λ h. omega (arith, row_in_lem m pc (ltb-true m 16 t) (ltb-true pc 32 h), ltb-true m 16 t, ltb-true pc 32 h))
    (λ h. omega (arith, row_address m pc (ltb-false pc 32 h))))
    (λ t. omega (arith, row_method m pc (ltb-false m 16 t)))

-- ---- the slot at a place, in each range
row_back : (m pc x : ℕ) → x ≤ 16 → row_of m pc + x < claim_size → slot_at (row_of m pc + x) ≡ slot_of_row m pc x
row_back m pc x few l =
    by_test (ltb m 16)
    (λ t. by_test (ltb pc 32)
    (λ h. inside (ltb-true m 16 t) (ltb-true pc 32 h))
    (λ h. absurd (omega (arith, row_address m pc (ltb-false pc 32 h)))))
    (λ t. absurd (omega (arith, row_method m pc (ltb-false m 16 t))))
  where
    inside : m < 16 → pc < 32 → slot_at (row_of m pc + x) ≡ slot_of_row m pc x
    inside lm lp =
        let i = (m * 32 + pc) * 17 + x in
        let method : i / 544 ≡ m = omega arith in
        let address : i / 17 % 32 ≡ pc = omega arith in
        let word : i % 17 ≡ x = omega arith in
        rw (row_in_lem m pc lm lp, lt-ltb i 8704 (omega arith), method, address, word)

field_back : (c x : ℕ) → c < 60 → x < 16 → slot_at (8704 + c * 16 + x) ≡ field_of c x
field_back c x lc lx =
    let i = 8704 + c * 16 + x in
    let class : (i - 8704) / 16 ≡ c = omega arith in
    let field : (i - 8704) % 16 ≡ x = omega arith in
    rw (le-ltb i 8704 (omega arith), lt-ltb i 9664 (omega arith), class, field)

static_back : (x : ℕ) → x < 16 → slot_at (9664 + x) ≡ static_of x
static_back x l =
    let i = 9664 + x in
    let static : i - 9664 ≡ x = omega arith in
    rw (le-ltb i 8704 (omega arith), le-ltb i 9664 (omega arith), lt-ltb i 9680 (omega arith), static)

returned_back : (m : ℕ) → m < 16 → slot_at (9680 + m) ≡ returned_by m
returned_back m l =
    let i = 9680 + m in
    let method : i - 9680 ≡ m = omega arith in
    rw (le-ltb i 8704 (omega arith), le-ltb i 9664 (omega arith), le-ltb i 9680 (omega arith), lt-ltb i 9696 (omega arith), method)

leaving_back : (m : ℕ) → m < 16 → slot_at (9696 + m) ≡ leaving m
leaving_back m l =
    let i = 9696 + m in
    let method : i - 9696 ≡ m = omega arith in
    rw (le-ltb i 8704 (omega arith), le-ltb i 9664 (omega arith), le-ltb i 9680 (omega arith), le-ltb i 9696 (omega arith), method)

-- a place where a test passes, past the last word where it fails
chosen_back : (t : Bool) (i : ℕ) (s : Slot) → (t ≡ true → i < claim_size → slot_at i ≡ s) → pick t i claim_size < claim_size
    → slot_at (pick t i claim_size) ≡ s
chosen_back true i s f l = f refl l
chosen_back false i s f l = absurd (omega arith)

-- ---- every slot inside the words
pub place_back : (s : Slot) → place_of s < claim_size → slot_at (place_of s) ≡ s
unfolding place_of
place_back (register_at m pc r) l =
    chosen_back (ltb r 16) (row_of m pc + r) (register_at m pc r)
    (λ t h.
    let few = ltb-true r 16 t in
    row_back m pc r (omega (arith, few)) h ∙ rw (ne_eqb r 16 (omega (arith, few))))
    l
place_back (result_at m pc) l = row_back m pc 16 (omega arith) l
place_back (field_of c x) l =
    chosen_back (ltb c 60 && ltb x 16) (8704 + c * 16 + x) (field_of c x)
    (λ t h. let b = both_true (ltb c 60) (ltb x 16) t in field_back c x (ltb-true c 60 b.0) (ltb-true x 16 b.1))
    l
place_back (static_of x) l = chosen_back (ltb x 16) (9664 + x) (static_of x) (λ t h. static_back x (ltb-true x 16 t)) l
place_back (returned_by m) l = chosen_back (ltb m 16) (9680 + m) (returned_by m) (λ t h. returned_back m (ltb-true m 16 t)) l
place_back (leaving m) l = chosen_back (ltb m 16) (9696 + m) (leaving m) (λ t h. leaving_back m (ltb-true m 16 t)) l

pub places_apart : (s t : Slot) → place_of s < claim_size → place_of t < claim_size → place_of s ≡ place_of t → s ≡ t
places_apart s t ls lt e = sym (place_back s ls) ∙ ap slot_at e ∙ place_back t lt

-- ---- a write
pub claim_same : (ws : List ℕ) (s : Slot) (n : ℕ) → place_of s < length ws → claim_in (set ws (place_of s) n) s ≡ mask_of n
unfolding claim_in
claim_same ws s n l = ap mask_of (get_or-set_same ws (place_of s) n 0 l)

pub claim_other : (ws : List ℕ) (s t : Slot) (n : ℕ) → place_of s < claim_size → place_of t < claim_size → s ≢ t
    → claim_in (set ws (place_of s) n) t ≡ claim_in ws t
unfolding claim_in
claim_other ws s t n ls lt h =
    ap mask_of (get_or-set_other ws (place_of s) (place_of t) n 0 (λ e. h (places_apart s t ls lt (sym e))))
