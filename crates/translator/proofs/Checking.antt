-- The instruction at a start, by its opcode. Assumes nothing.
use mathlib.Core.Path.{◌≡◌, sym, ap, ◌∙◌}
use mathlib.Core.Bool.{Bool, true, false, ◌&&◌, and-true, and-false}
use mathlib.Core.List.{List}
use Prim.Native.Nat.{ℕ, ◌+◌, ◌-◌, ◌/◌, ◌%◌, ◌≤◌, ◌<◌}
use native.Mathlib.Omega.{arith}
use lib.Dec.{eqb, leb, ltb}
use lib.ListN.{length}
use borrow.Author.Tests.{lt-ltb, le-ltb, le-leb, lt-leb, eqb-true, eqb-false, ltb-true, ltb-false}
use Rattle.text.proofs.Cases.{by_test, both_true}
use Rattle.instruction.specs.declared.Instruction.{Instruction}
use Rattle.instruction.specs.Test.{Test, passes, Holds}
use Rattle.instruction.specs.Word.{word_of}
use Rattle.instruction.proofs.Laws.{holds, passing}
use Rattle.units.specs.declared.Branch.{Branch}
use Rattle.units.specs.declared.Branch.TheVariants.{Goto, Goto16, Goto32, If, IfZero}
use Rattle.units.specs.declared.Opcode.{Opcode}
use Rattle.units.specs.Units.{units_of, unit_at, length_at, starts_of, address_in}
use Rattle.units.specs.Formats.{opcode_at, target_of}
use Rattle.units.specs.Frames.{branch_fine, branch_frame, reached, framed, fine}
use Rattle.units.specs.Translate.{is_taken}
use Rattle.translator.specs.declared.walk.Start.{Start}
use Rattle.std.specs.Prelude.{Ok, Err}
use Rattle.translator.specs.declared.check.Fault.TheVariants.{CutShort, Unknown, Broken}
use Rattle.translator.specs.Inside.{Sought, branch_target, word_by, branch_checked, checked_at}
use Rattle.units.proofs.Texts.{unit_count}

pub by_false : (t : Test) (i : Instruction) → passes t ≡ false → Err Broken ≡ word_by t i
by_false t i e = rw e

pub by_true : (t : Test) (i : Instruction) → passes t ≡ true → Ok (word_of i) ≡ word_by t i
by_true t i e = rw e

-- ---- a branch
-- where it leads, by its units
pub target_place : (text : List ℕ) (at : ℕ) (b : Branch) (u v w place : ℕ) → place ≡ target_of (length text / 4) at b u v w
    → u ≡ unit_at (units_of text) at → v ≡ unit_at (units_of text) (at + 1) → w ≡ unit_at (units_of text) (at + 2)
    → place ≡ branch_target (units_of text) at b
target_place text at b u v w place e first second third = rw (unit_count text, ← first, ← second, ← third) e

there_of : (t : Test) (b : Branch) (u v : ℕ) → Holds (branch_fine t b u v) → Holds t
there_of t Goto u v h = h.1
there_of t Goto16 u v h = h.1.1
there_of t Goto32 u v h = h.1
there_of t (If c) u v h = h.1
there_of t (IfZero c) u v h = h.1

module _ (us : List ℕ) (place : ℕ) (r : Start) (s : Sought us place r) where
  abbrev pub there : Bool
  there = eqb r.place place && (ltb place (length us) && ltb r.address 4294967296)

  not_there : length (starts_of us) ≤ address_in us place → false ≡ passes (reached us place)
  not_there l = rw (le-ltb (address_in us place) (length (starts_of us)) l)

  -- the walk is at the place just when the place is a start whose address goes into four bytes
  pub there_reached : there ≡ passes (reached us place)
  there_reached =
      by_test (eqb r.place place)
      (λ t. by_test (ltb place (length us))
      (λ l.
      let f = s.found (eqb-true r.place place t) (ltb-true place (length us) l) in
      rw (t, l, f.0, lt-ltb r.address (length (starts_of us)) f.1))
      (λ l. rw (t, l) (not_there (s.past (ltb-false place (length us) l)))))
      (λ t. rw t (not_there (s.lost (eqb-false r.place place t))))

  -- then its address is where the walk is
  pub there_address : (b : Branch) (u v : ℕ) → passes
      (branch_fine (reached us place) b u v) ≡ true → r.address % 4294967296 ≡ address_in us place
  there_address b u v e =
      let p = passing (reached us place) (there_of (reached us place) b u v (holds (branch_fine (reached us place) b u v) e)) in
      let t = both_true (eqb r.place place) (ltb place (length us) && ltb r.address 4294967296) (there_reached ∙ p) in
      let l = both_true (ltb place (length us)) (ltb r.address 4294967296) t.1 in
      let f = s.found (eqb-true r.place place t.0) (ltb-true place (length us) l.0) in
      let small = ltb-true r.address 4294967296 l.1 in
      omega (arith, f.0)

-- the same as code tests it
pub branch_there : (text : List ℕ) (at : ℕ) (b : Branch) (r : Start) (place : ℕ) → place ≡ branch_target (units_of text) at b
    → Sought (units_of text) (branch_target (units_of text) at b) r
    → eqb r.place place && (ltb place (length text / 4) && ltb r.address 4294967296)
    ≡ passes (reached (units_of text) (branch_target (units_of text) at b))
branch_there text at b r place e s =
    rw (e, sym (unit_count text)) (there_reached (units_of text) (branch_target (units_of text) at b) r s)

-- what a branch is, by units that were read
module _ (us : List ℕ) (at : ℕ) (b : Branch) (u v : ℕ) (first : u ≡ unit_at us at) (second : v ≡ unit_at us (at + 1)) where
  abbrev pub asked : Test
  asked = branch_fine (reached us (branch_target us at b)) b u v

  pub branch_refused : passes asked ≡ false → Err Broken ≡ branch_checked us at b
  branch_refused e =
      by_false (branch_fine (reached us (branch_target us at b)) b (unit_at us at) (unit_at us (at + 1)))
      (branch_frame (address_in us (branch_target us at b)) b (unit_at us at)) (rw (first, second) at e)

  pub branch_word : passes asked ≡ true → (to : ℕ) → to ≡ address_in us (branch_target us at b) → (word : ℕ)
      → word ≡ word_of (branch_frame to b u) → Ok word ≡ branch_checked us at b
  branch_word e to is word w =
      ap Ok (w ∙ rw (is, first))
      ∙ by_true (branch_fine (reached us (branch_target us at b)) b (unit_at us at) (unit_at us (at + 1)))
      (branch_frame (address_in us (branch_target us at b)) b (unit_at us at)) (rw (first, second) at e)

-- ---- an instruction
module _ (us : List ℕ) (at k : ℕ) (l : at < length us) where
  pub cut_short : length us - at < length_at us at → Err CutShort ≡ checked_at us at k
  cut_short h = rw (lt-leb (at + length_at us at) (length us) (omega arith))

  module _ (h : length_at us at ≤ length us - at) (o : Opcode) (e : o ≡ opcode_at us at) where
    abbrev pub test : Test
    test = fine us at o (unit_at us at) (unit_at us (at + 1)) (unit_at us (at + 2))

    abbrev pub frame : Instruction
    frame = framed us at o (unit_at us at) (unit_at us (at + 1)) (unit_at us (at + 2))

    entire : leb (at + length_at us at) (length us) ≡ true
    entire = le-leb (at + length_at us at) (length us) (omega arith)

    pub not_taken : is_taken o ≡ false → Err Unknown ≡ checked_at us at k
    not_taken t = rw (entire, ← e, t)

    module _ (t : is_taken o ≡ true) where
      pub too_many : 32 ≤ k → Err Broken ≡ checked_at us at k
      too_many m = rw (entire, ← e, t, le-ltb k 32 m, and-false (passes test))

      pub well : k < 32 → word_by test frame ≡ checked_at us at k
      well m = rw (entire, ← e, t, lt-ltb k 32 m, and-true (passes test))
