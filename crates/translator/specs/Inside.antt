-- What the inner functions promise one another. Definitions only, and none that a reader of the public promise has to believe.
use Rattle.std.specs.Prelude.{◌≡◌, true, List, [], ◌∷◌, ◌++◌, map, ℕ, suc, ◌+◌, ◌*◌, ◌/◌, ◌<◌, ◌≤◌, eqb, leb, ltb, length, take, drop, get_or, Result, Ok, Err}
use Rattle.text.specs.Hex.{all_digits}
use Rattle.instruction.specs.declared.Instruction.{Instruction}
use Rattle.instruction.specs.Test.{Test, passes, under, ◌&◌}
use Rattle.instruction.specs.Word.{pick, word_of}
use Rattle.units.specs.declared.Branch.{Branch}
use Rattle.units.specs.declared.Opcode.{Opcode}
use Rattle.units.specs.declared.Opcode.TheVariants.{NotTaken, Plain as plain, Branch as branch}
use Rattle.units.specs.Units.{unit_at, length_at, starts_from, starts_of, index_of, address_in}
use Rattle.units.specs.Formats.{opcode_at, target_of}
use Rattle.units.specs.Frames.{branch_fine, branch_frame, reached, frame_at, fine_at}
use Rattle.units.specs.Translate.{is_taken, Translation, refused, translated}
use Rattle.translator.specs.declared.check.Fault.{Fault}
use Rattle.translator.specs.declared.check.Fault.TheVariants.{CutShort, Unknown, Broken}
use Rattle.translator.specs.declared.walk.Start.{Start}
use Rattle.translator.specs.declared.Refusal.{Refusal}

-- the bytes of all units are digits
abbrev pub Digits : List ℕ → Type 0
Digits text = all_digits (take (4 * (length text / 4)) text) ≡ true

-- the starts from a place on
abbrev pub from : List ℕ → ℕ → List ℕ
from us at = starts_from (drop at us) 0 at

-- the start at a place before this one, among those that are known; this one where it is none of them
abbrev pub start_from : List ℕ → ℕ → Start → ℕ → Start
start_from [] j here place = here
start_from (x ∷ xs) j here place = pick (eqb x place) (record { place = place; address = j }) (start_from xs (suc j) here place)

abbrev pub known_start : List ℕ → Start → ℕ → Start
known_start starts here place = start_from (take here.address starts) 0 here place

-- the start to walk from to a place
abbrev pub nearest_start : Start → Start → ℕ → Start
nearest_start found here place = pick (ltb place found.place) here (pick (ltb found.place here.place) here found)

-- place x has the address that the starts from `at` on give it, after k others
abbrev pub Follows : List ℕ → ℕ → ℕ → ℕ → Type 0
Follows us at k x = address_in us x ≡ k + index_of (from us at) x

-- a walk stands at a start, or at the end, after so many others
pub record Stands (us : List ℕ) (s : Start) : Type 0 where
  pub inside : s.place ≤ length us
  pub few : s.address ≤ s.place
  pub count : length (starts_of us) ≡ s.address + length (from us s.place)
  pub follows : (x : ℕ) → s.place ≤ x → Follows us s.place s.address x

-- the starts before this one are known
pub record Known (us starts : List ℕ) (here : Start) : Type 0 where
  pub stands : Stands us here
  pub room : here.address ≤ length starts
  pub all : starts_of us ≡ take here.address starts ++ from us here.place
  pub each : (j : ℕ) → j < here.address → Stands us (record { place = get_or starts j 0; address = j })

-- a walk to a place stands there if it is a start, and elsewhere or at the end if it is none
pub record Sought (us : List ℕ) (place : ℕ) (r : Start) : Type 0 where
  pub stands : Stands us r
  pub found : r.place ≡ place → place < length us → (address_in us place ≡ r.address) × (r.address < length (starts_of us))
  pub lost : (r.place ≡ place → ⊥) → length (starts_of us) ≤ address_in us place
  pub past : length us ≤ place → length (starts_of us) ≤ address_in us place

-- the place that a branch at a place leads to
abbrev pub branch_target : List ℕ → ℕ → Branch → ℕ
branch_target us at b = target_of (length us) at b (unit_at us at) (unit_at us (at + 1)) (unit_at us (at + 2))

-- a walk to where a branch leads; for another opcode, any walk
abbrev pub SoughtFor : List ℕ → ℕ → Opcode → Start → Type 0
SoughtFor us at (plain o) r = Stands us r
SoughtFor us at (branch b) r = Sought us (branch_target us at b) r
SoughtFor us at NotTaken r = Stands us r

-- the word of an instruction that passes refusal 27
abbrev pub word_by : Test → Instruction → Result ℕ Fault
word_by t i = pick (passes t) (Ok (word_of i)) (Err Broken)

abbrev pub branch_checked : List ℕ → ℕ → Branch → Result ℕ Fault
branch_checked us at b =
    word_by (branch_fine (reached us (branch_target us at b)) b (unit_at us at) (unit_at us (at + 1)))
    (branch_frame (address_in us (branch_target us at b)) b (unit_at us at))

-- the instruction at a start, with address k: refusal 25, 26 or 27, or the word of its frame
abbrev pub checked_at : List ℕ → ℕ → ℕ → Result ℕ Fault
checked_at us at k =
    pick (leb (at + length_at us at) (length us))
    (pick (is_taken (opcode_at us at)) (word_by (fine_at us at & under k 32) (frame_at us at)) (Err Unknown))
    (Err CutShort)

-- the number of a refusal
abbrev pub refusal_of : Fault → ℕ
refusal_of CutShort = 25
refusal_of Unknown = 26
refusal_of Broken = 27

-- a walk of all instructions that ended so, and left these words
abbrev pub Walked : Translation → Result ℕ Refusal → List ℕ → Type 0
Walked (refused n l) (Err r) words = (r.number ≡ n) × (r.address ≡ l)
Walked (refused n l) (Ok count) words = ⊥
Walked (translated is) (Err r) words = ⊥
Walked (translated is) (Ok count) words = (count ≤ 32) × (count ≡ length is) × (take count words ≡ map word_of is)
