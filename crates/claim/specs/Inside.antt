-- What the claim reader's inner functions promise one another. Definitions only, and none that a reader of the public promise has to
-- believe.
use Rattle.std.specs.Prelude.{Bool, true, ◌&&◌, ◌||◌, List, [], ◌∷◌, ◌++◌, ℕ, ◌+◌, ◌*◌, ◌-◌, ◌^◌, ◌≤◌, eqb, leb, ltb, length, drop, set}
use Rattle.std.proofs.Math.Option.{Option, none, some}
use Rattle.text.specs.Hex.{Line, lines_of, whole, number_of as hex_of, digits_at}
use Rattle.lines.specs.declared.Cursor.{Cursor}
use Rattle.instruction.specs.Word.{pick}
use Rattle.mask.specs.Mask.{subset}
use Rattle.program.specs.Lists.{tab}
use Rattle.program.specs.Program.{Program, class_count, registers}
use Rattle.search.specs.Search.{has_field}
use Rattle.flow.specs.Claim.{Slot, register_at, result_at, field_of, static_of, returned_by, leaving}
use Rattle.slots.specs.Layout.{place_of, mask_of}
use Rattle.claim.specs.declared.Refusal.{Refusal}
use Rattle.claim.specs.declared.Refusal.TheVariants.{BadLine, UnknownKind, NotDue, BadBit}
use Rattle.claim.specs.declared.Part.{Part}
use Rattle.claim.specs.declared.Part.TheVariants.{Address, Field, Static, Returned, Leaving}
use Rattle.claim.specs.declared.Frame.{Frame}
use Rattle.claim.specs.declared.Status.{Status}
use Rattle.claim.specs.Frames.{Due, due}
use Rattle.claim.specs.ReadClaim.{digits_from, known, head, is_due, masks_from, Progress, stopped, reached, onward}

-- whether there is a frame at these two numbers
abbrev pub present : Program → Part → ℕ → ℕ → Bool
present p Address a b = true
present p Field a b = has_field p a b
present p Static a b = true
present p Returned a b = true
present p Leaving a b = true

-- and which
abbrev pub due_at : Program → Part → ℕ → ℕ → Due
due_at p Address m pc = due (17 ∷ m ∷ pc ∷ []) (tab (registers p m) (register_at m pc) ++ (result_at m pc ∷ []))
due_at p Field c x = due (18 ∷ c ∷ x ∷ []) (field_of c x ∷ [])
due_at p Static x i = due (19 ∷ x ∷ []) (static_of x ∷ [])
due_at p Returned m i = due (20 ∷ m ∷ []) (returned_by m ∷ [])
due_at p Leaving m i = due (21 ∷ m ∷ []) (leaving m ∷ [])

-- the slot of its last mask
abbrev pub last_slot : Part → ℕ → ℕ → Slot
last_slot Address m pc = result_at m pc
last_slot Field c x = field_of c x
last_slot Static x i = static_of x
last_slot Returned m i = returned_by m
last_slot Leaving m i = leaving m

-- the bits of classes 0 to n - 1, at most 61 of them, and with them the two of numbers
abbrev pub class_bits : ℕ → ℕ
class_bits n = pick (ltb n 61) (2 ^ n - 1) 2305843009213693951

abbrev pub value_bits : ℕ → ℕ
value_bits n = class_bits n + 13835058055282163712

abbrev pub frame : ℕ → ℕ → ℕ → ℕ → ℕ → Frame
frame kind head registers last allowed =
    record { kind = kind; head = head; registers = registers; last = last; allowed = allowed }

abbrev pub frame_of : Program → Part → ℕ → ℕ → Frame
frame_of p Address m pc = frame 17 6 (registers p m) (place_of (result_at m pc)) (value_bits (class_count p))
frame_of p Field c x = frame 18 6 0 (place_of (field_of c x)) (value_bits (class_count p))
frame_of p Static x i = frame 19 4 0 (place_of (static_of x)) (value_bits (class_count p))
frame_of p Returned m i = frame 20 4 0 (place_of (returned_by m)) (value_bits (class_count p))
frame_of p Leaving m i = frame 21 4 0 (place_of (leaving m)) (class_bits (class_count p))

-- a line is the frame at these two numbers: the length first
abbrev pub is_frame : Frame → ℕ → ℕ → Line → Bool
is_frame f a b l =
    eqb (length l.bytes) (f.head + 16 * (f.registers + 1))
    && (eqb (digits_from l 0 2) f.kind
    && (eqb (digits_from l 2 2) a && (eqb f.head 4 || eqb (digits_from l 4 2) b)))

-- the mask that stands at a place of a text
abbrev pub mask_in : List ℕ → ℕ → ℕ
mask_in text at = hex_of (digits_at text at 16)

-- the words with the masks of these slots, which stand in a text from a place on; none where one has a bit that is not allowed
abbrev pub masks_in : List ℕ → ℕ → ℕ → List Slot → List ℕ → Option (List ℕ)
masks_in text at allowed [] ws = some ws
masks_in text at allowed (s ∷ ss) ws =
    pick (subset (mask_of (mask_in text at)) (mask_of allowed))
    (masks_in text (at + 16) allowed ss (set ws (place_of s) (mask_in text at)))
    none

-- what a whole line brings, before these lines
abbrev pub take_whole : Program → Due → Line → List Line → ℕ → List ℕ → Progress
take_whole p d l ls n ws =
    pick (known l) (pick (is_due d l) (onward ls n (masks_from p l (head d) d.slots ws)) (stopped 12 n)) (stopped 11 n)

-- the same from the number of its refusal, or 0, and the words
abbrev pub after_line : ℕ → List Line → ℕ → List ℕ → Progress
after_line number ls n ws = pick (eqb number 0) (reached ls (n + 1) ws) (stopped number n)

abbrev pub status : ℕ → Cursor → Status
status number place = record { number = number; place = place }

-- a walk in a text: not past its end, and no more lines than bytes before it
abbrev pub Placed : Status → List ℕ → Type 0
Placed s text = (s.place.at ≤ length text) × (s.place.line ≤ s.place.at + 1)

-- how far a walk by line came: the refusal, or the lines from its cursor on
abbrev pub progress_of : List ℕ → Status → List ℕ → Progress
progress_of text s ws =
    pick (eqb s.number 0) (reached (lines_of (drop s.place.at text)) s.place.line ws)
    (stopped s.number s.place.line)

-- the refusal's number of a whole line of this kind that is not the frame due
abbrev pub other_number : ℕ → ℕ
other_number kind = pick (leb 17 kind && leb kind 21) 12 11

-- the refusal's number of the line after the frames due: 0 where there is no line
abbrev pub last_number : List Line → ℕ
last_number [] = 0
last_number (l ∷ ls) = pick (whole l) (pick (known l) 12 11) 10

-- the refusal of a number, 10 to 13
abbrev pub refusal_of : ℕ → ℕ → Refusal
refusal_of number line =
    pick (eqb number 10) (BadLine line)
    (pick (eqb number 11) (UnknownKind line) (pick (eqb number 12) (NotDue line) (BadBit line)))
