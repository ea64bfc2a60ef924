-- What the translation promises of the two machines: they are in the same state after every number of steps. Definitions only.
use Rattle.std.specs.Prelude.{◌≡◌, List, [], ◌∷◌, map, ℕ, eqb, Some, None}
use Rattle.instruction.specs.declared.Instruction.{Instruction}
use Rattle.instruction.specs.Word.{pick, word_of}
use Rattle.program.specs.Program.{Program, method_at}
use Rattle.reader.specs.Read.{read_program, taken}
use Rattle.machine.specs.State.{Frame, State}
use Rattle.machine.specs.Run.{run}
use Rattle.units.specs.Units.{units_of}
use Rattle.units.specs.Translate.{translated, translation, frame_lines}
use Rattle.unit_machine.specs.UnitRun.{Listing, to_address, to_place, unit_run}

-- "a translated method": us are the units of a text, and method m's instructions are the frames that this text is translated to
pub record Told (p : Program) (m : ℕ) (us : List ℕ) : Type 0 where
  pub text : List ℕ
  pub units : us ≡ units_of text
  pub frames : List Instruction
  pub given : translation text ≡ translated frames
  pub code : (method_at p m).code ≡ map word_of frames

-- every method that has units is translated from them
abbrev pub Translated : Program → Listing → Type 0
Translated p u = (m : ℕ) (us : List ℕ) → u m ≡ Some us → Told p m us

-- "unit places read as addresses": of a frame, of frames, of a state
abbrev pub read_frame : Listing → Frame → Frame
read_frame u f =
    record { method = f.method; address = to_address (u f.method) f.address; registers = f.registers; result = f.result }

abbrev pub read_frames : Listing → List Frame → List Frame
read_frames u [] = []
read_frames u (f ∷ fs) = read_frame u f ∷ read_frames u fs

abbrev pub read_state : Listing → State → State
read_state u s = record { frames = read_frames u s.frames; objects = s.objects; statics = s.statics; status = s.status }

-- and back: each address as the place of its instruction
abbrev pub placed_frame : Listing → Frame → Frame
placed_frame u f =
    record { method = f.method; address = to_place (u f.method) f.address; registers = f.registers; result = f.result }

abbrev pub placed_frames : Listing → List Frame → List Frame
placed_frames u [] = []
placed_frames u (f ∷ fs) = placed_frame u f ∷ placed_frames u fs

abbrev pub placed_state : Listing → State → State
placed_state u s =
    record { frames = placed_frames u s.frames; objects = s.objects; statics = s.statics; status = s.status }

-- "is after every number of steps in the state its frames are in, unit places read as addresses": after n steps
pub record Alike (p : Program) (u : Listing) (n : ℕ) : Type 0 where
  -- each frame of the machine over units stands at the place of its address, so never inside an instruction
  pub places : unit_run p u n ≡ placed_state u (run p n)
  -- and its place reads as that address
  pub addresses : read_state u (unit_run p u n) ≡ run p n

-- no method has units; method m has these, and the others what they had
abbrev pub no_units : Listing
no_units k = None

abbrev pub also : ℕ → List ℕ → Listing → Listing
also m us u k = pick (eqb k m) (Some us) (u k)

-- "In a program the reader takes, a translated method, run by a machine over units, is after every number of steps in the state its
-- frames are in, unit places read as addresses": of a text of units and a text of frames. Any methods besides may be units
abbrev pub RunsAlike : List ℕ → List ℕ → Type 0
RunsAlike text frames =
    (source : List ℕ) (p : Program) → read_program source ≡ taken p → (m : ℕ) → frame_lines (method_at p m).code ≡ frames
    → (u : Listing) → Translated p u → (n : ℕ) → Alike p (also m (units_of text) u) n
