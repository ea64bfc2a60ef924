-- Document 01's marked cases, the starred ones: one table of each case and what it should give, and what it means that a row holds.
-- Definitions only.
use Rattle.std.specs.Prelude.{◌≡◌, List, [], ◌∷◌, ℕ, ℤ, pos, neg_ℤ, get_or, replicate, Some}
use Prim.Native.String.{String, ◌++◌}
use Rattle.instruction.specs.declared.Operation.{Operation}
use Rattle.instruction.specs.declared.Operation.TheVariants.{Add, Div, Rem, Shl, Shr, Ushr}
use Rattle.instruction.specs.declared.Unary.{Unary}
use Rattle.instruction.specs.declared.Unary.TheVariants.{Neg}
use Rattle.arithmetic.specs.Arithmetic.{computed, unary_value}
use Rattle.reader.specs.Sample.{bytes_of, sample}
use Rattle.cells.specs.declared.Frame.{Frame}
use Rattle.cells.specs.Cells.{zero_value, zero_frame, zero_object}
use Rattle.bounded.specs.Step.{Stepping, stepping_number, stepping_values}
use Rattle.bounded.specs.Lent.{lending, frames_left}
use Rattle.claim.specs.Sample.{zeros, none, addresses, results, exceptions, sample_claim}
use Rattle.response.specs.Claimed.{said}

-- a case, and last what it should give
pub data Row : Type 0 where
  -- an operation of the machine on two numbers; the number that it makes
  binary : (operation : Operation) (left right due : ℤ) → Row
  -- one on a single number
  unary : (operation : Unary) (operand due : ℤ) → Row
  -- the texts of a panel and a claim; what the tool prints
  prints : (panel claim due : String) → Row
  -- a panel's text and n; the stepper's number, how many frames are open, and the address of the bottom one
  stops : (panel : String) (n number frames address : ℕ) → Row

-- ---- what it means that a row holds
-- the stepper on a text and n, where just as much memory is lent as it asks for
abbrev pub lent_frames : List Frame
lent_frames = replicate 32 zero_frame

abbrev pub stepped : String → ℕ → Stepping
stepped panel n = lending (bytes_of panel) n lent_frames (replicate 256 zero_object) (replicate 16 zero_value)

-- of its values the second is how many frames are open; the bottom one stands first in lent memory
abbrev pub open_frames : Stepping → ℕ
open_frames x = get_or (stepping_values x) 1 0

abbrev pub bottom_address : Stepping → ℕ
bottom_address x = (get_or (frames_left x lent_frames) 0 zero_frame).address

abbrev pub Holds : Row → Type 0
Holds (binary operation left right due) = computed operation left right ≡ Some due
Holds (unary operation operand due) = unary_value operation operand ≡ due
Holds (prints panel claim due) = said (bytes_of panel) (bytes_of claim) ≡ bytes_of due
Holds (stops panel n number frames address) =
    (stepping_number (stepped panel n) ≡ number) × (open_frames (stepped panel n) ≡ frames) × (bottom_address (stepped panel n) ≡ address)

-- ---- the table
-- below zero
abbrev pub minus : ℕ → ℤ
minus n = neg_ℤ (pos n)

-- the sample's claim with its result at method 0 address 1 made zero, and with the returned mask of 1 made zero
abbrev pub no_result : String
no_result = "110000" ++ zeros ++ zeros ++ "\n110001" ++ zeros ++ none ++ "\n110100" ++ zeros ++ zeros ++ "\n" ++ results ++ exceptions

abbrev pub no_return : String
no_return = addresses ++ "1400" ++ zeros ++ "\n1401" ++ none ++ "\n" ++ exceptions

unfoldable pub marked : List Row
marked =
    -- "2147483647 + 1 = −2147483648"
    binary Add (pos 2147483647) (pos 1) (minus 2147483648)
    -- "−2147483648 div −1 = −2147483648, rem 0"
    ∷ binary Div (minus 2147483648) (minus 1) (minus 2147483648)
    ∷ binary Rem (minus 2147483648) (minus 1) (pos 0)
    -- "−7 div 2 = −3"
    ∷ binary Div (minus 7) (pos 2) (minus 3)
    -- "−7 rem 2 = −1"
    ∷ binary Rem (minus 7) (pos 2) (minus 1)
    -- "1 shl 33 = 2"
    ∷ binary Shl (pos 1) (pos 33) (pos 2)
    -- "−8 shr 1 = −4"
    ∷ binary Shr (minus 8) (pos 1) (minus 4)
    -- "−8 ushr 28 = 15"
    ∷ binary Ushr (minus 8) (pos 28) (pos 15)
    -- "neg −2147483648 = itself"
    ∷ unary Neg (minus 2147483648) (minus 2147483648)
    -- "the sample accepted"
    ∷ prints sample sample_claim "accepted\n00 00 01\n"
    -- "its result at method 0 address 1 made zero: `violated 07 00 00`"
    ∷ prints sample no_result "violated 07 00 00\n"
    -- "returned mask of 1 made zero: `violated 08 01 00`"
    ∷ prints sample no_return "violated 08 01 00\n"
    -- "n = 2: number 22, one frame, address 1"
    ∷ stops sample 2 22 1 1
    ∷ []
