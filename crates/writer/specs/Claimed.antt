-- What comes of a call that writes the claim of a program. Definitions only.
use Rattle.std.specs.Prelude.{◌≡◌, List, ℕ}
use Rattle.program.specs.Program.{Program}
use Rattle.reader.specs.Read.{Reading, refused, taken, read_program}
use Rattle.slots.specs.Layout.{claim_in}
use Rattle.claim.specs.ReadClaim.{taken as claim_taken, read_claim}
use Rattle.order.specs.Order.{Least}
use Rattle.fixpoint.specs.LeastOf.{least_words}
use Rattle.wording.specs.ClaimText.{claim_text}
use Rattle.output.specs.Written.{Writing, turned_down, fitting}

-- the text of the least claim of a program
abbrev pub least_text : Program → List ℕ
least_text p = claim_text p (claim_in (least_words p))

-- "Answers: 23, after the program's own"
abbrev pub with_program : ℕ → Reading → Writing
with_program size (refused number line) = turned_down number line
with_program size (taken p) = fitting size (least_text p)

-- what comes of a program's text, where so many bytes of memory are lent
unfoldable pub writing : List ℕ → ℕ → Writing
writing program size = with_program size (read_program program)

-- a claim's text that is read, for a program's text, as the least accepted claim
pub record LeastFor (program claim : List ℕ) : Type 0 where
  pub p : Program
  pub program_read : read_program program ≡ taken p
  pub masks : List ℕ
  pub claim_read : read_claim p claim ≡ claim_taken masks
  pub least : Least p (claim_in masks)
