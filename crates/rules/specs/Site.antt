-- What stands at the address where rules are tested. Definitions only, and none that a reader of the public promise has to believe.
use Rattle.std.specs.Prelude.{ℕ, Option}
use Rattle.instruction.specs.declared.Instruction.{Instruction}
use Rattle.program.specs.Program.{Program}
use Rattle.program.specs.Tables.{program_in}
use Rattle.flow.specs.Claim.{Claim}
use Rattle.flow.specs.Rules.{rules_of}
use Rattle.slots.specs.Layout.{claim_in}
use Rattle.rules.specs.declared.site.Site.{Site}
use Rattle.rules.specs.Broken.{broken_in}

abbrev pub program_of : Site → Program
program_of s = program_in s.sets.now.tables.now

abbrev pub claim_of : Site → Claim
claim_of s = claim_in s.claim.now

-- the first broken of an instruction's rules
abbrev pub broken_at : Site → Instruction → Option ℕ
broken_at s i = broken_in (claim_of s) (rules_of (program_of s) s.method s.address i)
