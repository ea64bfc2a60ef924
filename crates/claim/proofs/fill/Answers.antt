-- `claim::fill` meets its contract. Assumes nothing.
use mathlib.Core.Path.{refl, sym, ◌∙◌}
use Rattle.program.specs.Tables.{program_in}
use Rattle.slots.specs.Layout.{no_masks}
use Rattle.claim.specs.ReadClaim.{read_claim}
use Rattle.claim.proofs.Outcome.{untouched}
use Rattle.claim.proofs.fill.Goals as goal

pub take-read-requires : goal.take-read-requires
unfolding no_masks
take-read-requires c = refl

pub returns-then-is_err-clause-memory : goal.returns-then-is_err-clause-memory
unfolding no_masks
returns-then-is_err-clause-memory c =
    untouched (read_claim (program_in c.args.t.now) c.args.text.now) no_masks c.take-read.result c.take-read.ensures.answer.1
    (sym c.is_err.ensures.value ∙ c.if-is_err.true)
