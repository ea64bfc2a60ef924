-- `rules::site::Site::own` meets its contract. Assumes nothing.
use mathlib.Core.Path.{◌∙◌}
use lib.Dec.{ltb}
use native.Mathlib.Omega.{arith}
use Rattle.mask.proofs.Sets.{no_bit, and_end}
use Rattle.program.proofs.Read.{classes_limit}
use Rattle.rules.specs.Site.{program_of, claim_of}
use Rattle.rules.proofs.Own.{own_raised}
use Rattle.rules.proofs.site.Site.own.Goals as goal

pub returns-then-may : goal.returns-then-may
returns-then-may c =
    let s = c.args.self.now in
    record {
      value = c.raised.ensures.value
          ∙ own_raised (program_of s) (claim_of s) s.method s.address (omega (arith, classes_limit s.sets.now.tables.now)) c.args.class
          c.args.may
          c.of.result
          (λ j. c.of.ensures.bits j ∙ rw (no_bit j, c.if-may.true, and_end (ltb j 64)));
    }
