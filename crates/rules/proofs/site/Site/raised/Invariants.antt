-- `rules::site::Site::raised`: what its loops keep.
use Rattle.sets.proofs.Handlers.{Rest}
use Rattle.rules.specs.Site.{program_of, claim_of}
use Rattle.rules.proofs.Handlers.{Held}
use Rattle.rules.proofs.site.Site.raised.Given as goal

-- the rest is what the handlers from number h on do not catch, and rule 9 holds for what they do
abbrev pub invariant-loop-h : goal.invariant-loop-h
invariant-loop-h l =
    record {
      rest : Rest (program_of l.self) l.self.method l.self.address l.initial.rest l.h l.rest;
      held : Held (program_of l.self) (claim_of l.self) l.self.method l.self.address l.initial.rest l.h;
    }
