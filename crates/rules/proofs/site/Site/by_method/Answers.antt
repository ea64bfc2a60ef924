-- `rules::site::Site::by_method` meets its contract. Assumes nothing.
use Rattle.rules.specs.Site.{program_of, claim_of}
use Rattle.rules.proofs.Arguments.{from_first}
use Rattle.rules.proofs.Handlers.{leaving_raised}
use Rattle.rules.proofs.site.Site.by_method.Goals as goal

pub returns : goal.returns
returns c =
    let a = c.args in
    let s = a.self.now in
    let p = program_of s in
    let cl = claim_of s in
    record {
      value = rw (
        c.raised.ensures.value,
        c.mask-2.ensures.value,
        leaving_raised p cl s.method s.address a.method,
        ← c.carries_on.ensures.value,
        c.if-not-carries_on.false,
        ← from_first p cl s.method s.address a.method a.count a.register,
        ← c.arguments.ensures.value,
        c.if-not-arguments.false,
        ← c.mask.ensures.value,
        ← c.next_result.ensures.value,
        ← c.subset.ensures.value,
        c.if-not-subset.false,
      );
    }
