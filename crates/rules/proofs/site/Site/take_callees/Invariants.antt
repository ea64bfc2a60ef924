-- `rules::site::Site::take_callees`: what its loops keep.
use mathlib.Core.Path.{◌≡◌}
use Prim.Native.Nat.{ℕ}
use Rattle.mask.specs.Mask.{has, every}
use Rattle.flow.specs.Flows.{some}
use Rattle.rules.specs.Broken.{callee_given, callee_returned, leaves_callee}
use Rattle.rules.specs.Site.{program_of, claim_of}
use Rattle.rules.proofs.site.Site.take_callees.Given as goal

-- what has come of the methods before the next one
abbrev pub invariant-loop-q : goal.invariant-loop-q
invariant-loop-q l =
    let p = program_of l.self in
    let c = claim_of l.self in
    record {
      given : l.so_far.given
          ≡ every l.q (callee_given p c l.self.method l.self.address l.call.mask l.call.name l.call.count l.call.register);
      returned : l.so_far.returned ≡ every l.q (callee_returned p c l.self.method l.self.address l.call.mask l.call.name l.call.count);
      raised : (k : ℕ) → has l.so_far.raised k ≡ some l.q (leaves_callee p c l.call.mask l.call.name l.call.count k);
    }
