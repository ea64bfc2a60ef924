-- `rules::site::Site::take_callee` meets its contract: no class leads to the method, or one does. Assumes nothing.
use mathlib.Core.Path.{◌≡◌, refl, sym, ap, ◌∙◌}
use mathlib.Core.Bool.{◌&&◌, ◌||◌}
use Prim.Native.Nat.{ℕ}
use native.Mathlib.Nat.{add-zero}
use Rattle.mask.specs.declared.Mask.{Mask}
use Rattle.mask.specs.Mask.{has, subset}
use Rattle.flow.specs.Claim.{register_at}
use Rattle.rules.specs.Site.{program_of, claim_of}
use Rattle.rules.proofs.Dispatch.{none_given, none_returned, none_leaves, one_given, one_returned, one_leaves}
use Rattle.rules.proofs.site.Site.take_callee.Goals as goal
use Rattle.rules.proofs.site.Site.take_callee.Goals.{then-prior+then-subset, then-prior+else-subset, else-prior, then-prior-2, else-prior-2}

pub returns-then-is_empty : goal.returns-then-is_empty
returns-then-is_empty c =
    let s = c.args.self.now in
    let call = c.args.call in
    let r = c.leading-receivers.result in
    let bits = c.leading-receivers.ensures.bits in
    let none = sym c.is_empty.ensures.value ∙ c.if-is_empty.true in
    record {
      given = none_given (program_of s) (claim_of s) s.method s.address call.mask call.name call.count c.args.q r bits none call.register _;
      returned = none_returned (program_of s) (claim_of s) s.method s.address call.mask call.name call.count c.args.q r bits none _;
      raised = (λ k. none_leaves (program_of s) (claim_of s) s.method s.address call.mask call.name call.count c.args.q r bits none k _);
    }

pub returns : goal.returns
returns c =
    let s = c.args.self.now in
    let cl = claim_of s in
    let call = c.args.call in
    let q = c.args.q in
    let prior = c.args.prior in
    let r = c.leading-receivers.result in
    let into = c.mask-parameter.result in
    let bits = c.leading-receivers.ensures.bits in
    let one = sym c.is_empty.ensures.value ∙ c.if-is_empty.false in
    let asked : c.if-prior.result ≡ prior.given && (subset r into && c.arguments-arguments.result) =
    elim c.if-prior.branch [
      | then-prior+then-subset w ↦ rw (w.result-is, w.if-prior.true, ← w.subset.ensures.value, w.if-subset.true)
      | then-prior+else-subset w ↦ rw (w.result-is, w.if-prior.true, ← w.subset.ensures.value, w.if-subset.false)
      | else-prior w ↦ rw (w.result-is, w.if-prior.false)
    ] in
    let also : c.if-prior-2.result ≡ prior.returned && c.subset-returned.result =
    elim c.if-prior-2.branch [
      | then-prior-2 w ↦ rw (w.result-is, w.if-prior-2.true)
      | else-prior-2 w ↦ rw (w.result-is, w.if-prior-2.false)
    ] in
    record {
      given = asked
          ∙ ap (◌&&◌ prior.given)
          (one_given (program_of s) cl s.method s.address call.mask call.name call.count q r bits one call.register into
          (λ k. ap (λ (m : Mask). has m k) c.mask-parameter.ensures.value
          ∙ ap (λ (i : ℕ). has (cl (register_at q 0 i)) k) (c.locals.ensures.value ∙ sym (add-zero _)))
          (subset r into)
          c.arguments-arguments.result
          refl
          c.arguments-arguments.ensures.value);
      returned = also
          ∙ ap (◌&&◌ prior.returned)
          (rw (c.subset-returned.ensures.value, c.mask.ensures.value, c.next_result.ensures.value)
          (one_returned (program_of s) cl s.method s.address call.mask call.name call.count q r bits one));
      raised = (λ k. c.join.ensures.bits k
          ∙ ap (◌||◌ (has prior.raised k))
          (ap (λ (m : Mask). has m k) c.mask-2.ensures.value
          ∙ one_leaves (program_of s) cl s.method s.address call.mask call.name call.count q r bits one k));
    }
