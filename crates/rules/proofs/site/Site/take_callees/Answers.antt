-- `rules::site::Site::take_callees` meets its contract. Assumes nothing.
use mathlib.Core.Path.{refl, sym, ap, ◌∙◌}
use mathlib.Core.Bool.{Bool, ◌&&◌, ◌||◌}
use native.Mathlib.Numerals.{add-one}
use Rattle.mask.proofs.Sets.{every_more}
use Rattle.sets.proofs.Named.{some_more}
use Rattle.rules.specs.Broken.{callee_given, callee_returned, leaves_callee}
use Rattle.rules.specs.Site.{program_of, claim_of}
use Rattle.rules.proofs.site.Site.take_callees.Goals as goal

pub loop-q-init : goal.loop-q-init
loop-q-init c = record { given = refl; returned = refl; raised = c.empty.ensures.bits }

pub loop-q-preserved : goal.loop-q-preserved
loop-q-preserved c =
    let s = c.args.self.now in
    let call = c.args.call in
    let q = c.loop-q.q in
    let given = callee_given (program_of s) (claim_of s) s.method s.address call.mask call.name call.count call.register in
    let returned = callee_returned (program_of s) (claim_of s) s.method s.address call.mask call.name call.count in
    let leaves = leaves_callee (program_of s) (claim_of s) call.mask call.name call.count in
    let callee = c.take_callee-so_far.ensures in
    let so_far = c.loop-q.invariant in
    record {
      given = rw (add-one q) (callee.given ∙ ap (λ (t : Bool). t && given q) so_far.given ∙ sym (every_more q given));
      returned = rw (add-one q) (callee.returned ∙ ap (λ (t : Bool). t && returned q) so_far.returned ∙ sym (every_more q returned));
      raised = (λ k. rw (add-one q) (callee.raised k ∙ ap (λ (t : Bool). t || leaves k q) (so_far.raised k) ∙ sym (some_more q (leaves k))));
    }
