-- `rules::site::Site::cast` meets its contract. Assumes nothing.
use mathlib.Core.Path.{◌≡◌, ap, ◌∙◌}
use mathlib.Core.Bool.{Bool, not, ◌&&◌, ◌||◌}
use Rattle.instruction.specs.declared.Instruction.TheVariants.{CheckCast}
use Rattle.mask.specs.Mask.{has, every, subset}
use Rattle.program.specs.Program.{class_count}
use Rattle.program.proofs.Read.{classes_limit}
use Rattle.search.specs.Search.{below}
use Rattle.flow.specs.Rules.{raising}
use Rattle.rules.specs.Broken.{broken_in, own_rule}
use Rattle.rules.specs.Site.{program_of, claim_of}
use Rattle.rules.proofs.Own.{cast_raised}
use Rattle.rules.proofs.Classes.{of_subset}
use Rattle.rules.proofs.site.Site.cast.Goals as goal
use Rattle.rules.proofs.site.Site.cast.Goals.{then-zero_passes, else-zero_passes}

pub returns : goal.returns
returns c =
    let a = c.args in
    let s = a.self.now in
    let p = program_of s in
    let cl = claim_of s in
    let mask = c.register-mask.result in
    let into = c.next_register-into.result in
    let passing : subset c.common-passing.result into ≡ every (class_count p) (λ k. not (has mask k) || (not (below p k a.class) || has into k)) =
    of_subset (class_count p) c.common-passing.result mask (λ k. below p k a.class)
    (λ k. c.common-passing.ensures.bits k ∙ rw (c.below.ensures.bits k))
    (classes_limit s.sets.now.tables.now)
    into in
    let ok : c.if-zero_passes.ok ≡ (not (has mask 62) || has into 62) && subset c.common-passing.result into =
    elim c.if-zero_passes.branch [
      | then-zero_passes w ↦ rw (w.ok-is, ← c.zero_passes.ensures.value, w.if-zero_passes.true) w.subset-ok.ensures.value
      | else-zero_passes w ↦ rw (w.ok-is, ← c.zero_passes.ensures.value, w.if-zero_passes.false)
    ] in
    let later : c.own.result ≡ broken_in cl (raising p s.method s.address (CheckCast a.register a.class)) =
    c.own.ensures.value
    ∙ ap (λ (t : Bool). own_rule p cl s.method s.address t 4) c.fails_cast-fails.ensures.value
    ∙ cast_raised p cl s.method s.address a.register a.class mask c.register-mask.ensures.value in
    record {
      value = rw (
        c.written.ensures.value,
        later,
        ok,
        passing,
        c.next_register-into.ensures.value,
        c.register-mask.ensures.value,
      );
    }
