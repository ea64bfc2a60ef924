-- `rules::site::Site::thrown` meets its contract. Assumes nothing.
use mathlib.Core.Path.{◌≡◌, ap, ◌∙◌}
use mathlib.Core.Bool.{Bool, ◌&&◌, ◌||◌}
use Prim.Native.Nat.{ℕ}
use lib.Dec.{eqb, ltb}
use native.Mathlib.Omega.{arith}
use Rattle.mask.specs.declared.Mask.{Mask}
use Rattle.mask.specs.Mask.{has}
use Rattle.program.specs.Program.{class_count}
use Rattle.program.proofs.Read.{classes_limit}
use Rattle.search.specs.Search.{below}
use Rattle.flow.specs.Claim.{register_at}
use Rattle.rules.specs.Site.{program_of, claim_of}
use Rattle.rules.proofs.Handlers.{thrown_raised}
use Rattle.rules.proofs.site.Site.thrown.Goals as goal

pub returns : goal.returns
returns c =
    let s = c.args.self.now in
    let p = program_of s in
    let cl = claim_of s in
    let from = cl (register_at s.method s.address c.args.from) in
    let bits : (k : ℕ) → has c.common-throwable.result k ≡ has from k && (ltb k (class_count p) && below p k 1) =
    λ k. c.common-throwable.ensures.bits k ∙ rw (c.below.ensures.bits k, c.register-mask.ensures.value) in
    let more : (k : ℕ) → has c.add.result k ≡ has c.common-throwable.result k || (eqb k 2 && (ltb k 64 && has from 62)) =
    λ k. c.add.ensures.bits k
    ∙ ap (λ (t : Bool). has c.common-throwable.result k || (eqb k 2 && (ltb k 64 && t)))
    (c.has.ensures.value ∙ ap (λ (y : Mask). has y 62) c.register-mask.ensures.value) in
    record {
      value = c.raised.ensures.value
          ∙ thrown_raised p cl s.method s.address c.args.from c.common-throwable.result bits (omega (arith, classes_limit s.sets.now.tables.now))
          c.add.result
          more;
    }
