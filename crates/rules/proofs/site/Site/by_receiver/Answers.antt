-- `rules::site::Site::by_receiver` meets its contract. Assumes nothing.
use mathlib.Core.Path.{◌≡◌, refl, sym, ap, ◌∙◌}
use mathlib.Core.Bool.{Bool, true, false, not, ◌&&◌, ◌||◌}
use Prim.Native.Nat.{ℕ, suc, ◌≤◌}
use lib.Dec.{eqb, ltb}
use native.Mathlib.Omega.{arith}
use Rattle.mask.specs.declared.Mask.{Mask}
use Rattle.mask.specs.Mask.{has}
use Rattle.program.specs.Program.{class_count, method_count}
use Rattle.program.proofs.Read.{classes_limit}
use Rattle.flow.specs.Claim.{register_at}
use Rattle.flow.specs.Flows.{some, kept}
use Rattle.flow.specs.Rules.{carried}
use Rattle.rules.specs.Broken.{leaves_callee}
use Rattle.rules.specs.Site.{program_of, claim_of}
use Rattle.rules.proofs.Receivers.{call_rules, raised_kept}
use Rattle.rules.proofs.site.Site.by_receiver.Goals as goal

fails : (t : Bool) → not t ≡ true → t ≡ false
fails true e = sym e
fails false e = refl

passes : (t : Bool) → not t ≡ false → t ≡ true
passes true e = refl
passes false e = sym e

pub returns-then-not-callees : goal.returns-then-not-callees
returns-then-not-callees c =
    let a = c.args in
    let s = a.self.now in
    let on : kept (claim_of s) (carried (program_of s) s.method s.address (suc s.address)) ≡ true =
    sym c.carries_on.ensures.value ∙ c.if-not-carries_on.false in
    let given = rw c.register-mask.ensures.value at (sym c.take_callees-callees.ensures.given ∙ fails _ c.if-not-callees.true) in
    record {
      value = sym
          (call_rules (program_of s) (claim_of s) s.method s.address a.name a.count a.register ∙ rw (on, given));
    }

pub returns-then-not-callees-2 : goal.returns-then-not-callees-2
returns-then-not-callees-2 c =
    let a = c.args in
    let s = a.self.now in
    let on : kept (claim_of s) (carried (program_of s) s.method s.address (suc s.address)) ≡ true =
    sym c.carries_on.ensures.value ∙ c.if-not-carries_on.false in
    let given = rw c.register-mask.ensures.value at (sym c.take_callees-callees.ensures.given ∙ passes _ c.if-not-callees.false) in
    let returned = rw c.register-mask.ensures.value at (sym c.take_callees-callees.ensures.returned ∙ fails _ c.if-not-callees-2.true) in
    record {
      value = sym
          (call_rules (program_of s) (claim_of s) s.method s.address a.name a.count a.register ∙ rw (on, given, returned));
    }

pub returns : goal.returns
returns c =
    let a = c.args in
    let s = a.self.now in
    let p = program_of s in
    let cl = claim_of s in
    let on : kept cl (carried p s.method s.address (suc s.address)) ≡ true =
    sym c.carries_on.ensures.value ∙ c.if-not-carries_on.false in
    let given = rw c.register-mask.ensures.value at (sym c.take_callees-callees.ensures.given ∙ passes _ c.if-not-callees.false) in
    let returned = rw c.register-mask.ensures.value at (sym c.take_callees-callees.ensures.returned ∙ passes _ c.if-not-callees-2.false) in
    let x = c.take_callees-callees.result.raised in
    let receiver = cl (register_at s.method s.address a.register) in
    let are : (k : ℕ) → has x k ≡ some (method_count p) (leaves_callee p cl receiver a.name a.count k) =
    λ k. c.take_callees-callees.ensures.raised k
    ∙ ap (λ (i : Mask). some (method_count p) (leaves_callee p cl i a.name a.count k)) c.register-mask.ensures.value in
    let more : (k : ℕ) → has c.add.result k ≡ has x k || (eqb k 2 && (ltb k 64 && has receiver 62)) =
    λ k. c.add.ensures.bits k
    ∙ ap (λ (t : Bool). has x k || (eqb k 2 && (ltb k 64 && t)))
    (c.has.ensures.value ∙ ap (λ (i : Mask). has i 62) c.register-mask.ensures.value) in
    let few : class_count p ≤ 64 = omega (arith, classes_limit s.sets.now.tables.now) in
    record {
      value = c.raised.ensures.value
          ∙ raised_kept p cl s.method s.address a.name a.count a.register x are few c.add.result more
          ∙ sym (call_rules p cl s.method s.address a.name a.count a.register ∙ rw (on, given, returned));
    }
