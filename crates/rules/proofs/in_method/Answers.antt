-- `rules::in_method` meets its contract. Assumes nothing.
use mathlib.Core.Path.{◌≡◌, sym, ap, ◌∙◌}
use Prim.Native.Nat.{◌<◌}
use native.Mathlib.Omega.{arith}
use borrow.Author.Count.{below_more}
use Rattle.program.specs.Program.{code_length}
use Rattle.program.specs.Tables.{program_in}
use Rattle.program.proofs.Read.{in_code}
use Rattle.flow.specs.Verdict.{accepted}
use Rattle.slots.specs.Layout.{claim_in}
use Rattle.rules.specs.Broken.{address_verdict, broken_of}
use Rattle.rules.proofs.Numbers.{saying, address_says, none_broken, broken_there}
use Rattle.rules.proofs.in_method.Goals as goal

pub invariant_of-site : goal.invariant_of-site
invariant_of-site c =
    let t = c.args.sets.now.tables.now in
    let l : c.loop-address.address < code_length (program_in t) c.args.method = omega (arith, c.code_length-address-end.ensures.value) in
    record { inside = (in_code t c.args.method c.loop-address.address l).1 }

pub returns-in-Some : goal.returns-in-Some
returns-in-Some c =
    let p = program_in c.args.sets.now.tables.now in
    let cl = claim_in c.args.claim.now in
    let m = c.args.method in
    let pc = c.loop-address.address in
    let said = address_says p cl m pc ∙ ap (λ r. saying r m pc) (sym c.broken.ensures.value ∙ c.in-Some.is) in
    record {
      value = broken_there (code_length p m) (address_verdict p cl m) pc _
          (omega (arith, c.code_length-address-end.ensures.value))
          c.loop-address.invariant
          (sym (ap broken_of said));
    }

pub loop-address-preserved : goal.loop-address-preserved
loop-address-preserved c =
    let p = program_in c.args.sets.now.tables.now in
    let cl = claim_in c.args.claim.now in
    let m = c.args.method in
    let pc = c.loop-address.address in
    let here : address_verdict p cl m pc ≡ accepted =
    address_says p cl m pc ∙ ap (λ r. saying r m pc) (sym c.broken.ensures.value ∙ c.in_default.is) in
    below_more _ _ c.loop-address.invariant here

pub returns : goal.returns
returns c =
    let p = program_in c.args.sets.now.tables.now in
    record {
      value = none_broken (code_length p c.args.method) (address_verdict p (claim_in c.args.claim.now) c.args.method)
          (λ k l. c.loop-address.invariant k (omega (arith, c.code_length-address-end.ensures.value)));
    }
