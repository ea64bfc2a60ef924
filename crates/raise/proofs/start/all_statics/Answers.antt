-- `raise::start::all_statics` meets its contract. Assumes nothing.
-- zero goes into a static
use mathlib.Core.Path.{◌≡◌}
use native.Mathlib.Numerals.{add-one}
use native.Mathlib.Omega.{arith}
use Rattle.mask.specs.Mask.{zero_bit}
use Rattle.program.specs.Tables.{program_in}
use Rattle.flow.specs.Claim.{static_of}
use Rattle.slots.specs.Layout.{claim_in}
use Rattle.order.proofs.Raising.{raised_none, raised_more}
use Rattle.raise.proofs.Places.{own_inside}
use Rattle.raise.proofs.AtOnce.{raised_one}
use Rattle.raise.proofs.start.all_statics.Invariants.{zero_static}
use Rattle.raise.proofs.start.all_statics.Goals as goal

pub loop-x-init : goal.loop-x-init
loop-x-init c = (λ formed. raised_none zero_static (claim_in c.args.w.now))

pub loop-x-preserved : goal.loop-x-preserved
loop-x-preserved c =
    let a = c.args in
    let x = c.loop-x.x in
    let p = program_in a.t.now in
    (λ formed.
    let inside = own_inside p formed (static_of x) (omega (arith, c.static_count-x-end.ensures.value)) in
    rw (add-one x)
    (raised_more x zero_static _ _ _ (c.loop-x.invariant formed)
    (raised_one zero_bit c.of.result (static_of x) _ _ (omega arith) c.of.ensures.bits (c.join.ensures.joined inside))))

pub returns : goal.returns
returns c =
    record {
      raised = λ formed.
          let a = c.args in
          let all : c.loop-x.x ≡ (program_in a.t.now).statics = omega (arith, c.static_count-x-end.ensures.value) in
          rw all at (c.loop-x.invariant formed);
    }
