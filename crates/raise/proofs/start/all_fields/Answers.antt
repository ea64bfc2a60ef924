-- `raise::start::all_fields` meets its contract. Assumes nothing.
use mathlib.Core.Path.{◌≡◌}
use native.Mathlib.Numerals.{add-one}
use native.Mathlib.Omega.{arith}
use Rattle.program.specs.Program.{class_count}
use Rattle.program.specs.Tables.{program_in}
use Rattle.slots.specs.Layout.{claim_in}
use Rattle.carry.specs.Carried.{class_fields}
use Rattle.order.proofs.Raising.{raised_none, raised_more}
use Rattle.raise.proofs.start.all_fields.Goals as goal

pub loop-k-init : goal.loop-k-init
loop-k-init c =
    let a = c.args in
    (λ formed. raised_none (class_fields (program_in a.t.now)) (claim_in a.w.now))

pub loop-k-preserved : goal.loop-k-preserved
loop-k-preserved c =
    let a = c.args in
    let k = c.loop-k.k in
    (λ formed.
    rw (add-one k)
    (raised_more k (class_fields (program_in a.t.now)) _ _ _ (c.loop-k.invariant formed)
    (c.fields_of.ensures.raised formed (omega (arith, c.class_count-k-end.ensures.value)))))

pub returns : goal.returns
returns c =
    record {
      raised = λ formed.
          let a = c.args in
          let all : c.loop-k.k ≡ class_count (program_in a.t.now) = omega (arith, c.class_count-k-end.ensures.value) in
          rw all at (c.loop-k.invariant formed);
    }
