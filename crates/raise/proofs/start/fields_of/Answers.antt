-- `raise::start::fields_of` meets its contract. Assumes nothing.
use mathlib.Core.Path.{◌≡◌}
use native.Mathlib.Numerals.{add-one}
use native.Mathlib.Omega.{arith}
use Rattle.program.specs.Program.{field_count}
use Rattle.program.specs.Tables.{program_in}
use Rattle.slots.specs.Layout.{claim_in}
use Rattle.order.proofs.Raising.{raised_none, raised_more}
use Rattle.raise.specs.Inside.{zero_field}
use Rattle.raise.proofs.start.fields_of.Goals as goal

pub loop-x-init : goal.loop-x-init
loop-x-init c =
    let a = c.args in
    (λ formed lk. raised_none (zero_field (program_in a.t.now) a.k) (claim_in a.w.now))

pub loop-x-preserved : goal.loop-x-preserved
loop-x-preserved c =
    let a = c.args in
    let x = c.loop-x.x in
    (λ formed lk.
    rw (add-one x)
    (raised_more x (zero_field (program_in a.t.now) a.k) _ _ _ (c.loop-x.invariant formed lk) (c.field_of.ensures.raised formed lk)))

pub returns : goal.returns
returns c =
    record {
      raised = λ formed lk.
          let a = c.args in
          let all : c.loop-x.x ≡ field_count (program_in a.t.now) = omega (arith, c.field_count-x-end.ensures.value) in
          rw all at (c.loop-x.invariant formed lk);
    }
