-- `raise::start::field_of` meets its contract. Assumes nothing.
use mathlib.Core.Path.{sym, ◌∙◌}
use native.Mathlib.Omega.{arith}
use Rattle.mask.specs.Mask.{zero_bit}
use Rattle.program.specs.Tables.{program_in}
use Rattle.flow.specs.Claim.{field_of}
use Rattle.flow.specs.Flows.{◌∈◌}
use Rattle.flow.proofs.Calls.{field_exists}
use Rattle.slots.specs.Layout.{claim_in}
use Rattle.order.proofs.Raising.{raised_when, left_when}
use Rattle.raise.proofs.Places.{own_inside}
use Rattle.raise.proofs.AtOnce.{raised_one}
use Rattle.raise.proofs.start.field_of.Goals as goal

pub returns-then-has_field : goal.returns-then-has_field
returns-then-has_field c =
    record {
      raised = λ formed lk.
          let a = c.args in
          let p = program_in a.t.now in
          let there = field_of a.k a.x in
          let own = sym c.has_field.ensures.value ∙ c.if-has_field.true in
          raised_when _ (zero_bit ∈ there) _ _ own
          (raised_one zero_bit c.of.result there _ _ (omega arith) c.of.ensures.bits
          (c.join.ensures.joined (own_inside p formed there (lk, field_exists p a.k a.x own, own))));
    }

pub returns-else-has_field : goal.returns-else-has_field
returns-else-has_field c =
    record {
      raised = λ formed lk.
          let a = c.args in
          left_when _ (zero_bit ∈ field_of a.k a.x) (claim_in a.w.now) (sym c.has_field.ensures.value ∙ c.if-has_field.false);
    }
