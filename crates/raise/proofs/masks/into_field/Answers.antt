-- `raise::masks::into_field` meets its contract. Assumes nothing.
use mathlib.Core.Path.{sym, ◌∙◌}
use Rattle.flow.specs.Claim.{field_of}
use Rattle.slots.specs.Layout.{claim_in}
use Rattle.order.proofs.Raising.{raised_when, left_when}
use Rattle.raise.specs.Inside.{mask_into}
use Rattle.raise.proofs.AtOnce.{raised_mask}
use Rattle.raise.proofs.masks.into_field.Goals as goal

pub returns-then-has : goal.returns-then-has
returns-then-has c =
    record {
      raised = λ inside.
          let a = c.args in
          let there = field_of a.k a.x in
          let own = sym c.has.ensures.value ∙ c.if-has.true in
          raised_when _ (mask_into a.value there) _ _ own (raised_mask a.value there _ _ (c.join.ensures.joined (inside own)));
    }

pub returns-else-has : goal.returns-else-has
returns-else-has c =
    record {
      raised = λ inside.
          let a = c.args in
          left_when _ (mask_into a.value (field_of a.k a.x)) (claim_in a.w.now) (sym c.has.ensures.value ∙ c.if-has.false);
    }
