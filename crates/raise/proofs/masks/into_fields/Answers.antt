-- `raise::masks::into_fields` meets its contract. Assumes nothing.
use mathlib.Core.Path.{◌≡◌}
use native.Mathlib.Numerals.{add-one}
use native.Mathlib.Omega.{arith}
use Rattle.slots.specs.Layout.{claim_in}
use Rattle.order.proofs.Raising.{raised_none, raised_more}
use Rattle.raise.specs.Inside.{into_field}
use Rattle.raise.proofs.masks.into_fields.Goals as goal

pub loop-k-init : goal.loop-k-init
loop-k-init c = (λ inside. raised_none (into_field c.args.set c.args.x c.args.value) (claim_in c.args.w.now))

pub loop-k-preserved : goal.loop-k-preserved
loop-k-preserved c =
    let a = c.args in
    let k = c.loop-k.k in
    (λ inside.
    rw (add-one k)
    (raised_more k (into_field a.set a.x a.value) _ _ _ (c.loop-k.invariant inside) (c.into_field.ensures.raised (inside k))))

pub returns : goal.returns
returns c =
    record {
      raised = λ inside.
          let all : c.loop-k.k ≡ 60 = omega arith in
          rw all at (c.loop-k.invariant inside);
    }
