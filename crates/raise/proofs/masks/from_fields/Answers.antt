-- `raise::masks::from_fields` meets its contract. Assumes nothing.
use mathlib.Core.Path.{◌≡◌, sym, ap, ◌∙◌}
use Prim.Native.Nat.{ℕ}
use native.Mathlib.Numerals.{add-one}
use native.Mathlib.Omega.{arith}
use Rattle.flow.specs.Flows.{some}
use Rattle.sets.proofs.Named.{some_more}
use Rattle.slots.specs.Layout.{claim_in}
use Rattle.raise.specs.Inside.{field_has}
use Rattle.raise.proofs.masks.from_fields.Goals as goal

pub loop-k-init : goal.loop-k-init
loop-k-init c = c.empty-all.ensures.bits

pub loop-k-preserved : goal.loop-k-preserved
loop-k-preserved c =
    let a = c.args in
    let g = field_has (claim_in a.w.now) a.set a.x in
    (λ j.
    c.join-all.ensures.bits j
    ∙ rw (c.loop-k.invariant j, c.field_in.ensures.bits j) (sym (some_more c.loop-k.k (g j)))
    ∙ ap (λ (n : ℕ). some n (g j)) (sym (add-one c.loop-k.k)))

pub returns : goal.returns
returns c =
    let all : c.loop-k.k ≡ 60 = omega arith in
    record { bits = rw all at c.loop-k.invariant }
