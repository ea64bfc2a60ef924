-- `raise::rows::join_words` meets its contract. Assumes nothing.
use mathlib.Core.Path.{◌≡◌, sym, ◌∙◌}
use Prim.Native.Nat.{◌+◌}
use native.Mathlib.Numerals.{add-one}
use native.Mathlib.Omega.{arith}
use lib.ListN.{length-set}
use Rattle.slots.specs.Layout.{mask_at, claim_in}
use Rattle.order.proofs.Raising.{raised_none, raised_more, raised_into}
use Rattle.raise.specs.Inside.{each_into}
use Rattle.raise.proofs.Places.{claim_at, joined_at}
use Rattle.raise.proofs.rows.join_words.Goals as goal

pub loop-r-init : goal.loop-r-init
loop-r-init c =
    record { size = c.requires.0; raised = λ s t _ _. raised_none (each_into s t) (claim_in c.args.w.now) }

pub loop-r-preserved : goal.loop-r-preserved
loop-r-preserved c =
    let from = c.args.from in
    let into = c.args.into in
    let w = c.loop-r.w in
    let r = c.loop-r.r in
    let mask = mask_at w (from + r) in
    let all = c.join-all.result in
    let size = c.loop-r.invariant.size in
    record {
      size = length-set w (into + r) all.bits ∙ size;
      raised = λ s t fs ft.
          let here = claim_at w (s r) (from + r) (fs r (omega arith)) in
          let one = joined_at w (into + r) mask all size (omega arith) c.join-all.ensures.bits (t r) (ft r (omega arith)) in
          rw (add-one r)
          (raised_more r (each_into s t) _ _ _ (c.loop-r.invariant.raised s t fs ft) (raised_into (s r) (t r) (claim_in w) _ (rw (sym here) at one)));
    }

pub shape_of-w : goal.shape_of-w
shape_of-w c = c.loop-r.invariant.size ∙ sym c.requires.0

pub returns : goal.returns
returns c =
    record {
      raised = λ s t fs ft.
          let all : c.loop-r.r ≡ c.args.n = omega arith in
          rw all at (c.loop-r.invariant.raised s t fs ft);
    }
