-- `rules::first_broken` meets its contract. Assumes nothing.
use mathlib.Core.Path.{◌≡◌, sym, ◌∙◌}
use native.Mathlib.Omega.{arith}
use borrow.Author.Count.{below_more}
use Rattle.program.specs.Program.{method_count}
use Rattle.program.specs.Tables.{program_in}
use Rattle.flow.specs.Verdict.{accepted, verdict}
use Rattle.slots.specs.Layout.{claim_in}
use Rattle.rules.specs.Broken.{method_verdict}
use Rattle.rules.proofs.Numbers.{is_accepted, none_broken, broken_there}
use Rattle.rules.proofs.first_broken.Goals as goal

pub returns-in-Some : goal.returns-in-Some
unfolding verdict
returns-in-Some c =
    let p = program_in c.args.t.now in
    record {
      value = broken_there (method_count p) (method_verdict p (claim_in c.args.w.now)) c.loop-m.m c.in-Some.broken
          (omega (arith, c.method_count-m-end.ensures.value))
          c.loop-m.invariant
          (sym c.in-Some.is ∙ rw c.of-sets.ensures.tables at c.in_method.ensures.value);
    }

pub loop-m-preserved : goal.loop-m-preserved
loop-m-preserved c =
    let p = program_in c.args.t.now in
    let here : method_verdict p (claim_in c.args.w.now) c.loop-m.m ≡ accepted =
    is_accepted _ (sym c.in_default.is ∙ rw c.of-sets.ensures.tables at c.in_method.ensures.value) in
    below_more _ _ c.loop-m.invariant here

pub returns : goal.returns
unfolding verdict
returns c =
    let p = program_in c.args.t.now in
    record {
      value = none_broken (method_count p) (method_verdict p (claim_in c.args.w.now))
          (λ k l. c.loop-m.invariant k (omega (arith, c.method_count-m-end.ensures.value)));
    }
