-- `worklist::fill_by` meets its contract. Assumes nothing.
use mathlib.Core.Path.{◌≡◌, sym, ◌∙◌}
use native.Mathlib.Omega.{arith}
use Rattle.program.specs.Tables.{program_in}
use Rattle.flow.specs.Verdict.{violated, verdict}
use Rattle.flow.proofs.Verdicts.{violated_first}
use Rattle.slots.specs.Layout.{claim_in}
use Rattle.rules.proofs.Numbers.{is_accepted, is_violated}
use Rattle.fixpoint.proofs.Room.{room_most}
use Rattle.fixpoint.proofs.Rises.{none_below, risen_less}
use Rattle.worklist.proofs.fill_by.Goals as goal

pub loop-round-init : goal.loop-round-init
loop-round-init c =
    let most = room_most (claim_in c.args.w.now) in
    λ formed none. (λ e a. rw none (none_below e), omega (arith, most))

pub returns-in_default : goal.returns-in_default
returns-in_default c =
    record {
      least = λ formed none.
          record {
            accepting = is_accepted _ (sym c.in_default.is ∙ c.first_broken.ensures.value);
            below = (c.loop-round.invariant formed none).0;
          };
    }

pub loop-round-preserved : goal.loop-round-preserved
loop-round-preserved c =
    let p = program_in c.args.sets.now.tables.now in
    let k = claim_in c.loop-round.w in
    let b = c.in-Some.broken in
    let bad : verdict p k ≡ violated b.rule b.method b.address = is_violated _ b (sym c.in-Some.is ∙ c.first_broken.ensures.value) in
    let first = violated_first p k _ _ _ bad in
    λ formed none.
    let (under, few) = c.loop-round.invariant formed none in
    let risen = c.go_on.ensures.risen formed first.method first.address in
    let size = c.go_on.array_long in
    let less = risen_less p b.rule b.method b.address c.loop-round.w _ size bad risen in
    (λ e a. risen.under e a (under e a), omega (arith, less, few))

pub returns : goal.returns
returns c =
    record {
      least = λ formed none.
          absurd (omega (arith, (c.loop-round.invariant formed none).1));
    }
