-- `turns::pass` meets its contract: its turns are those of `looped`. Assumes nothing.
use Rattle.std.proofs.Common.{◌≡◌, ◌<◌, ◌-◌, ◌∙◌, ap, arith}
use lib.Dec.{lt→ltb}
use Rattle.shift.specs.declared.Pass.{Pass}
use Rattle.shift.specs.Shift.{passes_of}
use Rattle.drive.specs.Models.{held, Done, looped}
use Rattle.drive.proofs.Turns.{same_turns, turn_on, turn_over}
use Rattle.turns.specs.Turns.{pass_one}
use Rattle.turns.proofs.Falls.{pass_falls}
use Rattle.turns.proofs.pass.Goals as goal

pub loop-i-preserved : goal.loop-i-preserved
loop-i-preserved c =
    let more : 0 < c.loop-i.j.count = omega (arith, c.loop-i.invariant.left, c.loop-i-test.true) in
    let fell : c.pass_one-j.result.count ≡ c.loop-i.j.count - 1 = ap (λ (d : Done Pass). d.result.count) c.pass_one-j.ensures.after in
    record {
      left = omega (arith, fell, more, c.loop-i.invariant.left);
      all =
          ap (λ (d : Done Pass). looped (λ t q. passes_of q) pass_one c.args.t.now d.result.count d.memory d.result) c.pass_one-j.ensures.after
          ∙ turn_on (λ t q. passes_of q) pass_one (λ q. q.count) pass_falls c.args.t.now
          (held c.loop-i.m) c.loop-i.j (lt→ltb 0 c.loop-i.j.count more)
          ∙ c.loop-i.invariant.all;
      same = same_turns c.args.m.now c.loop-i.m c.pass_one-j.new.m c.loop-i.invariant.same c.pass_one-j.ensures.same;
    }

pub returns : goal.returns
returns c =
    let none : c.loop-i.j.count ≡ 0 = omega (arith, c.loop-i.invariant.left, c.loop-i-test.false, c.loop-i.auto.i-end) in
    record {
      after = turn_over (λ t q. passes_of q) pass_one c.args.t.now c.loop-i.j.count (held c.loop-i.m) c.loop-i.j (rw none tt) ∙ c.loop-i.invariant.all;
      same = c.loop-i.invariant.same;
    }
