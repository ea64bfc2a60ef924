-- `rounds::stay` meets its contract: its turns are those of `looped`. Assumes nothing.
use Rattle.std.proofs.Common.{◌∙◌, ap, sym}
use Rattle.shift.specs.declared.Stay.{Stay}
use Rattle.drive.specs.Models.{held, Done, looped}
use Rattle.drive.proofs.Turns.{same_turns, turn_on, turn_over}
use Rattle.rounds.specs.Rounds.{goes, one_done}
use Rattle.rounds.proofs.Falls.{stay_falls}
use Rattle.rounds.proofs.stay.Goals as goal

pub loop-m-preserved : goal.loop-m-preserved
loop-m-preserved c =
    record {
      all =
          ap (λ (d : Done Stay). looped goes one_done c.args.t.now d.result.left d.memory d.result) c.one-j.ensures.after
          ∙ turn_on goes one_done (λ q. q.left) stay_falls c.args.t.now (held c.loop-m.m) c.loop-m.j (rw (sym c.goes.ensures.value ∙ c.loop-m-test.true) tt)
          ∙ c.loop-m.invariant.all;
      same = same_turns c.args.m.now c.loop-m.m c.one-j.new.m c.loop-m.invariant.same c.one-j.ensures.same;
    }

pub returns : goal.returns
returns c =
    record {
      after =
          turn_over goes one_done c.args.t.now c.loop-m.j.left (held c.loop-m.m) c.loop-m.j (rw (sym c.goes.ensures.value ∙ c.loop-m-test.false) tt)
          ∙ c.loop-m.invariant.all;
      same = c.loop-m.invariant.same;
    }
