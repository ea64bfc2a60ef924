-- `rounds::run` meets its contract: its turns are those of `looped`. Assumes nothing.
use Rattle.std.proofs.Common.{◌<◌, ◌∙◌, ap, subst, sym}
use Rattle.shift.specs.declared.Run.{Run}
use Rattle.drive.specs.Models.{held, Done, looped}
use Rattle.drive.proofs.Turns.{same_turns, turn_on, turn_over}
use Rattle.rounds.specs.Rounds.{runs, round_done, turns_of}
use Rattle.rounds.proofs.Falls.{run_falls}
use Rattle.rounds.proofs.run.Goals as goal

pub loop-m-preserved : goal.loop-m-preserved
loop-m-preserved c =
    record {
      all =
          ap (λ (d : Done Run). looped runs round_done c.args.t.now (turns_of d.result) d.memory d.result) c.round-j.ensures.after
          ∙ turn_on runs round_done turns_of run_falls c.args.t.now (held c.loop-m.m) c.loop-m.j (rw (sym c.runs.ensures.value ∙ c.loop-m-test.true) tt)
          ∙ c.loop-m.invariant.all;
      same = same_turns c.args.m.now c.loop-m.m c.round-j.new.m c.loop-m.invariant.same c.round-j.ensures.same;
    }

pub loop-m-smaller : goal.loop-m-smaller
loop-m-smaller c =
    subst (λ (d : Done Run). turns_of d.result < turns_of c.loop-m.j) (sym c.round-j.ensures.after)
    (run_falls c.args.t.now (held c.loop-m.m) c.loop-m.j (rw (sym c.runs.ensures.value ∙ c.loop-m-test.true) tt))

pub returns : goal.returns
returns c =
    record {
      after =
          turn_over runs round_done c.args.t.now (turns_of c.loop-m.j) (held c.loop-m.m) c.loop-m.j (rw (sym c.runs.ensures.value ∙ c.loop-m-test.false) tt)
          ∙ c.loop-m.invariant.all;
      same = c.loop-m.invariant.same;
    }
