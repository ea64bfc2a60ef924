-- `plain::begin` meets its contract. Assumes nothing.
use mathlib.Core.Path.{ap}
use native.Mathlib.Omega.{arith}
use Rattle.cells.specs.Cells.{zero_value}
use Rattle.store.specs.Store.{absent_frame, absent_object}
use Rattle.plain.proofs.Answers.{has_run, no_run, answers, leaves, leaves_none}
use Rattle.plain.proofs.begin.Goals as goal

pub returns-in-Ran : goal.returns-in-Ran
returns-in-Ran c =
    let own = c.step-outcome in
    record {
      answer =
          answers c.args.text.now c.args.n c.args.frames.now c.args.objects.now c.args.statics.now c.requires c.default-own_frames.result c.default-own_objects.result
          c.default-own_statics.result c.default-own_frames.ensures c.default-own_objects.ensures c.default-own_statics.ensures
          own.result own.ensures.answer;
      memory =
          leaves c.args.text.now c.args.n c.args.frames.now c.args.objects.now c.args.statics.now c.requires c.default-own_frames.result c.default-own_objects.result
          c.default-own_statics.result c.default-own_frames.ensures c.default-own_objects.ensures c.default-own_statics.ensures
          own.result own.ensures.answer own.new.frames own.new.objects own.new.statics (omega arith) (omega arith) (omega arith)
          (ap has_run c.in-Ran.is) own.ensures.memory c.put_all.new.ws c.put_all-in-Ran.new.ws c.put_all-in-Ran-2.new.ws
          (c.put_all.ensures.memory absent_frame) (c.put_all-in-Ran.ensures.memory absent_object) (c.put_all-in-Ran-2.ensures.memory zero_value);
    }

pub returns-in_default : goal.returns-in_default
returns-in_default c =
    let own = c.step-outcome in
    record {
      answer =
          answers c.args.text.now c.args.n c.args.frames.now c.args.objects.now c.args.statics.now c.requires c.default-own_frames.result c.default-own_objects.result
          c.default-own_statics.result c.default-own_frames.ensures c.default-own_objects.ensures c.default-own_statics.ensures
          own.result own.ensures.answer;
      memory =
          leaves_none c.args.text.now c.args.n c.args.frames.now c.args.objects.now c.args.statics.now c.requires c.default-own_frames.result c.default-own_objects.result
          c.default-own_statics.result c.default-own_frames.ensures c.default-own_objects.ensures c.default-own_statics.ensures
          own.result own.ensures.answer (no_run own.result c.in_default.not-Ran);
    }
