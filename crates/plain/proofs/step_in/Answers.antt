-- `plain::step_in` meets its contract. Assumes nothing.
use mathlib.Core.Path.{sym, ◌∙◌}
use Rattle.plain.proofs.Answers.{few_answers, tables_read, tables_kept}
use Rattle.plain.proofs.step_in.Goals as goal

pub begin-requires : goal.begin-requires
begin-requires c = sym c.suffices.ensures.value ∙ c.if-suffices.true

pub returns-then-suffices : goal.returns-then-suffices
returns-then-suffices c =
    let start = c.args in
    let room = sym c.suffices.ensures.value ∙ c.if-suffices.true in
    record {
      answer = c.begin.ensures.answer;
      memory = c.begin.ensures.memory;
      tables =
          c.read.ensures.memory
          ∙ tables_read start.text.now start.n start.frames.now start.objects.now start.statics.now start.t.now room;
    }

pub returns : goal.returns
returns c =
    let start = c.args in
    let room = sym c.suffices.ensures.value ∙ c.if-suffices.false in
    let left = few_answers start.text.now start.n start.frames.now start.objects.now start.statics.now room c.refusal.result c.refusal.ensures.answer in
    record {
      answer = left.0;
      memory = left.1;
      tables = tables_kept start.text.now start.n start.frames.now start.objects.now start.statics.now start.t.now room;
    }
