-- `plain::step` meets its contract. Assumes nothing.
use mathlib.Core.Path.{sym, ◌∙◌}
use Rattle.plain.proofs.Answers.{few_answers}
use Rattle.plain.proofs.step.Goals as goal

pub begin-requires : goal.begin-requires
begin-requires c = sym c.suffices.ensures.value ∙ c.if-suffices.true

pub returns : goal.returns
returns c =
    let start = c.args in
    let room = sym c.suffices.ensures.value ∙ c.if-suffices.false in
    let left = few_answers start.text.now start.n start.frames.now start.objects.now start.statics.now room c.refusal.result c.refusal.ensures.answer in
    record { answer = left.0; memory = left.1 }
