-- `translator::translate` meets its contract. Assumes nothing.
use mathlib.Core.Path.{sym, ap, ◌∙◌}
use Rattle.units.specs.Units.{units_of}
use Rattle.units.specs.Translate.{units_translation}
use Rattle.output.specs.Numbers.{number_of, values_of}
use Rattle.translator.proofs.OneLine.{line_digits}
use Rattle.translator.proofs.Answers.{bad_text, refused_done, few, written_done, done_alike}
use Rattle.translator.proofs.translate.Goals as goal

pub returns-then-not-is_one_line : goal.returns-then-not-is_one_line
returns-then-not-is_one_line c =
    let a = c.args in
    let e = bad_text a.text.now a.memory.now (sym c.is_one_line.ensures.value ∙ c.if-not-is_one_line.true) in
    record { answer = e.0; numbers = (ap number_of e.0, ap values_of e.0); memory = e.1; alike = done_alike a.text.now a.memory.now _ _ e }

pub invariant_of-line : goal.invariant_of-line
invariant_of-line c = record { digits = line_digits c.args.text.now (sym c.is_one_line.ensures.value ∙ c.if-not-is_one_line.false) }

pub put_frames-requires : goal.put_frames-requires
put_frames-requires c =
    let a = c.args in
    let one = sym c.is_one_line.ensures.value ∙ c.if-not-is_one_line.false in
    let words = c.words_of.new.words in
    let walked = rw c.in-Ok.is at c.words_of.ensures.walked in (
      few a.text.now a.memory.now one words _
          (units_translation (units_of a.text.now)) walked,
      c.words_of.ensures.room,
    )

pub returns-in-Err : goal.returns-in-Err
returns-in-Err c =
    let a = c.args in
    let one = sym c.is_one_line.ensures.value ∙ c.if-not-is_one_line.false in
    let words = c.words_of.new.words in
    let walked = rw c.in-Err.is at c.words_of.ensures.walked in
    let e = refused_done a.text.now a.memory.now one words _ walked in
    record { answer = e.0; numbers = (ap number_of e.0, ap values_of e.0); memory = e.1; alike = done_alike a.text.now a.memory.now _ _ e }

pub returns-in-Ok : goal.returns-in-Ok
returns-in-Ok c =
    let a = c.args in
    let one = sym c.is_one_line.ensures.value ∙ c.if-not-is_one_line.false in
    let words = c.words_of.new.words in
    let walked = rw c.in-Ok.is at c.words_of.ensures.walked in
    let e = written_done a.text.now a.memory.now one words _ walked _ _ (c.put_frames.ensures.answer, c.put_frames.ensures.memory) in
    record { answer = e.0; numbers = (ap number_of e.0, ap values_of e.0); memory = e.1; alike = done_alike a.text.now a.memory.now _ _ e }
