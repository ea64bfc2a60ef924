-- `reader::take_frame` meets its contract. Assumes nothing.
use Rattle.reader.proofs.Fields.{wrong_length, right_length}
use Rattle.frame.specs.Frame.{kind_of}
use mathlib.Core.Path.{sym, ap, ◌∙◌}
use Rattle.reader.proofs.take_frame.Goals as goal

pub returns-then-digits-digits_of : goal.returns-then-digits-digits_of
returns-then-digits-digits_of c =
    let a = c.args in
    let k = c.kind_of-kind in
    let r = wrong_length a.text.now a.at a.digits c.requires.0 c.requires.1 k.result
    (k.ensures.value ∙ ap kind_of c.number_at.ensures.value) a.n a.t.now
    (λ e. c.if-digits-digits_of.true (e ∙ sym c.digits_of.ensures.value)) in
    record { value = r.0; memory = r.1 }

pub returns : goal.returns
returns c =
    let a = c.args in
    let k = c.kind_of-kind in
    let r = right_length a.text.now a.at a.digits c.requires.0 c.requires.1 k.result
    (k.ensures.value ∙ ap kind_of c.number_at.ensures.value) a.n a.t.now c.number_at-fields.result
    (c.if-digits-digits_of.false ∙ c.digits_of.ensures.value) c.number_at-fields.ensures.value in
    record { value = c.take.ensures.value ∙ r.0; memory = c.take.ensures.memory ∙ r.1 }
