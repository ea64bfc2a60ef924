-- `sets::set_word` meets its contract. Assumes nothing.
use mathlib.Core.Path.{◌∙◌}
use native.Mathlib.Omega.{arith}
use Rattle.program.specs.Tables.{program_in}
use Rattle.sets.proofs.Words.{below_in_lem, all_in, leading_in, word_is}
use Rattle.sets.proofs.set_word.Goals as goal

pub returns-in-0-to-59 : goal.returns-in-0-to-59
returns-in-0-to-59 c =
    let a = c.args in
    let p = program_in a.t.now in
    record { value = word_is p a.j c.below_set.result (omega arith) (λ k. c.below_set.ensures.bits k ∙ below_in_lem p a.j k (omega arith)) }

pub returns-in-60-to-63 : goal.returns-in-60-to-63
returns-in-60-to-63 c =
    let a = c.args in
    let p = program_in a.t.now in
    record { value = word_is p a.j c.class_set.result (omega arith) (λ k. c.class_set.ensures.bits k ∙ all_in p a.j k (omega arith) (omega arith)) }

pub returns-in_default : goal.returns-in_default
returns-in_default c =
    let a = c.args in
    let p = program_in a.t.now in
    record { value = word_is p a.j c.leading_set.result (omega arith) (λ k. c.leading_set.ensures.bits k ∙ leading_in p a.j k (omega arith)) }
