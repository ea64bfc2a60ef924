-- `sets::Sets::classes` meets its contract. Assumes nothing.
use Rattle.std.proofs.Common.{sym, ◌∙◌, arith}
use Rattle.program.specs.Tables.{program_in}
use Rattle.program.proofs.Read.{classes_limit}
use Rattle.sets.proofs.Words.{all_in, word_bits}
use Rattle.sets.proofs.Sets.classes.Goals as goal

pub returns : goal.returns
returns c = record {
  bits = λ k.
      let s = c.args.self.now in
      let p = program_in s.tables.now in
      word_bits p (classes_limit s.tables.now) s.words.now s.made 60 k (omega arith) ∙ sym (all_in p 60 k (omega arith) (omega arith));
}
