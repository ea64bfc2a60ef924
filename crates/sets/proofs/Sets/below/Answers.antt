-- `sets::Sets::below` meets its contract. Assumes nothing.
use Rattle.std.proofs.Common.{sym, ◌∙◌, arith}
use Rattle.program.specs.Tables.{program_in}
use Rattle.program.proofs.Read.{classes_limit}
use Rattle.sets.proofs.Words.{below_in_lem, word_bits, none_below}
use Rattle.sets.proofs.Sets.below.Goals as goal

pub returns-then-c-lt60 : goal.returns-then-c-lt60
returns-then-c-lt60 c = record {
  bits = λ k.
      let s = c.args.self.now in
      let p = program_in s.tables.now in
      word_bits p (classes_limit s.tables.now) s.words.now s.made c.args.c k (omega arith) ∙ sym (below_in_lem p c.args.c k (omega arith));
}

pub returns-else-c-lt60 : goal.returns-else-c-lt60
returns-else-c-lt60 c = record {
  bits = λ k.
      let t = c.args.self.now.tables.now in
      c.empty.ensures.bits k ∙ sym (none_below (program_in t) (classes_limit t) c.args.c k (omega arith));
}
