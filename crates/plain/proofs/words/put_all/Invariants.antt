-- The structs up to x are put. Assumes nothing.
use Rattle.std.proofs.Common.{◌≡◌, ◌+◌, ◌*◌}
use Rattle.plain.specs.Words.{put, each_word}
use Rattle.plain.proofs.words.put_all.Given as goal

abbrev pub invariant-loop-x : goal.invariant-loop-x
invariant-loop-x g l = record {
  place : l.at ≡ l.initial.at + g.T.InWords.SIZE * l.x-index;
  memory : (d : g.row.T.Denot) → l.ws ≡ put (g.T.InWords.SIZE * l.x-index) (each_word g.T.InWords.SIZE g.T.InWords.word d l.xs) l.initial.ws l.initial.at;
}
