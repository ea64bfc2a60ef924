-- `words::after_key`: what its loop keeps: the entry is not among those passed.
use Rattle.std.proofs.Common.{◌≡◌, drop}
use Rattle.words.specs.Words.{after_key}
use Rattle.words.proofs.after_key.Given as goal

abbrev pub invariant-loop-i : goal.invariant-loop-i
invariant-loop-i l = after_key l.kind l.number (drop l.i l.table) ≡ after_key l.kind l.number l.table
