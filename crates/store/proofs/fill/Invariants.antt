-- The first i elements are filled. Assumes nothing.
use Rattle.std.proofs.Common.{◌≡◌}
use Rattle.store.specs.Store.{filled}
use Rattle.store.proofs.fill.Given as goal

abbrev pub invariant-loop-i : goal.invariant-loop-i
invariant-loop-i g l = l.xs ≡ filled l.i l.x l.initial.xs
