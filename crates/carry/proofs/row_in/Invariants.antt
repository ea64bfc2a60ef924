-- `carry::row_in`: no bit is gathered exactly where every word before the next one is in the other's.
use Rattle.std.specs.Prelude.{◌≡◌}
use Rattle.mask.specs.Mask.{every, is_empty}
use Rattle.carry.specs.Carried.{word_in}
use Rattle.carry.proofs.row_in.Given as goal

abbrev pub invariant-loop-r : goal.invariant-loop-r
invariant-loop-r l = is_empty l.out ≡ every l.r (word_in l.w l.from l.to)
