-- `calls::led_to`: the set has the callees before the next method.
use Rattle.std.specs.Prelude.{◌≡◌, ◌&&◌, ℕ, ltb}
use Rattle.mask.specs.Mask.{has}
use Rattle.program.specs.Tables.{program_in}
use Rattle.sets.specs.Sets.{leads_to}
use Rattle.calls.proofs.led_to.Given as goal

abbrev pub invariant-loop-q : goal.invariant-loop-q
invariant-loop-q l =
    (i : ℕ) → has l.set i ≡ ltb i l.q && leads_to (program_in l.s.tables.now) l.mask l.name l.count i
