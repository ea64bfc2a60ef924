-- What the inner functions promise. Nothing here needs to be believed to read what is printed and told. Definitions only.
use Rattle.std.specs.Prelude.{ℕ, ◌-◌}
use Rattle.bounded.specs.declared.Outcome.{Outcome}
use Rattle.bounded.specs.declared.Outcome.TheVariants.{Refused, Short, Ran}

-- the number of the top frame, 0 where none is open
abbrev pub top_of : Outcome → ℕ
top_of (Refused number line) = 0
top_of Short = 0
top_of (Ran halt steps frames objects pending) = frames - 1
