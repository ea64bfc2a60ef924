-- Tests: what must hold of numbers, as a tree with two readings, an answer that computes and a proposition. Definitions only.
use Rattle.std.specs.Prelude.{◌≡◌, Bool, true, false, not, ◌&&◌, ◌||◌, ℕ, ◌<◌, ◌≤◌, ltb, leb, eqb}

pub data Test : Type 0 where
  -- nothing is asked
  always : Test
  -- a is less than b
  under : (a b : ℕ) → Test
  -- a is at most b
  most : (a b : ℕ) → Test
  -- a is b
  same : (a b : ℕ) → Test
  -- both are asked
  ◌&◌ : Test → Test → Test
  -- asked only if the flag is true
  given : Bool → Test → Test
  -- the flag is false
  never : Bool → Test

infixr 60 ◌&◌
-- whether a test passes
abbrev pub passes : Test → Bool
passes always = true
passes (under a b) = ltb a b
passes (most a b) = leb a b
passes (same a b) = eqb a b
passes (s & t) = passes s && passes t
passes (given b t) = not b || passes t
passes (never b) = not b

-- what a test that passes says
abbrev pub Holds : Test → Type 0
Holds always = Unit {0}
Holds (under a b) = a < b
Holds (most a b) = a ≤ b
Holds (same a b) = a ≡ b
Holds (s & t) = Holds s × Holds t
Holds (given b t) = b ≡ true → Holds t
Holds (never b) = b ≡ false
