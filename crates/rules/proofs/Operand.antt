-- Rule 4 of an instruction with one operand, asked as of one that has it twice. Assumes nothing.
use mathlib.Core.Path.{◌≡◌, refl, ap}
use Rattle.std.specs.Prelude.{None}
use mathlib.Core.Bool.{Bool, true, false, not, ◌||◌}
use Prim.Native.Nat.{ℕ}
use Rattle.mask.specs.Mask.{has_number}
use Rattle.program.specs.Program.{Program}
use Rattle.flow.specs.Claim.{register_at, Claim}
use Rattle.flow.specs.Flows.{numeric, kept}
use Rattle.flow.specs.Rules.{writes, numbers_into}
use Rattle.rules.specs.Broken.{written, broken_in}

asked_twice : (t x : Bool) → not t || (not t || x) ≡ not t || x
asked_twice true x = refl
asked_twice false x = refl

pub one_operand : (p : Program) (c : Claim) (m pc a b : ℕ)
    → broken_in c (writes p m pc a (numeric (register_at m pc b) (numeric (register_at m pc b) (numbers_into p m pc a))))
    ≡ broken_in c (writes p m pc a (numeric (register_at m pc b) (numbers_into p m pc a)))
one_operand p c m pc a b =
    ap (λ (t : Bool). written p c m pc a t None) (asked_twice (has_number (c (register_at m pc b))) (kept c (numbers_into p m pc a)))
