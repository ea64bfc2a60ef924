-- All arguments of a call, and all but the receiver, flow into parameters. Assumes nothing.
use mathlib.Core.Path.{◌≡◌, ap, ◌∙◌}
use mathlib.Core.Bool.{Bool}
use Prim.Native.Nat.{ℕ, suc, ◌+◌, ◌-◌}
use native.Mathlib.Omega.{arith}
use Rattle.mask.specs.Mask.{every}
use Rattle.mask.proofs.Laws.{every_same}
use Rattle.program.specs.Program.{Program}
use Rattle.flow.specs.Claim.{Claim}
use Rattle.flow.specs.Flows.{each, kept}
use Rattle.flow.specs.Rules.{argument_into}
use Rattle.carry.specs.Carried.{arguments_from}

module _ (p : Program) (c : Claim) (m pc q b r : ℕ) where
  -- argument i flows into its parameter
  abbrev flows : ℕ → Bool
  flows i = kept c (argument_into p m pc r q i)

  pub from_first : kept c (arguments_from p m pc q 0 b r) ≡ kept c (each b (argument_into p m pc r q))
  from_first =
      let none : b - 0 ≡ b = omega arith in
      every_same (b - 0) (λ i. flows (0 + i)) flows (λ i l. ap flows (omega arith)) ∙ ap (λ (n : ℕ). every n flows) none

  pub from_second : kept c (arguments_from p m pc q 1 b r) ≡ kept c (each (b - 1) (λ i. argument_into p m pc r q (suc i)))
  from_second = every_same (b - 1) (λ i. flows (1 + i)) (λ i. flows (suc i)) (λ i l. ap flows (omega arith))
