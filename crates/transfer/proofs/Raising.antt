-- What an instruction raises itself as rules 9 and 10 ask it, and these rules beside the others of the instruction. Assumes nothing.
use mathlib.Core.Path.{◌≡◌, sym, ◌∙◌}
use mathlib.Core.Bool.{Bool, true, ◌&&◌}
use Prim.Native.Nat.{ℕ}
use native.Mathlib.Omega.{arith}
use Rattle.instruction.specs.declared.Operation.{Operation}
use Rattle.instruction.proofs.Flags.{both_true}
use Rattle.arithmetic.specs.Arithmetic.{divides}
use Rattle.mask.specs.Mask.{has, zero_bit}
use Rattle.program.specs.Program.{Program, null_class, arithmetic_class, cast_class}
use Rattle.flow.specs.Claim.{register_at, Claim}
use Rattle.flow.specs.Flows.{Flows, ◌&◌, Holds}
use Rattle.flow.specs.Rules.{own, null_in, zero_divisor, failed_cast, into_handler, into_leaving}
use Rattle.sets.specs.Sets.{fails_cast}
use Rattle.sets.proofs.Failing.{fails_at, fails_one}
use Rattle.order.specs.Order.{Below}
use Rattle.order.specs.Raised.{Goes, Raised, nothing}
use Rattle.order.proofs.Raising.{raised_as, raised_both}
use Rattle.raise.specs.Inside.{own_flows}
use Rattle.transfer.specs.Transfer.{raised_rules}

nothing_holds : (e : Claim) → Holds e nothing
nothing_holds e i l = absurd (omega arith)

-- ---- class k is raised, where it may be
module _ (p : Program) (m pc : ℕ) (c d : Claim) (may : Bool) where
  -- what is asked of it is asked where it may be raised, and nowhere else
  asked_own : (k : ℕ) (asks : (ℕ → Flows) → Flows)
      → ((f : ℕ → Flows) → (may ≡ true → Goes c d (own p m pc k f)) → Goes c d (asks f))
      → ((e : Claim) (f : ℕ → Flows) → Below c e → Holds e (asks f) → may ≡ true → Holds e (own p m pc k f))
      → Raised (own_flows p m pc may k) c d → Raised (raised_rules p m pc asks) c d
  asked_own k asks there back =
      raised_as (own_flows p m pc may k) (raised_rules p m pc asks) c d
      (λ g. (there (into_handler p m pc) g.0, (there (into_leaving p m pc) g.1, λ i l. absurd (omega arith))))
      (λ e low h. (back e (into_handler p m pc) low h.0, back e (into_leaving p m pc) low h.1.0))

  pub null_raised : (b : ℕ) → may ≡ has (c (register_at m pc b)) zero_bit
      → Raised (own_flows p m pc may null_class) c d → Raised (raised_rules p m pc (null_in p m pc b)) c d
  null_raised b is =
      asked_own null_class (null_in p m pc b)
      (λ f g h. g (is ∙ h))
      (λ e f low h t. h (low (register_at m pc b) zero_bit (sym is ∙ t)))

  pub zero_raised : (o : Operation) (b : ℕ) → may ≡ divides o && has (c (register_at m pc b)) zero_bit
      → Raised (own_flows p m pc may arithmetic_class) c d → Raised (raised_rules p m pc (zero_divisor p m pc o b)) c d
  zero_raised o b is =
      asked_own arithmetic_class (zero_divisor p m pc o b)
      (λ f g y h. g (is ∙ rw (y, h)))
      (λ e f low h t.
      let (y, z) = both_true (divides o) (has (c (register_at m pc b)) zero_bit) (sym is ∙ t) in
      h y (low (register_at m pc b) zero_bit z))

  pub cast_raised : (a k : ℕ) → may ≡ fails_cast p (c (register_at m pc a)) k
      → Raised (own_flows p m pc may cast_class) c d → Raised (raised_rules p m pc (failed_cast p m pc a k)) c d
  cast_raised a k is =
      asked_own cast_class (failed_cast p m pc a k)
      (λ f g j l h b. g (is ∙ fails_at p (c (register_at m pc a)) k j l h b))
      (λ e f low h t.
      let (j, l, g, b) = fails_one p (c (register_at m pc a)) k (sym is ∙ t) in
      h j l (low (register_at m pc a) j g) b)

-- ---- rules 9 and 10 after two other rules; beside rules 9 and 10 of other classes, after the rules of a call
module _ (f g x y : Flows) (c d e : Claim) where
  pub raised_after : Raised (f & g & nothing) c d → Raised (x & y & nothing) d e → Raised (f & g & x & y & nothing) c e
  raised_after a b =
      raised_as ((f & g & nothing) & x & y & nothing) (f & g & x & y & nothing) c e
      (λ z. (z.0.0, (z.0.1.0, z.1)))
      (λ i _ h. ((h.0, (h.1.0, nothing_holds i)), h.1.1))
      (raised_both _ _ c d e a b)

  pub raised_beside : Raised (f & g & nothing) c d → Raised (x & y & nothing) d e → Raised ((x & f) & (y & g) & nothing) c e
  raised_beside a b =
      raised_as ((f & g & nothing) & x & y & nothing) ((x & f) & (y & g) & nothing) c e
      (λ z. ((z.1.0, z.0.0), ((z.1.1.0, z.0.1.0), z.0.1.1)))
      (λ i _ h. ((h.0.1, (h.1.0.1, nothing_holds i)), (h.0.0, (h.1.0.0, nothing_holds i))))
      (raised_both _ _ c d e a b)

  pub raised_called : (i j k : Flows) → Raised (i & j & k & f & g) c d → Raised (x & y & nothing) d e
      → Raised (i & j & k & (x & f) & (y & g) & nothing) c e
  raised_called i j k a b =
      raised_as ((i & j & k & f & g) & x & y & nothing) (i & j & k & (x & f) & (y & g) & nothing) c e
      (λ z.
      let o = z.0.1.1.1 in
      (z.0.0, (z.0.1.0, (z.0.1.1.0, ((z.1.0, o.0), ((z.1.1.0, o.1), z.1.1.1))))))
      (λ n _ h.
      let o = h.1.1.1 in
      ((h.0, (h.1.0, (h.1.1.0, (o.0.1, o.1.0.1)))), (o.0.0, (o.1.0.0, nothing_holds n))))
      (raised_both _ _ c d e a b)
