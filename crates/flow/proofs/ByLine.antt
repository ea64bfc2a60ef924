-- Rules 9 and 10 go by the first line of the text that fits: numbers of handlers change no verdict. Assumes nothing.
use mathlib.Core.Path.{◌≡◌, ap, ◌∙◌}
use mathlib.Core.Bool.{Bool, true}
use Prim.Native.Nat.{ℕ, ◌/◌, ◌%◌}
use Rattle.std.specs.Prelude.{Option, Some, None, option_map}
use Rattle.program.specs.Program.{Program, handler_count, handler_target, from_last}
use Rattle.search.specs.Search.{handler_for}
use Rattle.search.specs.Lines.{line_fits, line_target, first_line}
use Rattle.search.proofs.FirstLine.{numbered, first_line_lem}
use Rattle.machine.proofs.Found.{first_some}
use Rattle.flow.specs.Claim.{result_at, leaving, Claim}
use Rattle.flow.specs.Flows.{◌∈◌, ◌&◌, kept, if_caught, if_uncaught}
use Rattle.flow.specs.Rules.{carried, into_handler, into_leaving}

module _ (p : Program) (c : Claim) (m pc k : ℕ) where
  -- rule 9 of class k at an address that a handler goes to
  abbrev pub nine_at : ℕ → Bool
  nine_at to = kept c (carried p m pc to & k ∈ result_at m to)

  -- the handler by the line
  by_line : (r : Option ℕ) → first_line p m pc k ≡ r → handler_for p m pc k ≡ option_map (from_last (handler_count p m)) r
  by_line r e = first_line_lem p m pc k ∙ ap (option_map (from_last (handler_count p m))) e

  -- line i is the first that fits: "registers go into its target and the class bit into the target's result", and nothing leaves
  module _ (i : ℕ) (e : first_line p m pc k ≡ Some i) where
    pub nine_at_line : kept c (into_handler p m pc k) ≡ nine_at (line_target p m i)
    nine_at_line =
        let word = numbered p m i (first_some (handler_count p m) (line_fits p m pc k) i e).0 in
        ap (λ (r : Option ℕ). if_caught r (λ h. nine_at (handler_target p m h))) (by_line (Some i) e)
        ∙ ap (λ (w : ℕ). nine_at (w / 256 % 256)) word

    pub ten_at_line : kept c (into_leaving p m pc k) ≡ true
    ten_at_line = ap (λ (r : Option ℕ). if_uncaught r (kept c (k ∈ leaving m))) (by_line (Some i) e)

  -- no line fits: "with none (10), the bit goes into the method's mask", and no handler is asked
  module _ (e : first_line p m pc k ≡ None) where
    pub nine_without : kept c (into_handler p m pc k) ≡ true
    nine_without = ap (λ (r : Option ℕ). if_caught r (λ h. nine_at (handler_target p m h))) (by_line None e)

    pub ten_without : kept c (into_leaving p m pc k) ≡ kept c (k ∈ leaving m)
    ten_without = ap (λ (r : Option ℕ). if_uncaught r (kept c (k ∈ leaving m))) (by_line None e)
