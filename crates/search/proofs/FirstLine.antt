-- The search by number answers the first line of the text that fits, and none just when no line fits. Assumes nothing.
use mathlib.Core.Path.{◌≡◌, refl, sym, ap, ◌∙◌}
use mathlib.Core.Bool.{false}
use Prim.Native.Nat.{ℕ, ◌<◌, ◌/◌, ◌%◌}
use native.Mathlib.Omega.{arith}
use Rattle.std.specs.Prelude.{Option, Some, None, option_map}
use Rattle.program.specs.Lists.{last}
use Rattle.program.specs.Program.{Program, method_at, handler_count, handler_at, from_last}
use Rattle.program.proofs.Lists.{get_d_reverse, first_stop, first_none, last_some, last_nothing}
use Rattle.search.specs.Search.{catches, handler_for}
use Rattle.search.specs.Lines.{line_at, line_fits, line_target, first_line, target_of}
use Rattle.search.proofs.Searches.{handler_missing}

module _ (p : Program) (m : ℕ) where
  -- line i of n has number n - 1 - i
  pub numbered : (i : ℕ) → i < handler_count p m → handler_at p m (from_last (handler_count p m) i) ≡ line_at p m i
  numbered i l =
      let n = handler_count p m in
      let back : from_last n (from_last n i) ≡ i = omega arith in
      get_d_reverse (method_at p m).handlers (from_last n i) 0 (omega arith) ∙ ap (line_at p m) back

  module _ (pc c : ℕ) where
    same_fit : (i : ℕ) → i < handler_count p m → catches p m pc c (from_last (handler_count p m) i) ≡ line_fits p m pc c i
    unfolding catches line_fits
    same_fit i l = rw (numbered i l)

    -- number k fits if and only if its line does
    number_fit : (k : ℕ) → k < handler_count p m → line_fits p m pc c (from_last (handler_count p m) k) ≡ catches p m pc c k
    number_fit k l =
        let n = handler_count p m in
        let back : from_last n (from_last n k) ≡ k = omega arith in
        sym (same_fit (from_last n k) (omega arith)) ∙ ap (catches p m pc c) back

    -- the first line that fits, by what the search finds
    line_of_lem : (r : Option ℕ) → last (handler_count p m) (catches p m pc c) ≡ r
        → first_line p m pc c ≡ option_map (from_last (handler_count p m)) r
    line_of_lem None e =
        first_none (handler_count p m) (line_fits p m pc c)
        (λ i l. sym (same_fit i l) ∙ last_nothing (handler_count p m) (catches p m pc c) e (from_last (handler_count p m) i) (omega arith))
    line_of_lem (Some h) e =
        let n = handler_count p m in
        let is = last_some n (catches p m pc c) h e in
        let l = is.within in
        first_stop n (line_fits p m pc c) (from_last n h) (omega arith)
        (λ i b. sym (same_fit i (omega arith)) ∙ is.after (from_last n i) (omega arith) (omega arith))
        (number_fit h l ∙ is.passes)

    -- "always the first fitting line in the text": the number answered is that of the first line that fits
    pub first_line_lem : handler_for p m pc c ≡ option_map (from_last (handler_count p m)) (first_line p m pc c)
    unfolding handler_for
    first_line_lem = by (last (handler_count p m) (catches p m pc c)) refl
      where
        by : (r : Option ℕ) → last (handler_count p m) (catches p m pc c) ≡ r
            → r ≡ option_map (from_last (handler_count p m)) (first_line p m pc c)
        by None e = rw (line_of_lem None e)
        by (Some h) e =
            let n = handler_count p m in
            let l = (last_some n (catches p m pc c) h e).within in
            let back : from_last n (from_last n h) ≡ h = omega arith in
            rw (line_of_lem (Some h) e, back)

    -- the handler taken goes where that line says
    pub same_target : target_of p m (handler_for p m pc c) ≡ option_map (line_target p m) (first_line p m pc c)
    unfolding handler_for
    same_target = by (last (handler_count p m) (catches p m pc c)) refl
      where
        by : (r : Option ℕ) → last (handler_count p m) (catches p m pc c) ≡ r
            → target_of p m (r) ≡ option_map (line_target p m) (first_line p m pc c)
        by None e = rw (line_of_lem None e)
        by (Some h) e =
            let l = (last_some (handler_count p m) (catches p m pc c) h e).within in
            rw (line_of_lem (Some h) e) (ap (λ (w : ℕ). Some (w / 256 % 256)) (get_d_reverse (method_at p m).handlers h 0 l))

    -- "and none just when none fits"
    pub none_fits : handler_for p m pc c ≡ None → (i : ℕ) → i < handler_count p m → line_fits p m pc c i ≡ false
    unfolding handler_for
    none_fits e i l =
        sym (same_fit i l)
        ∙ last_nothing (handler_count p m) (catches p m pc c) e
        (from_last (handler_count p m) i)
        (omega arith)

    pub none_taken : ((i : ℕ) → i < handler_count p m → line_fits p m pc c i ≡ false) → handler_for p m pc c ≡ None
    none_taken fails =
        handler_missing p m pc c
        (λ k l. sym (number_fit k l) ∙ fails (from_last (handler_count p m) k) (omega arith))
