-- A program with one frame more: its counts, its limits and its tables. Assumes nothing.
use mathlib.Core.Path.{◌≡◌, refl, ap, ◌∙◌}
use mathlib.Core.Bool.{true≢false}
use mathlib.Core.List.{List, [], ◌∷◌, ◌++◌}
use Prim.Native.Nat.{ℕ, ◌-◌, ◌≤◌, ◌<◌}
use native.Mathlib.Omega.{arith}
use lib.Dec.{eqb}
use lib.ListN.{length, get_or, set, length-append, length-set}
use lib.Seq.{get_or-append_seam, get_or-set_same, get_or-set_other}
use borrow.Author.Tests.{eqb-true, eqb-false}
use Rattle.text.proofs.Cases.{by_test}
use Rattle.instruction.specs.Test.{Holds}
use Rattle.program.specs.Program.{Method, Program, no_method, method_count, method_at}
use Rattle.program.specs.Tables.{Limited, tables_of}
use Rattle.program.proofs.Grow.{grow_class, grow_field, grow_static, grow_method, grow_code, grow_handler}
use Rattle.program.proofs.Writes.{getD_snoc_other}
use Rattle.frame.specs.declared.Kind.{Kind}
use Rattle.frame.specs.declared.Kind.TheVariants.{Class, Field, Static, Header, Handler, Code, Unknown}
use Rattle.frame.specs.Frame.{counts_of, may_stand, with_methods, with_code, with_handler, added}
use Rattle.frame.specs.Places.{counts, counted, place_of, stored}

-- two counts that agree
same_counts : {a a' b b' c c' d d' e e' f f' : ℕ} → a ≡ a' → b ≡ b' → c ≡ c' → d ≡ d' → e ≡ e' → f ≡ f'
    → counts a b c d e f ≡ counts a' b' c' d' e' f'
same_counts p q r s t u = cc

-- a list with one element more, or with an element set: what a measure of its elements says
module _ (size : Method → ℕ) where
  abbrev at : List Method → ℕ → ℕ
  at ms m = size (get_or ms m no_method)

  snoc_at : (ms : List Method) (x : Method) (limit : ℕ) → size x ≤ limit → ((m : ℕ) → at ms m ≤ limit)
      → (m : ℕ) → at (ms ++ (x ∷ [])) m ≤ limit
  snoc_at ms x limit h k m =
      by_test (eqb m (length ms))
      (λ e. rw (eqb-true m (length ms) e, get_or-append_seam ms x [] no_method) h)
      (λ e. rw (getD_snoc_other ms x m no_method (eqb-false m (length ms) e)) (k m))

  set_at : (ms : List Method) (n : ℕ) (x : Method) (limit : ℕ) → n < length ms → size x ≤ limit
      → ((m : ℕ) → at ms m ≤ limit) → (m : ℕ) → at (set ms n x) m ≤ limit
  set_at ms n x limit l h k m =
      by_test (eqb m n)
      (λ e. rw (eqb-true m n e, get_or-set_same ms n x no_method l) h)
      (λ e. rw (get_or-set_other ms n m x no_method (eqb-false m n e)) (k m))

-- the last element
abbrev last : List Method → Method
last ms = get_or ms (length ms - 1) no_method

last_set : (ms : List Method) (x : Method) → 0 < length ms → last (set ms (length ms - 1) x) ≡ x
last_set ms x l = rw (length-set ms (length ms - 1) x, get_or-set_same ms (length ms - 1) x no_method (omega arith))

abbrev code_of : Method → ℕ
code_of m = length m.code

abbrev handlers_of : Method → ℕ
handlers_of m = length m.handlers

module _ (p : Program) (lim : Limited p) (w : ℕ) where
  pub added_tables : (k : Kind) → Holds (may_stand (counts_of p) k)
      → tables_of (added p k w) ≡ stored (tables_of p) (place_of (counts_of p) k) w
  added_tables Class h = grow_class p w h.0
  added_tables Field h = grow_field p w h.1.0
  added_tables Static h = grow_static p w h.1.0
  added_tables Header h = grow_method p w h.1.0
  added_tables Handler h = grow_handler p (method_count p - 1) w (omega (arith, h.0)) lim.methods h.1.1.1
  added_tables Code h = grow_code p (method_count p - 1) w (omega (arith, h.0)) lim.methods h.1.1.0
  added_tables Unknown h = absurd (true≢false h)

  pub added_counts : (k : Kind) → Holds (may_stand (counts_of p) k) → counts_of (added p k w) ≡ counted (counts_of p) k
  added_counts Class h = same_counts (length-append p.supers (w ∷ [])) refl refl refl refl refl
  added_counts Field h = same_counts refl (length-append p.fields (w ∷ [])) refl refl refl refl
  added_counts Static h = refl
  added_counts Header h =
      let x : Method = record { header = w; code = []; handlers = [] } in
      let e : length (p.methods ++ (x ∷ [])) - 1 ≡ method_count p = omega (arith, length-append p.methods (x ∷ [])) in
      let f : get_or (p.methods ++ (x ∷ [])) (length (p.methods ++ (x ∷ [])) - 1) no_method ≡ x = rw (e, get_or-append_seam p.methods x [] no_method) in
      same_counts refl refl refl (length-append p.methods (x ∷ [])) (ap code_of f) (ap handlers_of f)
  added_counts Handler h =
      let x : Method = with_handler (method_at p (method_count p - 1)) w in
      let f : last (set p.methods (method_count p - 1) x) ≡ x = last_set p.methods x h.0 in
      same_counts refl refl refl (length-set p.methods (method_count p - 1) x) (ap code_of f)
      (ap handlers_of f ∙ length-append (method_at p (method_count p - 1)).handlers (w ∷ []))
  added_counts Code h =
      let x : Method = with_code (method_at p (method_count p - 1)) w in
      let f : last (set p.methods (method_count p - 1) x) ≡ x = last_set p.methods x h.0 in
      same_counts refl refl refl (length-set p.methods (method_count p - 1) x)
      (ap code_of f ∙ length-append (method_at p (method_count p - 1)).code (w ∷ []))
      (ap handlers_of f)
  added_counts Unknown h = refl

  -- other methods, within their limits
  with_methods_lem : (ms : List Method) → length ms ≤ 16 → ((m : ℕ) → at code_of ms m ≤ 32)
      → ((m : ℕ) → at handlers_of ms m ≤ 8) → Limited (with_methods p ms)
  with_methods_lem ms a b c =
      record {
        classes = lim.classes;
        fields = lim.fields;
        statics = lim.statics;
        methods = a;
        code = b;
        handlers = c;
      }

  pub added_limited : (k : Kind) → Holds (may_stand (counts_of p) k) → Limited (added p k w)
  added_limited Class h =
      record {
        classes = rw (length-append p.supers (w ∷ [])) (omega (arith, h.0));
        fields = lim.fields;
        statics = lim.statics;
        methods = lim.methods;
        code = lim.code;
        handlers = lim.handlers;
      }
  added_limited Field h =
      record {
        classes = lim.classes;
        fields = rw (length-append p.fields (w ∷ [])) (omega (arith, h.1.0));
        statics = lim.statics;
        methods = lim.methods;
        code = lim.code;
        handlers = lim.handlers;
      }
  added_limited Static h =
      record {
        classes = lim.classes;
        fields = lim.fields;
        statics = omega (arith, h.1.0);
        methods = lim.methods;
        code = lim.code;
        handlers = lim.handlers;
      }
  added_limited Header h =
      let x : Method = record { header = w; code = []; handlers = [] } in
      with_methods_lem (p.methods ++ (x ∷ []))
      (rw (length-append p.methods (x ∷ [])) (omega (arith, h.1.0)))
      (snoc_at code_of p.methods x 32 (omega arith) lim.code)
      (snoc_at handlers_of p.methods x 8 (omega arith) lim.handlers)
  added_limited Handler h =
      let m : ℕ = method_count p - 1 in
      let x : Method = with_handler (method_at p m) w in
      with_methods_lem (set p.methods m x)
      (rw (length-set p.methods m x) lim.methods)
      (set_at code_of p.methods m x 32 (omega (arith, h.0)) (lim.code m) lim.code)
      (set_at handlers_of p.methods m x 8 (omega (arith, h.0))
      (rw (length-append (method_at p m).handlers (w ∷ [])) (omega (arith, h.1.1.1)))
      lim.handlers)
  added_limited Code h =
      let m : ℕ = method_count p - 1 in
      let x : Method = with_code (method_at p m) w in
      with_methods_lem (set p.methods m x)
      (rw (length-set p.methods m x) lim.methods)
      (set_at code_of p.methods m x 32 (omega (arith, h.0))
      (rw (length-append (method_at p m).code (w ∷ [])) (omega (arith, h.1.1.0)))
      lim.code)
      (set_at handlers_of p.methods m x 8 (omega (arith, h.0)) (lim.handlers m) lim.handlers)
  added_limited Unknown h = lim
