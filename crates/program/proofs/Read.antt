-- What stands in tables, by the words that say it: counts, elements of lists, methods. Assumes nothing.
use mathlib.Core.Path.{◌≡◌, refl, ap, ◌∙◌}
use mathlib.Core.List.{List, [], reverse}
use Prim.Native.Nat.{ℕ, zero, suc, ◌+◌, ◌-◌, ◌*◌, ◌≤◌, ◌<◌, min}
use native.Mathlib.Nat.{min-le_right, lt_of_lt_of_le}
use native.Mathlib.Omega.{arith}
use mathlib.Core.Bool.{Bool, true, false, cond}
use borrow.Author.Tests.{ltb-true, ltb-false}
use lib.Dec.{ltb}
use lib.ListN.{length, get_or, get_or-eq_default, length-reverse}
use Rattle.program.specs.Lists.{tab}
use Rattle.program.specs.Program.{Method, no_method, class_count, field_count, method_count, method_at, superclass, field_class}
use Rattle.program.specs.Program.{code_length, word_at, handler_count, handler_at, from_last}
use Rattle.program.specs.Tables.{method_from, program_in}
use Rattle.program.proofs.Lists.{length_tab, getD_tab, get_d_reverse}

-- a list of at most `limit` elements of the tables
module _ {A : Type 0} (w limit : ℕ) (f : ℕ → A) where
  pub count_is : length (tab (min w limit) f) ≡ min w limit
  count_is = length_tab (min w limit) f

  pub count_limit : length (tab (min w limit) f) ≤ limit
  count_limit = rw length_tab (min-le_right w limit)

  pub element_is : (i : ℕ) (d : A) → i < length (tab (min w limit) f) → get_or (tab (min w limit) f) i d ≡ f i
  element_is i d l = getD_tab (min w limit) f i d (rw length_tab at l)

module _ (ws : List ℕ) where
  pub classes_are : class_count (program_in ws) ≡ min (get_or ws 0 0) 60
  unfolding program_in
  classes_are = count_is (get_or ws 0 0) 60 (λ i. get_or ws (4 + i) 0)

  pub classes_limit : class_count (program_in ws) ≤ 60
  unfolding program_in
  classes_limit = count_limit (get_or ws 0 0) 60 (λ i. get_or ws (4 + i) 0)

  pub superclass_is : (c : ℕ) → c < class_count (program_in ws) → superclass (program_in ws) c ≡ get_or ws (4 + c) 0
  unfolding program_in
  superclass_is c l = element_is (get_or ws 0 0) 60 (λ i. get_or ws (4 + i) 0) c 255 l

  pub fields_are : field_count (program_in ws) ≡ min (get_or ws 1 0) 16
  unfolding program_in
  fields_are = count_is (get_or ws 1 0) 16 (λ i. get_or ws (64 + i) 0)

  pub fields_limit : field_count (program_in ws) ≤ 16
  unfolding program_in
  fields_limit = count_limit (get_or ws 1 0) 16 (λ i. get_or ws (64 + i) 0)

  pub field_is : (f : ℕ) → f < field_count (program_in ws) → field_class (program_in ws) f ≡ get_or ws (64 + f) 0
  unfolding program_in
  field_is f l = element_is (get_or ws 1 0) 16 (λ i. get_or ws (64 + i) 0) f 255 l

  pub statics_are : (program_in ws).statics ≡ min (get_or ws 2 0) 16
  unfolding program_in
  statics_are = refl

  pub methods_are : method_count (program_in ws) ≡ min (get_or ws 3 0) 16
  unfolding program_in
  methods_are = count_is (get_or ws 3 0) 16 (method_from ws)

  pub methods_limit : method_count (program_in ws) ≤ 16
  unfolding program_in
  methods_limit = count_limit (get_or ws 3 0) 16 (method_from ws)

  pub method_is : (m : ℕ) → m < method_count (program_in ws) → method_at (program_in ws) m ≡ method_from ws m
  unfolding program_in
  method_is m l = element_is (get_or ws 3 0) 16 (method_from ws) m no_method l

  pub method_out : (m : ℕ) → method_count (program_in ws) ≤ m → method_at (program_in ws) m ≡ no_method
  method_out m l = get_or-eq_default (program_in ws).methods no_method l

  pub header_is : (m : ℕ) → m < method_count (program_in ws) → (method_at (program_in ws) m).header ≡ get_or ws (80 + 3 * m) 0
  unfolding method_from
  header_is m l = ap (λ (x : Method). x.header) (method_is m l)

  -- a list of method m, which the tables hold as at most `limit` elements f 0, f 1, ..
  module _ (part : Method → List ℕ) (none : part no_method ≡ []) (m w limit : ℕ) (f : ℕ → ℕ) (held : part (method_from ws m) ≡ tab (min w limit) f) where
    -- the list of a method that the program has
    part_is : m < method_count (program_in ws) → part (method_at (program_in ws) m) ≡ tab (min w limit) f
    part_is l = ap part (method_is m l) ∙ held

    part_count : m < method_count (program_in ws) → length (part (method_at (program_in ws) m)) ≡ min w limit
    part_count l = rw (part_is l) (count_is w limit f)

    -- a method that has an element in the list is one of the program's
    part_method : (i : ℕ) → i < length (part (method_at (program_in ws) m)) → m < method_count (program_in ws)
    part_method i l = by (ltb m (method_count (program_in ws))) refl
      where
        by : (t : Bool) → ltb m (method_count (program_in ws)) ≡ t → m < method_count (program_in ws)
        by true e = ltb-true m (method_count (program_in ws)) e
        by false e =
            let out : method_at (program_in ws) m ≡ no_method = method_out m (ltb-false m (method_count (program_in ws)) e) in
            let empty : length (part (method_at (program_in ws) m)) ≡ 0 = rw (out, none) in
            absurd (omega arith)

    -- the bounds of the numbers, and the word
    part_element : (i : ℕ) → i < length (part (method_at (program_in ws) m)) → (m < 16) × (i < limit) × (get_or (part (method_at (program_in ws) m)) i 0 ≡ f i)
    part_element i l =
        let e : part (method_at (program_in ws) m) ≡ tab (min w limit) f = part_is (part_method i l) in
        let l' : i < length (tab (min w limit) f) = rw e at l in (
          lt_of_lt_of_le (part_method i l) methods_limit,
          lt_of_lt_of_le l' (count_limit w limit f),
          rw e (element_is w limit f i 0 l'),
        )

  pub code_length_is : (m : ℕ) → m < method_count (program_in ws) → code_length (program_in ws) m ≡ min (get_or ws (81 + 3 * m) 0) 32
  unfolding method_from
  code_length_is m l = part_count (λ x. x.code) refl m (get_or ws (81 + 3 * m) 0) 32 (λ i. get_or ws (128 + 32 * m + i) 0) refl l

  pub in_code : (m pc : ℕ) → pc < code_length (program_in ws) m → (m < 16) × (pc < 32) × (word_at (program_in ws) m pc ≡ get_or ws (128 + 32 * m + pc) 0)
  unfolding method_from
  in_code m pc l = part_element (λ x. x.code) refl m (get_or ws (81 + 3 * m) 0) 32 (λ i. get_or ws (128 + 32 * m + i) 0) refl pc l

  pub handlers_are : (m : ℕ) → m < method_count (program_in ws) → handler_count (program_in ws) m ≡ min (get_or ws (82 + 3 * m) 0) 8
  unfolding method_from
  handlers_are m l = part_count (λ x. x.handlers) refl m (get_or ws (82 + 3 * m) 0) 8 (λ i. get_or ws (640 + 8 * m + i) 0) refl l

  -- the handler in line i
  pub in_handlers : (m i : ℕ) → i < handler_count (program_in ws) m
      → (m < 16) × (i < 8) × (get_or (method_at (program_in ws) m).handlers i 0 ≡ get_or ws (640 + 8 * m + i) 0)
  unfolding method_from
  in_handlers m i l = part_element (λ x. x.handlers) refl m (get_or ws (82 + 3 * m) 0) 8 (λ i. get_or ws (640 + 8 * m + i) 0) refl i l

  -- ---- the words of a method, 0 where the program does not have it
  -- what a method that there is has, and what one that there is not
  by_method : {A : Type 0} (part : Method → A) (m : ℕ) (x : ℕ) (f : ℕ → A)
      → (m < method_count (program_in ws) → part (method_at (program_in ws) m) ≡ f x) → part no_method ≡ f 0
      → part (method_at (program_in ws) m) ≡ f (cond (ltb m (method_count (program_in ws))) x 0)
  by_method part m x f here out = by (ltb m (method_count (program_in ws))) refl
    where
      by : (t : Bool) → ltb m (method_count (program_in ws)) ≡ t → part (method_at (program_in ws) m) ≡ f (cond t x 0)
      by true e = here (ltb-true m (method_count (program_in ws)) e)
      by false e = ap part (method_out m (ltb-false m (method_count (program_in ws)) e)) ∙ out

  pub header_in : (m : ℕ) → (method_at (program_in ws) m).header ≡ cond (ltb m (method_count (program_in ws))) (get_or ws (80 + 3 * m + 0) 0) 0
  header_in m = by_method (λ x. x.header) m (get_or ws (80 + 3 * m + 0) 0) (λ n. n) (λ l. header_is m l ∙ ap (λ i. get_or ws i 0) (omega arith)) refl

  pub code_length_in : (m : ℕ)
      → code_length (program_in ws) m ≡ min (cond (ltb m (method_count (program_in ws))) (get_or ws (80 + 3 * m + 1) 0) 0) 32
  code_length_in m =
      by_method (λ x. length x.code) m (get_or ws (80 + 3 * m + 1) 0) (λ n. min n 32)
      (λ l. code_length_is m l ∙ ap (λ i. min (get_or ws i 0) 32) (omega arith))
      refl

  pub handler_count_in : (m : ℕ)
      → handler_count (program_in ws) m ≡ min (cond (ltb m (method_count (program_in ws))) (get_or ws (80 + 3 * m + 2) 0) 0) 8
  handler_count_in m =
      by_method (λ x. length x.handlers) m (get_or ws (80 + 3 * m + 2) 0) (λ n. min n 8)
      (λ l. handlers_are m l ∙ ap (λ i. min (get_or ws i 0) 8) (omega arith))
      refl

  -- ---- a method that has instructions or handlers is one of 16
  pub code_room : (m : ℕ) → code_length (program_in ws) m ≤ 32 * (16 - m)
  code_room m = by (code_length (program_in ws) m) refl
    where
      by : (n : ℕ) → code_length (program_in ws) m ≡ n → n ≤ 32 * (16 - m)
      by zero e = omega arith
      by (suc k) e =
          let (a, b, h) = in_code m k (omega arith) in
          omega arith

  pub handler_room : (m : ℕ) → handler_count (program_in ws) m ≤ 8 * (16 - m)
  handler_room m = by (handler_count (program_in ws) m) refl
    where
      by : (n : ℕ) → handler_count (program_in ws) m ≡ n → n ≤ 8 * (16 - m)
      by zero e = omega arith
      by (suc k) e =
          let (a, b, h) = in_handlers m k (omega arith) in
          omega arith

  -- ---- handlers by number
  pub in_lines : (m h : ℕ) → h < handler_count (program_in ws) m
      → handler_at (program_in ws) m h ≡ get_or ws (640 + 8 * m + from_last (handler_count (program_in ws) m) h) 0
  in_lines m h l =
      let (a, b, e) = in_handlers m (from_last (handler_count (program_in ws) m) h) (omega arith) in
      get_d_reverse (method_at (program_in ws) m).handlers h 0 l ∙ e

  pub past_lines : (m h : ℕ) → handler_count (program_in ws) m ≤ h → handler_at (program_in ws) m h ≡ 0
  past_lines m h l =
      get_or-eq_default (reverse (method_at (program_in ws) m).handlers) 0 (omega (arith, length-reverse (method_at (program_in ws) m).handlers))
