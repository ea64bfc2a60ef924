-- Laws of the searches, one for each way that a search goes. Assumes nothing.
use mathlib.Core.Path.{◌≡◌}
use mathlib.Core.Bool.{true, false}
use Prim.Native.Nat.{ℕ, suc, ◌≤◌, ◌<◌}
use lib.Dec.{eqb}
use borrow.Author.Tests.{lt-ltb, le-ltb, le-leb, lt-leb, eq-eqb, ne_eqb}
use Rattle.std.specs.Prelude.{Some, None}
use Rattle.program.specs.Program.{Program, field_count, field_class, method_count, method_class, method_name, method_kind, arguments, handler_count, handler_from, handler_to, handler_class}
use Rattle.search.specs.Search.{below, has_field, answers, method_in, catches, handler_for}
use Rattle.program.specs.Lists.{last}
use Rattle.program.proofs.Lists.{first_stop, first_none, last_stop, last_none, Last, last_some}

module _ (p : Program) where
  module _ (c f : ℕ) where
    pub has_field_in : f < field_count p → has_field p c f ≡ below p c (field_class p f)
    unfolding has_field
    has_field_in l = rw (lt-ltb f (field_count p) l)

    pub has_field_out : field_count p ≤ f → has_field p c f ≡ false
    unfolding has_field
    has_field_out l = rw (le-ltb f (field_count p) l)

  module _ (c name count m : ℕ) where
    pub other_class : (method_class p m ≡ c → ⊥) → answers p c name count m ≡ false
    unfolding answers
    other_class differs = rw (ne_eqb (method_class p m) c differs)

    pub other_name : method_class p m ≡ c → (method_name p m ≡ name → ⊥) → answers p c name count m ≡ false
    unfolding answers
    other_name e differs = rw (eq-eqb (method_class p m) c e, ne_eqb (method_name p m) name differs)

    pub other_kind : method_class p m ≡ c → method_name p m ≡ name → (method_kind p m ≡ 0 → ⊥) → answers p c name count m ≡ false
    unfolding answers
    other_kind e d differs =
        rw (eq-eqb (method_class p m) c e, eq-eqb (method_name p m) name d, ne_eqb (method_kind p m) 0 differs)

    pub count_decides : method_class p m ≡ c → method_name p m ≡ name → method_kind p m ≡ 0 → answers p c name count m ≡ eqb (arguments p m) count
    unfolding answers
    count_decides e d k =
        rw (eq-eqb (method_class p m) c e, eq-eqb (method_name p m) name d, eq-eqb (method_kind p m) 0 k)

  module _ (c name count : ℕ) where
    pub method_found : (i : ℕ) → i < method_count p → ((k : ℕ) → k < i → answers p c name count k ≡ false) → answers p c name count i ≡ true → method_in p c name count ≡ Some i
    unfolding method_in
    method_found i l before e = first_stop (method_count p) (answers p c name count) i l before e

    pub method_missing : ((k : ℕ) → k < method_count p → answers p c name count k ≡ false) → method_in p c name count ≡ None
    unfolding method_in
    method_missing before = first_none (method_count p) (answers p c name count) before

  module _ (m pc c h : ℕ) where
    pub starts_later : pc < handler_from p m h → catches p m pc c h ≡ false
    unfolding catches
    starts_later l = rw (lt-leb (handler_from p m h) pc l)

    pub ends_before : handler_from p m h ≤ pc → handler_to p m h ≤ pc → catches p m pc c h ≡ false
    unfolding catches
    ends_before l k = rw (le-leb (handler_from p m h) pc l, le-ltb pc (handler_to p m h) k)

    pub class_decides : handler_from p m h ≤ pc → pc < handler_to p m h → catches p m pc c h ≡ below p c (handler_class p m h)
    unfolding catches
    class_decides l k = rw (le-leb (handler_from p m h) pc l, lt-ltb pc (handler_to p m h) k)

  module _ (m pc c : ℕ) where
    -- one number more is asked, and one that fits is the latest
    pub handler_fits : (h : ℕ) → catches p m pc c h ≡ true → last (suc h) (catches p m pc c) ≡ Some h
    handler_fits h e = rw e

    pub handler_passed : (h : ℕ) → catches p m pc c h ≡ false → last (suc h) (catches p m pc c) ≡ last h (catches p m pc c)
    handler_passed h e = rw e

    pub handler_found : (i : ℕ) → i < handler_count p m → ((k : ℕ) → i < k → k < handler_count p m → catches p m pc c k ≡ false)
        → catches p m pc c i ≡ true → handler_for p m pc c ≡ Some i
    unfolding handler_for
    handler_found i l after e = last_stop (handler_count p m) (catches p m pc c) i l after e

    pub handler_missing : ((k : ℕ) → k < handler_count p m → catches p m pc c k ≡ false) → handler_for p m pc c ≡ None
    unfolding handler_for
    handler_missing fails = last_none (handler_count p m) (catches p m pc c) fails

    -- "the highest number that fits": one that is answered fits, and no higher one does
    pub handler_highest : (h : ℕ) → handler_for p m pc c ≡ Some h → Last (handler_count p m) (catches p m pc c) h
    unfolding handler_for
    handler_highest h e = last_some (handler_count p m) (catches p m pc c) h e
