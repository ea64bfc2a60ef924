-- Objects stay in their masks as one is made and as a field is stored. Assumes nothing.
use mathlib.Core.Path.{◌≡◌, ap}
use mathlib.Core.Bool.{true}
use mathlib.Core.List.{List, [], ◌∷◌, ◌++◌}
use Prim.Native.Nat.{ℕ, ◌<◌}
use lib.Dec.{eqb}
use lib.ListN.{length, get_or, set, length-set, get_or-append}
use lib.Seq.{get_or-append_seam, get_or-set_same, get_or-set_other}
use borrow.Author.Tests.{eqb-true, eqb-false}
use Rattle.text.proofs.Cases.{by_test}
use Rattle.program.specs.Program.{Program, class_count, field_count}
use Rattle.search.specs.Search.{has_field}
use Rattle.reader.specs.Formed.{Formed}
use Rattle.machine.specs.declared.Value.{Value}
use Rattle.machine.specs.State.{Object, null, no_object}
use Rattle.machine.specs.Run.{fresh, stored}
use Rattle.machine.proofs.Elements.{set_at, append_at, replicate_at}
use Rattle.flow.specs.Claim.{field_of, Claim}
use Rattle.flow.specs.Inside.{Asked, Lies, ObjectIn, ObjectsIn}
use Rattle.flow.proofs.Frames.{Keeps, lies_kept, object_kept, set_lies}
use Rattle.flow.proofs.Calls.{field_exists}

-- one object more
pub made_keeps : (os : List Object) (o : Object) → Keeps os (os ++ o ∷ [])
made_keeps os o i l = ap (λ (x : Object). x.class) (get_or-append os (o ∷ []) no_object i l)

pub made_class : (os : List Object) (o : Object) → (get_or (os ++ o ∷ []) (length os) no_object).class ≡ o.class
made_class os o = ap (λ (x : Object). x.class) (get_or-append_seam os o [] no_object)

-- object o with a field stored
pub stored_keeps : (os : List Object) (o x : ℕ) (v : Value) → o < length os → Keeps os (set os o (stored (get_or os o no_object) x v))
stored_keeps os o x v l i k =
    by_test (eqb i o)
    (λ t.
    let same : i ≡ o = eqb-true i o t in
    rw same (ap (λ (y : Object). y.class) (get_or-set_same os o (stored (get_or os o no_object) x v) no_object l)))
    (λ t. ap (λ (y : Object). y.class) (get_or-set_other os o i (stored (get_or os o no_object) x v) no_object (eqb-false i o t)))

module _ (p : Program) (c : Claim) where
  -- rule 0
  pub fresh_in : Formed p → Asked p c → (os : List Object) (k : ℕ) → k < class_count p → ObjectIn p c os (fresh p k)
  fresh_in formed asked os k l =
      record {
        class_in = l;
        masks = record {
          fields_in = λ x t.
              replicate_at (λ (v : Value). Lies p c os v (field_of k x)) (field_count p) null x
              (asked.memory.0 k l x (field_exists p k x t) t);
        };
      }

  module _ (os : List Object) (h : ObjectsIn p c os) where
    pub made_in : Formed p → Asked p c → (k : ℕ) → k < class_count p → ObjectsIn p c (os ++ fresh p k ∷ [])
    made_in formed asked k l o i =
        append_at (ObjectIn p c (os ++ fresh p k ∷ [])) os (fresh p k) no_object o (fresh_in formed asked _ k l)
        (λ j. object_kept p c os _ (made_keeps os (fresh p k)) (get_or os o no_object) (h o j)) i

    -- rule 5: a field of object o
    pub stored_in_lem : (o x : ℕ) (v : Value) → o < length os → length (get_or os o no_object).cells ≡ field_count p
        → has_field p (get_or os o no_object).class x ≡ true → Lies p c os v (field_of (get_or os o no_object).class x)
        → ObjectsIn p c (set os o (stored (get_or os o no_object) x v))
    stored_in_lem o x v l size has-it new i k =
        set_at (ObjectIn p c os') os o (stored (get_or os o no_object) x v) no_object i changed
        (object_kept p c os os' keeps (get_or os i no_object) (h i (rw length-set at k)))
      where
        os' : List Object
        os' = set os o (stored (get_or os o no_object) x v)

        keeps : Keeps os os'
        keeps = stored_keeps os o x v l

        changed : ObjectIn p c os' (stored (get_or os o no_object) x v)
        changed =
            record {
              class_in = (h o l).class_in;
              masks = record {
                fields_in = λ y t.
                    set_lies p c os' (get_or os o no_object).cells x y v (field_of (get_or os o no_object).class y)
                    (rw size (field_exists p (get_or os o no_object).class x has-it))
                    (λ e. rw e (lies_kept p c os os' keeps v (field_of (get_or os o no_object).class x) new))
                    (λ _. lies_kept p c os os' keeps (get_or (get_or os o no_object).cells y null) (field_of (get_or os o no_object).class y) ((h o l).masks.fields_in y t));
              };
            }
