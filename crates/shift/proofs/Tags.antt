-- What is asked of an enum's value, by its tag, and of what stopped a run. Assumes nothing.
use Rattle.std.specs.Prelude.{Option, Some, None, is_none}
use mathlib.Core.Path.{◌≡◌, refl}
use mathlib.Core.Bool.{false}
use mathlib.Core.List.{List, [], ◌∷◌}
use Prim.Native.Nat.{ℕ}
use lib.Dec.{ltb}
use denote.Enum.Declared.{tag_of}
use types.Run.{OneOf, miss}
use Rattle.instruction.specs.Word.{pick}
use Rattle.cells.specs.declared.Value.{Value}
use Rattle.cells.specs.Reads.{object_place}
use Rattle.site.specs.declared.How.{How}
use Rattle.site.specs.declared.How.TheVariants as how
use Rattle.site.specs.contracts.How as how-type
use Rattle.turn.specs.declared.Status.{Status}
use Rattle.turn.specs.declared.Status.TheVariants.{Running, Raised, Done, Uncaught, Failed}
use Rattle.turn.specs.contracts.Status as status-type
use Rattle.shift.specs.declared.Run.{Run}
use Rattle.shift.specs.declared.Stop.{Stop}
use Rattle.shift.specs.declared.Stop.TheVariants as stop
use Rattle.shift.specs.Places.{thrown_by}
use Rattle.shift.specs.Shift.{stopped, pending_of}
use Rattle.shift.specs.Stay.{is_went, is_leaves, is_raises, raised_class, is_running, is_open, others_by}

-- ---- how an instruction ended

abbrev unwent : List ℕ
unwent = 1 ∷ 2 ∷ 3 ∷ []

pub not_went : (e : How) → OneOf unwent (tag_of how-type.the_type e) → is_went e ≡ false
not_went how.Went k = absurd (miss unwent _ tt k)
not_went how.Leaves k = refl
not_went (how.Raises c) k = refl
not_went (how.Failed f) k = refl

abbrev unleft : List ℕ
unleft = 0 ∷ 2 ∷ 3 ∷ []

pub not_leaves : (e : How) → OneOf unleft (tag_of how-type.the_type e) → is_leaves e ≡ false
not_leaves how.Went k = refl
not_leaves how.Leaves k = absurd (miss unleft _ tt k)
not_leaves (how.Raises c) k = refl
not_leaves (how.Failed f) k = refl

abbrev unnew : List ℕ
unnew = 0 ∷ 1 ∷ 3 ∷ []

pub not_raises : (e : How) → OneOf unnew (tag_of how-type.the_type e) → (is_raises e ≡ false) × (raised_class e ≡ 0)
not_raises how.Went k = (refl, refl)
not_raises how.Leaves k = (refl, refl)
not_raises (how.Raises c) k = absurd (miss unnew _ tt k)
not_raises (how.Failed f) k = (refl, refl)

abbrev unfailed : List ℕ
unfailed = 0 ∷ 1 ∷ 2 ∷ []

pub not_failed : (r : Run) (e : How) → OneOf unfailed (tag_of how-type.the_type e)
    → others_by r e ≡ pick (ltb 0 r.left) (stopped r stop.Outside) r
not_failed r how.Went k = refl
not_failed r how.Leaves k = refl
not_failed r (how.Raises c) k = refl
not_failed r (how.Failed f) k = absurd (miss unfailed _ tt k)

-- ---- a status

abbrev unrunning : List ℕ
unrunning = 1 ∷ 2 ∷ 3 ∷ 4 ∷ []

pub not_running : (e : Status) → OneOf unrunning (tag_of status-type.the_type e) → is_running e ≡ false
not_running Running k = absurd (miss unrunning _ tt k)
not_running (Raised o) k = refl
not_running Done k = refl
not_running (Uncaught o) k = refl
not_running (Failed f) k = refl

abbrev ended : List ℕ
ended = 2 ∷ 3 ∷ 4 ∷ []

pub not_open : (e : Status) → OneOf ended (tag_of status-type.the_type e) → is_open e ≡ false
not_open Running k = absurd (miss ended _ tt k)
not_open (Raised o) k = absurd (miss ended _ tt k)
not_open Done k = refl
not_open (Uncaught o) k = refl
not_open (Failed f) k = refl

abbrev unraised : List ℕ
unraised = 0 ∷ 2 ∷ 3 ∷ 4 ∷ []

pub none_pending : (e : Status) → OneOf unraised (tag_of status-type.the_type e) → pending_of e ≡ 0
none_pending Running k = refl
none_pending (Raised o) k = absurd (miss unraised _ tt k)
none_pending Done k = refl
none_pending (Uncaught o) k = refl
none_pending (Failed f) k = refl

pub none_thrown : (e : Status) (x : Value) → OneOf unraised (tag_of status-type.the_type e) → thrown_by e x ≡ object_place x
none_thrown Running x k = refl
none_thrown (Raised o) x k = absurd (miss unraised _ tt k)
none_thrown Done x k = refl
none_thrown (Uncaught o) x k = refl
none_thrown (Failed f) x k = refl

-- ---- what stopped a run

pub not_no : (e : Option Stop) → (e ≡ None → ⊥) → is_none e ≡ false
not_no None d = absurd (d refl)
not_no (Some e) d = refl
