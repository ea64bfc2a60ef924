-- Order and counts of a program that the walk by line takes: its limits, and a method's one instruction at least. Assumes
-- nothing.
use mathlib.Core.Path.{◌≡◌, sym}
use mathlib.Core.List.{List, [], ◌∷◌, ◌++◌}
use Prim.Native.Nat.{ℕ, ◌+◌, ◌-◌, ◌≤◌, ◌<◌}
use native.Mathlib.Omega.{arith}
use lib.Dec.{eqb}
use lib.ListN.{length, get_or, set, length-append, length-set, get_or-append}
use lib.Seq.{get_or-set_other}
use borrow.Author.Tests.{lt-ltb, eqb-true, eqb-false}
use Rattle.text.specs.Hex.{Line, whole}
use Rattle.text.proofs.Cases.{by_test, never}
use Rattle.instruction.specs.Test.{passes, Holds}
use Rattle.instruction.proofs.Laws.{holds}
use Rattle.program.specs.Program.{Method, Program, no_method, class_count, method_count, code_length}
use Rattle.program.specs.Tables.{Limited}
use Rattle.frame.specs.declared.Kind.{Kind}
use Rattle.frame.specs.declared.Kind.TheVariants.{Class, Field, Static, Header, Handler, Code, Unknown}
use Rattle.frame.specs.Frame.{digits_of, counts_of, may_stand, may_end, added}
use Rattle.reader.specs.Read.{refused, taken, line_kind, line_fields, read_lines}
use Rattle.frame.proofs.Added.{added_limited}

-- within the limits, and every method but the last has an instruction
pub record Steady (p : Program) : Type 0 where
  pub limited : Limited p
  pub coded : (m : ℕ) → m + 1 < method_count p → 0 < code_length p m

-- the same of a program that may end: the last has one too
pub record Ended (p : Program) : Type 0 where
  pub limited : Limited p
  pub classes : 5 ≤ class_count p
  pub methods : 1 ≤ method_count p
  pub coded : (m : ℕ) → m < method_count p → 1 ≤ code_length p m

-- how many instructions a method of these has
abbrev code_in : List Method → ℕ → ℕ
code_in ms m = length (get_or ms m no_method).code

-- one method more, where the last before it has an instruction
snoc_coded : (ms : List Method) (x : Method) → ((m : ℕ) → m + 1 < length ms → 0 < code_in ms m)
    → (0 < length ms → 0 < code_in ms (length ms - 1))
    → (m : ℕ) → m + 1 < length (ms ++ (x ∷ [])) → 0 < code_in (ms ++ (x ∷ [])) m
snoc_coded ms x old last m l =
    let k : m < length ms = omega (arith, l, length-append ms (x ∷ [])) in
    rw (get_or-append ms (x ∷ []) no_method m k)
    (by_test (eqb m (length ms - 1))
    (λ e. rw (eqb-true m (length ms - 1) e) (last (omega arith)))
    (λ e. old m (omega (arith, eqb-false m (length ms - 1) e))))

-- the last method changed
set_coded : (ms : List Method) (x : Method) → ((m : ℕ) → m + 1 < length ms → 0 < code_in ms m)
    → (m : ℕ) → m + 1 < length (set ms (length ms - 1) x) → 0 < code_in (set ms (length ms - 1) x) m
set_coded ms x old m l =
    let k : m + 1 < length ms = rw (length-set ms (length ms - 1) x) at l in
    rw (get_or-set_other ms (length ms - 1) m x no_method (λ e. omega arith)) (old m k)

steady_added : (p : Program) (k : Kind) (w : ℕ) → Steady p → Holds (may_stand (counts_of p) k) → Steady (added p k w)
steady_added p k w s h = record { limited = added_limited p s.limited w k h; coded = coded k h }
  where
    coded : (k : Kind) → Holds (may_stand (counts_of p) k) → (m : ℕ) → m + 1 < method_count (added p k w)
        → 0 < code_length (added p k w) m
    coded Class h = s.coded
    coded Field h = s.coded
    coded Static h = s.coded
    coded Header h = snoc_coded p.methods _ s.coded (λ l. h.1.1 (lt-ltb _ _ l))
    coded Handler h = set_coded p.methods _ s.coded
    coded Code h = set_coded p.methods _ s.coded
    coded Unknown h = s.coded

ended : (p : Program) → Steady p → Holds (may_end (counts_of p)) → Ended p
ended p s h =
    record {
      limited = s.limited;
      classes = h.0;
      methods = h.1.0;
      coded =
          λ m l.
          by_test (eqb m (method_count p - 1))
          (λ e. rw (eqb-true m (method_count p - 1) e) h.1.1)
          (λ e. s.coded m (omega (arith, eqb-false m (method_count p - 1) e)));
    }

pub through : (ls : List Line) (p : Program) (n : ℕ) (q : Program) → Steady p → read_lines ls p n ≡ taken q → Ended q
unfolding read_lines
through [] p n q s e =
    by_test (passes (may_end (counts_of p)))
    (λ t. let same : p ≡ q = (let f : taken p ≡ taken q = rw t at e in cc) in rw (sym same) (ended p s (holds (may_end (counts_of p)) t)))
    (λ t. let f : refused 4 n ≡ taken q = rw t at e in never (cc))
through (l ∷ ls) p n q s e =
    by_test (whole l)
    (λ a.
    by_test (eqb (length l.bytes) (digits_of (line_kind l)))
    (λ b.
    by_test (passes (may_stand (counts_of p) (line_kind l)))
    (λ c.
    through ls (added p (line_kind l) (line_fields l)) (n + 1) q
    (steady_added p (line_kind l) (line_fields l) s (holds (may_stand (counts_of p) (line_kind l)) c))
    (rw (a, b, c) at e))
    (λ c. let f : refused 4 n ≡ taken q = rw (a, b, c) at e in never (cc)))
    (λ b. let f : refused 3 n ≡ taken q = rw (a, b) at e in never (cc)))
    (λ a. let f : refused 2 n ≡ taken q = rw a at e in never (cc))
