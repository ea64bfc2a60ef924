-- A program without a marked line has only values that document 01 allows; every mark is refusal 5 or 6; no two methods of such
-- a program share class and name. Assumes nothing.
use mathlib.Core.Path.{◌≡◌, refl, sym, ◌∙◌}
use mathlib.Core.Logic.{◌⊎◌, inl, inr}
use mathlib.Core.Bool.{Bool, true, false}
use mathlib.Core.List.{◌++◌}
use Prim.Native.Nat.{ℕ, zero, suc, ◌≤◌, ◌<◌}
use native.Mathlib.Nat.{not-suc-le-zero, le_of_suc-le-suc}
use native.Mathlib.Omega.{arith}
use borrow.Author.Tests.{eq-eqb}
use Rattle.std.specs.Prelude.{Option, Some, None}
use Rattle.instruction.specs.Test.{Test, passes, Holds}
use Rattle.instruction.specs.Word.{pick}
use Rattle.instruction.proofs.Laws.{holds}
use Rattle.program.proofs.Every.{every_append, every_parts, every_tab, tab_each, every_joined, joined_each}
use Rattle.program.specs.Lists.{Every, one_more, first, joined}
use Rattle.program.specs.Program.{Program, method_count, method_class, method_name, handler_count, from_last}
use Rattle.frame.specs.declared.Kind.{Kind}
use Rattle.frame.specs.declared.Kind.TheVariants.{Class, Field, Static, Header, Handler, Code, Unknown}
use Rattle.values.specs.Values.{instruction_test, last_test, handler_test, alike, some?, repeated, value_mark, instruction_mark}
use Rattle.marks.specs.Marks.{lines_in, mark_at, marks_in, method_marks, marks, first_mark}
use Rattle.marks.specs.Valued.{Valued}
use Rattle.marks.proofs.Zero.{Zero, first_mark_lem, no_mark}

true_false : true ≡ false → ⊥
true_false e = let z : ◌≡◌ {A = ℕ} 0 1 = cc in omega arith

-- a mark that is 0: its test passes, and the mark after it is 0
pick_zero : (b : Bool) (x k : ℕ) → pick b x (suc k) ≡ 0 → (b ≡ true) × (x ≡ 0)
pick_zero true x k e = (refl, e)
pick_zero false x k e = absurd (omega arith)

value_holds : (t : Test) → value_mark t ≡ 0 → Holds t
unfolding value_mark
value_holds t e = holds t (pick_zero (passes t) 0 4 e).0

code_holds : (p : Program) (m pc : ℕ) → instruction_mark p m pc ≡ 0 → Holds (instruction_test p m pc) × Holds (last_test p m pc)
unfolding instruction_mark
code_holds p m pc e =
    let r = pick_zero (passes (instruction_test p m pc)) (pick (passes (last_test p m pc)) 0 6) 4 e in
    (holds (instruction_test p m pc) r.0, holds (last_test p m pc) (pick_zero (passes (last_test p m pc)) 0 5 r.1).0)

-- where the marks of a part are all 0, so is each of them
marks_each : (p : Program) (k : Kind) (m : ℕ) → Every Zero (marks_in p k m) → (i : ℕ) → i < lines_in p k m → mark_at p k m i ≡ 0
unfolding marks_in
marks_each p k m = tab_each Zero (lines_in p k m) (mark_at p k m)

method_each : (p : Program) (m : ℕ) → Every Zero (method_marks p m) → Every Zero (marks_in p Header m) × Every Zero (marks_in p Code m) × Every Zero (marks_in p Handler m)
unfolding method_marks
method_each p m a =
    let r = every_parts Zero (marks_in p Header m) (marks_in p Code m ++ marks_in p Handler m) a in
    let s = every_parts Zero (marks_in p Code m) (marks_in p Handler m) r.1 in
    (r.0, s.0, s.1)

program_each : (p : Program) → Every Zero (marks p) → Every Zero (marks_in p Class 0) × Every Zero (marks_in p Field 0) × ((m : ℕ) → m < method_count p → Every Zero (method_marks p m))
unfolding marks
program_each p a =
    let j = joined (method_count p) (method_marks p) in
    let r = every_parts Zero (marks_in p Class 0) (marks_in p Field 0 ++ (marks_in p Static 0 ++ j)) a in
    let s = every_parts Zero (marks_in p Field 0) (marks_in p Static 0 ++ j) r.1 in
    let t = every_parts Zero (marks_in p Static 0) j s.1 in
    (r.0, s.0, joined_each Zero (method_count p) (method_marks p) t.1)

-- a handler by its number
handler_holds : (p : Program) (m : ℕ) → Every Zero (marks_in p Handler m) → (h : ℕ) → h < handler_count p m → Holds (handler_test p m h)
handler_holds p m a h l =
    let n = handler_count p m in
    let back : from_last n (from_last n h) ≡ h = omega arith in
    rw back at (value_holds (handler_test p m (from_last n (from_last n h))) (marks_each p Handler m a (from_last n h) (omega arith)))

pub clear : (p : Program) → (first_mark (marks p) 1).number ≡ 0 → Valued p
clear p e =
    let a = program_each p (no_mark (marks p) 1 e) in
    record {
      classes = λ c l. value_holds _ (marks_each p Class 0 a.0 c l);
      fields = λ f l. value_holds _ (marks_each p Field 0 a.1 f l);
      methods = λ m l. value_holds _ (marks_each p Header m (method_each p m (a.2 m l)).0 0 (omega arith));
      code = λ m pc l k. (code_holds p m pc (marks_each p Code m (method_each p m (a.2 m l)).1 pc k)).0;
      last = λ m pc l k. (code_holds p m pc (marks_each p Code m (method_each p m (a.2 m l)).1 pc k)).1;
      handlers = λ m h l k. handler_holds p m (method_each p m (a.2 m l)).2 h k;
    }

-- 0, 5 or 6
abbrev Number : ℕ → Type 0
Number n = (n ≡ 0) ⊎ ((5 ≤ n) × (n ≤ 6))

pick_number : (b : Bool) (x y : ℕ) → Number x → Number y → Number (pick b x y)
pick_number true x y h k = h
pick_number false x y h k = k

value_number : (t : Test) → Number (value_mark t)
unfolding value_mark
value_number t = pick_number (passes t) 0 5 (inl refl) (inr (omega arith))

mark_number : (p : Program) (k : Kind) (m i : ℕ) → Number (mark_at p k m i)
unfolding instruction_mark
mark_number p Class m i = value_number _
mark_number p Field m i = value_number _
mark_number p Static m i = inl refl
mark_number p Header m i = value_number _
mark_number p Handler m i = value_number _
mark_number p Code m i =
    pick_number (passes (instruction_test p m i)) _ 5
    (pick_number (passes (last_test p m i)) 0 6 (inl refl) (inr (omega arith))) (inr (omega arith))
mark_number p Unknown m i = inl refl

pub mark_numbers : (p : Program) → ((first_mark (marks p) 1).number ≡ 0) ⊎ ((5 ≤ (first_mark (marks p) 1).number) × ((first_mark (marks p) 1).number ≤ 6))
unfolding marks method_marks marks_in
mark_numbers p =
    let j = joined (method_count p) (method_marks p) in
    first_mark_lem Number (marks p) 1 (inl refl)
    (every_append Number (marks_in p Class 0) (marks_in p Field 0 ++ (marks_in p Static 0 ++ j)) (kind Class 0)
    (every_append Number (marks_in p Field 0) (marks_in p Static 0 ++ j) (kind Field 0)
    (every_append Number (marks_in p Static 0) j (kind Static 0)
    (every_joined Number (method_count p) (method_marks p) (λ m _. method m)))))
  where
    kind : (k : Kind) (m : ℕ) → Every Number (marks_in p k m)
    kind k m = every_tab Number (lines_in p k m) (mark_at p k m) (mark_number p k m)

    method : (m : ℕ) → Every Number (method_marks p m)
    method m =
        every_append Number (marks_in p Header m) (marks_in p Code m ++ marks_in p Handler m) (kind Header m)
        (every_append Number (marks_in p Code m) (marks_in p Handler m) (kind Code m) (kind Handler m))

-- a search that finds none: its first number does not pass, and the search from the next finds none
none_later : (t : Bool) (r : Option ℕ) → some? (pick t (Some zero) (one_more r)) ≡ false → (t ≡ false) × (some? r ≡ false)
none_later true r e = absurd (true_false e)
none_later false None e = (refl, refl)
none_later false (Some k) e = (refl, e)

none_passes : (n : ℕ) (test : ℕ → Bool) → some? (first n test) ≡ false → (k : ℕ) → k < n → test k ≡ false
none_passes zero test e k l = absurd (not-suc-le-zero l)
none_passes (suc n) test e zero l = (none_later (test zero) (first n (λ k. test (suc k))) e).0
none_passes (suc n) test e (suc k) l =
    none_passes n (λ k. test (suc k)) (none_later (test zero) (first n (λ k. test (suc k))) e).1 k (le_of_suc-le-suc l)

-- a method before m that shares its class and name
not_before : (p : Program) → Valued p → (m k : ℕ) → m < method_count p → method_class p k ≡ method_class p m → method_name p k ≡ method_name p m → k < m → ⊥
unfolding repeated alike
not_before p v m k l c n h =
    let shared : alike p m k ≡ true = rw (eq-eqb (method_class p k) (method_class p m) c, eq-eqb (method_name p k) (method_name p m) n) in
    let differs : alike p m k ≡ false = none_passes m (alike p m) (v.methods m l).1 k h in
    true_false (sym shared ∙ differs)

pub alone : (p : Program) → Valued p → (m k : ℕ) → m < method_count p → k < method_count p → method_class p k ≡ method_class p m → method_name p k ≡ method_name p m → k ≡ m
alone p v m k l h c n =
    let before : ¬ (k < m) = not_before p v m k l c n in
    let after : ¬ (m < k) = not_before p v k m h (sym c) (sym n) in
    omega arith
