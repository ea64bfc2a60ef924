-- Every program that a text reads to is well formed. Assumes nothing.
use mathlib.Core.Path.{◌≡◌, refl, sym}
use mathlib.Core.Bool.{Bool, true, false, ◌&&◌}
use mathlib.Core.List.{List}
use Prim.Native.Nat.{ℕ, ◌+◌, ◌-◌, ◌≤◌, ◌<◌}
use native.Mathlib.Omega.{arith}
use lib.Dec.{eqb, ltb}
use lib.ListN.{length}
use borrow.Author.Tests.{eq-eqb, ne_eqb, eqb-true, le-leb}
use Rattle.text.specs.Hex.{lines_of}
use Rattle.text.proofs.Cases.{by_test, never}
use Rattle.instruction.specs.Test.{Holds}
use Rattle.instruction.specs.Word.{falls_through}
use Rattle.program.specs.Program.{Program, no_program, throwable_class, null_class, cast_class, method_count, superclass, method_kind}
use Rattle.program.specs.Program.{code_length, instruction_at}
use Rattle.values.specs.Values.{built_in, super_test}
use Rattle.marks.specs.Marks.{marks, first_mark}
use Rattle.marks.specs.Valued.{Valued}
use Rattle.marks.proofs.Clear.{clear, alone}
use Rattle.reader.specs.Read.{Reading, refused, taken, judged, valued, read_program}
use Rattle.reader.specs.Formed.{Formed, FormedMethod}
use Rattle.reader.proofs.Turn.{whole_reading, nothing_limited}
use Rattle.reader.proofs.Steady.{Steady, Ended, through}

-- superclasses
top_class : (s : ℕ) → Holds (super_test 0 s) → s ≡ 255
top_class s h = h

other_class : (c s : ℕ) → 1 ≤ c → Holds (super_test c s) → (s < c) × (built_in c ≡ true → s ≡ throwable_class)
other_class c s l h = rw (ne_eqb c 0 (λ e. omega arith)) at h

is_built_in : (c : ℕ) → null_class ≤ c → c ≤ cast_class → built_in c ≡ true
is_built_in c l h = rw (le-leb null_class c l, le-leb c cast_class h)

-- the second of two flags, where the first is true and not both are
second : (a b : Bool) → a ≡ true → a && b ≡ false → b ≡ false
second true b e f = f
second false b e f = never (cc)

module _ (p : Program) (e : Ended p) (v : Valued p) where
  formed_method : (m : ℕ) → m < method_count p → FormedMethod p m
  formed_method m l =
      let h = (v.methods m l).0 in
      let some : 1 ≤ code_length p m = e.coded m l in
      let end : code_length p m - 1 < code_length p m = omega arith in
      record {
        class = h.0;
        kind = h.1.0;
        registers_from = h.1.1.0;
        registers_to = h.1.1.1.0;
        arguments_to = h.1.1.1.1.0;
        receiver = λ z. h.1.1.1.1.1.0 (eq-eqb (method_kind p m) 0 z);
        code_from = some;
        code_to = e.limited.code m;
        handlers_to = e.limited.handlers m;
        words = λ pc k. (v.code m pc l k).0;
        names = λ pc k. (v.code m pc l k).1.0;
        calls = λ pc k. (v.code m pc l k).1.1;
        last =
            second (eqb (code_length p m - 1 + 1) (code_length p m)) (falls_through (instruction_at p m (code_length p m - 1)))
            (eq-eqb (code_length p m - 1 + 1) (code_length p m) (omega arith))
            (v.last m (code_length p m - 1) l end);
        covers = λ j k. (v.handlers m j l k).0;
        within = λ j k. (v.handlers m j l k).1.0;
        target = λ j k. (v.handlers m j l k).1.1.0;
        caught = λ j k. (v.handlers m j l k).1.1.1;
      }

  formed : Formed p
  formed =
      let main = (v.methods 0 e.methods).0.1.1.1.1.1.1 refl in
      record {
        classes_from = e.classes;
        methods_from = e.methods;
        limited = e.limited;
        top = top_class (superclass p 0) (v.classes 0 (omega (arith, e.classes)));
        supers = λ c l low. (other_class c (superclass p c) low (v.classes c l)).0;
        built_in =
            λ c l h.
            (other_class c (superclass p c) (omega (arith, l)) (v.classes c (omega (arith, h, e.classes)))).1 (is_built_in c l h);
        fields = v.fields;
        methods = formed_method;
        main_static = main.0;
        main_arguments = main.1;
        alone = alone p v;
      }

-- a reading that takes a program went through both walks
passed : (r : Reading) (p : Program) → valued r ≡ taken p → (r ≡ taken p) × ((first_mark (marks p) 1).number ≡ 0)
unfolding valued judged
passed (refused number line) p e = never (cc)
passed (taken q) p e =
    by_test (eqb (first_mark (marks q) 1).number 0)
    (λ t.
    let f : taken q ≡ taken p = rw t at e in
    let same : q ≡ p = cc in
    (f, rw (sym same) (eqb-true (first_mark (marks q) 1).number 0 t)))
    (λ t. let f : refused (first_mark (marks q) 1).number (first_mark (marks q) 1).line ≡ taken p = rw t at e in never (cc))

pub well_formed : (text : List ℕ) (p : Program) → read_program text ≡ taken p → Formed p
unfolding read_program
well_formed text p e =
    by_test (ltb 65536 (length text))
    (λ t. let f : refused 1 0 ≡ taken p = rw t at e in never (cc))
    (λ t.
    let r = passed (whole_reading text) p (rw t at e) in
    let s : Steady no_program = record { limited = nothing_limited; coded = λ m l. absurd (omega arith) } in
    formed p (through (lines_of text) no_program 1 p s r.0) (clear p r.1))
