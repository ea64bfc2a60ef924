-- `marks::first_mark` meets its contract: the first mark of four lists, one after the other; a static has none. Assumes
-- nothing.
-- the marks after those of the statics, of the fields and of the classes
use mathlib.Core.Path.{◌≡◌, ◌∙◌}
use mathlib.Core.List.{List, ◌++◌}
use Prim.Native.Nat.{ℕ}
use native.Mathlib.Omega.{arith}
use Rattle.program.specs.Program.{Program, method_count}
use Rattle.program.specs.Tables.{program_in}
use Rattle.program.proofs.Read.{classes_limit, fields_limit}
use Rattle.frame.specs.declared.Kind.TheVariants.{Class, Field, Static}
use Rattle.marks.specs.declared.Stop.{Stop}
use Rattle.program.specs.Lists.{joined}
use Rattle.marks.specs.Marks.{marks_in, method_marks, marks, first_mark}
use Rattle.marks.proofs.Bounds.{statics_limit, kind_limit}
use Rattle.marks.proofs.First.{stop_here, go_on, no_marks}
use Rattle.marks.proofs.first_mark.Goals as goal

abbrev after_statics : Program → List ℕ
after_statics p = joined (method_count p) (method_marks p)

abbrev after_fields : Program → List ℕ
after_fields p = marks_in p Static 0 ++ after_statics p

abbrev after_classes : Program → List ℕ
after_classes p = marks_in p Field 0 ++ after_fields p

no_static : (p : Program) (line : ℕ) (s : Stop) → s ≡ first_mark (marks_in p Static 0) line → s.number ≡ 0
unfolding marks_in
no_static p line s e = rw e (no_marks p.statics line)

pub returns-then-classes-ne0 : goal.returns-then-classes-ne0
unfolding marks
returns-then-classes-ne0 c =
    let p = program_in c.args.t.now in
    record { value = stop_here (marks_in p Class 0) (after_classes p) 1 _ c.scan-classes.ensures.value c.if-classes-ne0.true }

pub scan-fields-requires : goal.scan-fields-requires
scan-fields-requires c =
    let t = c.args.t.now in
    omega (arith, kind_limit (program_in t) Class 0 1 _ c.scan-classes.ensures.value, classes_limit t)

pub returns-then-fields-ne0 : goal.returns-then-fields-ne0
unfolding marks
returns-then-fields-ne0 c =
    let p = program_in c.args.t.now in
    record {
      value = stop_here (marks_in p Field 0) (after_fields p) c.scan-classes.result.line _ c.scan-fields.ensures.value c.if-fields-ne0.true
          ∙ go_on (marks_in p Class 0) (after_classes p) 1 _ c.scan-classes.ensures.value c.if-classes-ne0.false;
    }

pub scan-statics-requires : goal.scan-statics-requires
scan-statics-requires c =
    let t = c.args.t.now in
    omega (
      arith,
      kind_limit (program_in t) Class 0 1 _ c.scan-classes.ensures.value,
      kind_limit (program_in t) Field 0 c.scan-classes.result.line _ c.scan-fields.ensures.value,
      classes_limit t,
      fields_limit t,
    )

pub scan_methods-requires : goal.scan_methods-requires
scan_methods-requires c =
    let t = c.args.t.now in
    omega (
      arith,
      kind_limit (program_in t) Class 0 1 _ c.scan-classes.ensures.value,
      kind_limit (program_in t) Field 0 c.scan-classes.result.line _ c.scan-fields.ensures.value,
      kind_limit (program_in t) Static 0 c.scan-fields.result.line _ c.scan-statics.ensures.value,
      classes_limit t,
      fields_limit t,
      statics_limit t,
    )

pub returns : goal.returns
unfolding marks
returns c =
    let p = program_in c.args.t.now in
    record {
      value = c.scan_methods.ensures.value
          ∙ go_on (marks_in p Static 0) (after_statics p) c.scan-fields.result.line _ c.scan-statics.ensures.value
          (no_static p c.scan-fields.result.line _ c.scan-statics.ensures.value)
          ∙ go_on (marks_in p Field 0) (after_fields p) c.scan-classes.result.line _ c.scan-fields.ensures.value c.if-fields-ne0.false
          ∙ go_on (marks_in p Class 0) (after_classes p) 1 _ c.scan-classes.ensures.value c.if-classes-ne0.false;
    }
