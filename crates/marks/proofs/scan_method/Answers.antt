-- `marks::scan_method` meets its contract: the first mark of three lists, one after the other. Assumes nothing.
use mathlib.Core.Path.{◌∙◌}
use mathlib.Core.List.{◌++◌}
use native.Mathlib.Omega.{arith}
use Rattle.program.specs.Tables.{program_in}
use Rattle.frame.specs.declared.Kind.TheVariants.{Header, Handler, Code}
use Rattle.marks.specs.Marks.{marks_in, method_marks}
use Rattle.marks.proofs.Bounds.{code_limit, kind_limit}
use Rattle.marks.proofs.First.{stop_here, go_on}
use Rattle.marks.proofs.scan_method.Goals as goal

pub returns-then-header-ne0 : goal.returns-then-header-ne0
unfolding method_marks
returns-then-header-ne0 c =
    let a = c.args in
    let p = program_in a.t.now in
    record {
      value = stop_here (marks_in p Header a.m) (marks_in p Code a.m ++ marks_in p Handler a.m) a.line _
          c.scan-header.ensures.value c.if-header-ne0.true;
    }

pub scan-code-requires : goal.scan-code-requires
scan-code-requires c =
    let a = c.args in
    omega (arith, kind_limit (program_in a.t.now) Header a.m a.line _ c.scan-header.ensures.value)

pub returns-then-code-ne0 : goal.returns-then-code-ne0
unfolding method_marks
returns-then-code-ne0 c =
    let a = c.args in
    let p = program_in a.t.now in
    record {
      value = stop_here (marks_in p Code a.m) (marks_in p Handler a.m) c.scan-header.result.line _
          c.scan-code.ensures.value c.if-code-ne0.true
          ∙ go_on (marks_in p Header a.m) (marks_in p Code a.m ++ marks_in p Handler a.m) a.line _
          c.scan-header.ensures.value c.if-header-ne0.false;
    }

pub scan-requires : goal.scan-requires
scan-requires c =
    let a = c.args in
    let p = program_in a.t.now in
    omega (
      arith,
      kind_limit p Header a.m a.line _ c.scan-header.ensures.value,
      kind_limit p Code a.m c.scan-header.result.line _ c.scan-code.ensures.value,
      code_limit a.t.now a.m,
    )

pub returns : goal.returns
unfolding method_marks
returns c =
    let a = c.args in
    let p = program_in a.t.now in
    record {
      value = c.scan.ensures.value
          ∙ go_on (marks_in p Code a.m) (marks_in p Handler a.m) c.scan-header.result.line _ c.scan-code.ensures.value c.if-code-ne0.false
          ∙ go_on (marks_in p Header a.m) (marks_in p Code a.m ++ marks_in p Handler a.m) a.line _
          c.scan-header.ensures.value c.if-header-ne0.false;
    }
