-- How many lines a kind and a method have at most, whatever stands in the tables. Assumes nothing.
use mathlib.Core.Path.{◌≡◌, refl}
use mathlib.Core.Bool.{Bool, true, false}
use mathlib.Core.List.{List, ◌++◌}
use Prim.Native.Nat.{ℕ, ◌+◌, ◌≤◌, ◌<◌}
use native.Mathlib.Omega.{arith}
use borrow.Author.Tests.{ltb-true, ltb-false}
use lib.Dec.{ltb}
use lib.ListN.{length, length-append}
use Rattle.program.specs.Program.{Program, Method, no_method, method_count, method_at, code_length, handler_count}
use Rattle.program.specs.Tables.{program_in}
use Rattle.program.proofs.Lists.{length_tab}
use Rattle.program.proofs.Read.{classes_limit, fields_limit, statics_are, method_out, code_length_is, handlers_are}
use Rattle.frame.specs.declared.Kind.{Kind}
use Rattle.frame.specs.declared.Kind.TheVariants.{Class, Field, Static, Header, Handler, Code, Unknown}
use Rattle.marks.specs.declared.Stop.{Stop}
use Rattle.marks.specs.Marks.{lines_in, mark_at, marks_in, method_marks, first_mark}
use Rattle.marks.proofs.First.{line_limit}

marks_length : (p : Program) (k : Kind) (m : ℕ) → length (marks_in p k m) ≡ lines_in p k m
unfolding marks_in
marks_length p k m = length_tab (lines_in p k m) (mark_at p k m)

-- where a walk over the lines of a kind stops
pub kind_limit : (p : Program) (k : Kind) (m line : ℕ) (s : Stop) → s ≡ first_mark (marks_in p k m) line → s.line ≤ line + lines_in p k m
kind_limit p k m line s e = rw e (omega (arith, line_limit (marks_in p k m) line, marks_length p k m))

module _ (ws : List ℕ) where
  -- a list of method m, which has at most `limit` elements where the program has the method
  part_limit : (part : Method → List ℕ) (m limit : ℕ) → length (part no_method) ≡ 0 → (m < method_count (program_in ws) → length (part (method_at (program_in ws) m)) ≤ limit) → length (part (method_at (program_in ws) m)) ≤ limit
  part_limit part m limit none inside = by (ltb m (method_count (program_in ws))) refl
    where
      by : (t : Bool) → ltb m (method_count (program_in ws)) ≡ t → length (part (method_at (program_in ws) m)) ≤ limit
      by true e = inside (ltb-true m (method_count (program_in ws)) e)
      by false e =
          let out : method_at (program_in ws) m ≡ no_method = method_out ws m (ltb-false m (method_count (program_in ws)) e) in
          rw (out, none) (omega arith)

  pub code_limit : (m : ℕ) → code_length (program_in ws) m ≤ 32
  code_limit m = part_limit (λ x. x.code) m 32 refl (λ l. omega (arith, code_length_is ws m l))

  pub handler_limit : (m : ℕ) → handler_count (program_in ws) m ≤ 8
  handler_limit m = part_limit (λ x. x.handlers) m 8 refl (λ l. omega (arith, handlers_are ws m l))

  pub statics_limit : (program_in ws).statics ≤ 16
  statics_limit = omega (arith, statics_are ws)

  pub lines_limit : (k : Kind) (m : ℕ) → lines_in (program_in ws) k m ≤ 60
  lines_limit Class m = classes_limit ws
  lines_limit Field m = omega (arith, fields_limit ws)
  lines_limit Static m = omega (arith, statics_limit)
  lines_limit Header m = omega arith
  lines_limit Handler m = omega (arith, handler_limit m)
  lines_limit Code m = omega (arith, code_limit m)
  lines_limit Unknown m = omega arith

  -- where a walk over a method's lines stops
  pub method_limit : (m line : ℕ) (s : Stop) → s ≡ first_mark (method_marks (program_in ws) m) line → s.line ≤ line + 41
  unfolding method_marks
  method_limit m line s e =
      let p = program_in ws in
      let size : length (marks_in p Header m ++ (marks_in p Code m ++ marks_in p Handler m)) ≤ 41 = simp (length-append, marks_length) (omega (arith, code_limit m, handler_limit m)) in
      rw e (omega (arith, line_limit (marks_in p Header m ++ (marks_in p Code m ++ marks_in p Handler m)) line))
