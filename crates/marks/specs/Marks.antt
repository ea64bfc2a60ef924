-- A mark for every line of a program's text: refusal 5 or 6, or 0; and the first marked line. Definitions only.
use Rattle.std.specs.Prelude.{List, [], ◌∷◌, ◌++◌, ℕ, ◌+◌, eqb}
use Rattle.instruction.specs.Word.{pick}
use Rattle.program.specs.Lists.{tab, joined}
use Rattle.program.specs.Program.{Program, class_count, field_count, method_count, code_length, handler_count, from_last}
use Rattle.frame.specs.declared.Kind.{Kind}
use Rattle.frame.specs.declared.Kind.TheVariants.{Class, Field, Static, Header, Handler, Code, Unknown}
use Rattle.values.specs.Values.{class_test, field_test, method_test, handler_test, value_mark, instruction_mark}
use Rattle.marks.specs.declared.Stop.{Stop}

-- how many lines of a kind stand together: of a method's lines, method m's
abbrev pub lines_in : Program → Kind → ℕ → ℕ
lines_in p Class m = class_count p
lines_in p Field m = field_count p
lines_in p Static m = p.statics
lines_in p Header m = 1
lines_in p Handler m = handler_count p m
lines_in p Code m = code_length p m
lines_in p Unknown m = 0

-- the mark of line i among them; a handler's number is counted from the last line
abbrev pub mark_at : Program → Kind → ℕ → ℕ → ℕ
mark_at p Class m i = value_mark (class_test p i)
mark_at p Field m i = value_mark (field_test p i)
mark_at p Static m i = 0
mark_at p Header m i = value_mark (method_test p m)
mark_at p Handler m i = value_mark (handler_test p m (from_last (handler_count p m) i))
mark_at p Code m i = instruction_mark p m i
mark_at p Unknown m i = 0

-- their marks
unfoldable pub marks_in : Program → Kind → ℕ → List ℕ
marks_in p k m = tab (lines_in p k m) (mark_at p k m)

-- the marks of a method's lines
unfoldable pub method_marks : Program → ℕ → List ℕ
method_marks p m = marks_in p Header m ++ (marks_in p Code m ++ marks_in p Handler m)

-- the marks of all lines of a program's text, in its order
unfoldable pub marks : Program → List ℕ
marks p =
    marks_in p Class 0
    ++ (marks_in p Field 0 ++ (marks_in p Static 0 ++ joined (method_count p) (method_marks p)))

abbrev pub stop : ℕ → ℕ → Stop
stop number line = record { number = number; line = line }

-- the first line with a mark, from a line on; number 0 and the line after them where none has one
unfoldable pub first_mark : List ℕ → ℕ → Stop
first_mark [] line = stop 0 line
first_mark (mark ∷ rest) line = pick (eqb mark 0) (first_mark rest (line + 1)) (stop mark line)
