-- Frames, their order and their counts: refusals 3 and 4. Definitions only.
use Rattle.std.specs.Prelude.{true, List, [], ◌∷◌, ◌++◌, ℕ, ◌+◌, ◌-◌, eqb, ltb, set}
use Rattle.instruction.specs.Word.{pick}
use Rattle.instruction.specs.Test.{Test, under, most, same, ◌&◌, given, never}
use Rattle.program.specs.Program.{Method, Program, class_count, field_count, method_count, method_at, code_length, handler_count}
use Rattle.frame.specs.declared.Kind.{Kind}
use Rattle.frame.specs.declared.Kind.TheVariants.{Class, Field, Static, Header, Handler, Code, Unknown}
use Rattle.frame.specs.declared.Counts.{Counts}

-- "The first byte is the kind"
unfoldable pub kind_of : ℕ → Kind
kind_of n =
    pick (eqb n 1) Class
    (pick (eqb n 2) Field
    (pick (eqb n 3) Static (pick (eqb n 4) Header (pick (eqb n 5) Handler (pick (eqb n 6) Code Unknown)))))

-- how many digits a frame has: "`01 s`", "`02 c`", "`03`", "`04 c n k r a`", "`05 f t g c`", "`06 o a b c d` .. d of four
-- bytes". An unknown kind has no length, so that no line has it
abbrev pub digits_of : Kind → ℕ
digits_of Class = 4
digits_of Field = 4
digits_of Static = 2
digits_of Header = 12
digits_of Handler = 10
digits_of Code = 18
digits_of Unknown = 0

-- the frames of each kind so far; instructions and handlers are those of the last method
abbrev pub counts_of : Program → Counts
counts_of p =
    record {
      classes = class_count p;
      fields = field_count p;
      statics = p.statics;
      methods = method_count p;
      code = code_length p (method_count p - 1);
      handlers = handler_count p (method_count p - 1);
    }

-- "Frames stand in this order", "2 to 60" classes and "under five classes is 4" (document 02, note 2), "0 to 16" fields, "0 to 16"
-- statics, "1 to 16 methods", "Each is followed by 1 to 32 instructions, then 0 to 8 handlers": whether a frame may stand after
-- these. That there are at most 16 methods is asked again where the last method's number says the place of a frame
abbrev pub may_stand : Counts → Kind → Test
may_stand n Class = under n.classes 60 & same n.fields 0 & same n.statics 0 & same n.methods 0
may_stand n Field = most 5 n.classes & under n.fields 16 & same n.statics 0 & same n.methods 0
may_stand n Static = most 5 n.classes & under n.statics 16 & same n.methods 0
may_stand n Header = most 5 n.classes & under n.methods 16 & given (ltb 0 n.methods) (under 0 n.code)
may_stand n Code = under 0 n.methods & most n.methods 16 & under n.code 32 & same n.handlers 0
may_stand n Handler = under 0 n.methods & most n.methods 16 & under 0 n.code & under n.handlers 8
may_stand n Unknown = never true

-- whether the text may end after these
abbrev pub may_end : Counts → Test
may_end n = most 5 n.classes & under 0 n.methods & under 0 n.code

-- the last method with one instruction or handler more
abbrev pub with_code : Method → ℕ → Method
with_code m w = record { header = m.header; code = m.code ++ (w ∷ []); handlers = m.handlers }

abbrev pub with_handler : Method → ℕ → Method
with_handler m w = record { header = m.header; code = m.code; handlers = m.handlers ++ (w ∷ []) }

abbrev pub with_methods : Program → List Method → Program
with_methods p ms = record { supers = p.supers; fields = p.fields; statics = p.statics; methods = ms }

-- the program with one frame more, of a kind and with the fields w
abbrev pub added : Program → Kind → ℕ → Program
added p Class w =
    record { supers = p.supers ++ (w ∷ []); fields = p.fields; statics = p.statics; methods = p.methods }
added p Field w =
    record { supers = p.supers; fields = p.fields ++ (w ∷ []); statics = p.statics; methods = p.methods }
added p Static w =
    record { supers = p.supers; fields = p.fields; statics = p.statics + 1; methods = p.methods }
added p Header w = with_methods p (p.methods ++ (record { header = w; code = []; handlers = [] } ∷ []))
added p Code w =
    with_methods p (set p.methods (method_count p - 1) (with_code (method_at p (method_count p - 1)) w))
added p Handler w =
    with_methods p (set p.methods (method_count p - 1) (with_handler (method_at p (method_count p - 1)) w))
added p Unknown w = p
