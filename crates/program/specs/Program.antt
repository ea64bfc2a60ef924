-- A program, as document 01's section Text has it: what its frames say, in their order. The fields of a frame after its kind
-- are kept as one number, the high byte first. Definitions only.
use Rattle.std.specs.Prelude.{List, [], reverse, ℕ, suc, ◌-◌, ◌/◌, ◌%◌, length, get_or}
use Rattle.instruction.specs.declared.Instruction.{Instruction}
use Rattle.instruction.specs.Word.{instruction_of}

-- a method: the fields c n k r a of its frame `04`, the fields o a b c d of each instruction `06`, the fields f t g c of
-- each handler `05`
pub record Method : Type 0 where
  pub header : ℕ
  pub code : List ℕ
  pub handlers : List ℕ

-- the superclass of each class `01`, the class of each instance field `02`, how many statics `03`, the methods
pub record Program : Type 0 where
  pub supers : List ℕ
  pub fields : List ℕ
  pub statics : ℕ
  pub methods : List Method

abbrev pub no_method : Method
no_method = record { header = 0; code = []; handlers = [] }

abbrev pub no_program : Program
no_program = record { supers = []; fields = []; statics = 0; methods = [] }

abbrev pub class_count : Program → ℕ
class_count p = length p.supers

abbrev pub field_count : Program → ℕ
field_count p = length p.fields

abbrev pub method_count : Program → ℕ
method_count p = length p.methods

-- "Class 0 has s = ff": ff stands for no superclass, and for a class that the program does not have
abbrev pub superclass : Program → ℕ → ℕ
superclass p c = get_or p.supers c 255

-- "Class 1 is Throwable"
abbrev pub throwable_class : ℕ
throwable_class = 1

-- document 02, note 2: "Classes 2, 3 and 4, each directly below 1, are null, arithmetic and cast"
abbrev pub null_class : ℕ
null_class = 2

abbrev pub arithmetic_class : ℕ
arithmetic_class = 3

abbrev pub cast_class : ℕ
cast_class = 4

-- the class that a field is declared in
abbrev pub field_class : Program → ℕ → ℕ
field_class p f = get_or p.fields f 255

abbrev pub method_at : Program → ℕ → Method
method_at p m = get_or p.methods m no_method

-- "`04 c n k r a` method: class, name, kind (0 virtual, 1 static), r registers .. a arguments"
abbrev pub method_class : Program → ℕ → ℕ
method_class p m = (method_at p m).header / 4294967296 % 256

abbrev pub method_name : Program → ℕ → ℕ
method_name p m = (method_at p m).header / 16777216 % 256

abbrev pub method_kind : Program → ℕ → ℕ
method_kind p m = (method_at p m).header / 65536 % 256

abbrev pub registers : Program → ℕ → ℕ
registers p m = (method_at p m).header / 256 % 256

abbrev pub arguments : Program → ℕ → ℕ
arguments p m = (method_at p m).header % 256

-- "The address is the place in the method, from 0"
abbrev pub code_length : Program → ℕ → ℕ
code_length p m = length (method_at p m).code

abbrev pub word_at : Program → ℕ → ℕ → ℕ
word_at p m pc = get_or (method_at p m).code pc 0

abbrev pub instruction_at : Program → ℕ → ℕ → Instruction
instruction_at p m pc = instruction_of (word_at p m pc)

-- "`05 f t g c` handler: covers f ≤ address < t, goes to g, catches c and below"
abbrev pub handler_count : Program → ℕ → ℕ
handler_count p m = length (method_at p m).handlers

-- document 02, note 3: "The reader is to number them so, 0 for the last in the text"
abbrev pub handler_at : Program → ℕ → ℕ → ℕ
handler_at p m h = get_or (reverse (method_at p m).handlers) h 0

-- the number of the handler in line i of n, both from 0; and the line of number i
abbrev pub from_last : ℕ → ℕ → ℕ
from_last n i = n - suc i

abbrev pub handler_from : Program → ℕ → ℕ → ℕ
handler_from p m h = handler_at p m h / 16777216 % 256

abbrev pub handler_to : Program → ℕ → ℕ → ℕ
handler_to p m h = handler_at p m h / 65536 % 256

abbrev pub handler_target : Program → ℕ → ℕ → ℕ
handler_target p m h = handler_at p m h / 256 % 256

abbrev pub handler_class : Program → ℕ → ℕ → ℕ
handler_class p m h = handler_at p m h % 256
