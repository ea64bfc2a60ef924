-- How a program lies in the tables that the reader fills: 768 words. Left free by document 01. Definitions only.
--     0 to 3        how many classes, fields, statics and methods
--     4 to 63       the superclass of each class
--     64 to 79      the class of each field
--     80 to 127     of each method its header, how many instructions and how many handlers
--     128 to 639    the instructions, 32 places a method
--     640 to 767    the handlers, 8 places a method
-- A word that the program does not use is zero.
use Rattle.std.specs.Prelude.{List, ℕ, ◌+◌, ◌*◌, ◌-◌, ◌/◌, ◌%◌, ◌≤◌, min, eqb, ltb, length, get_or}
use Rattle.instruction.specs.Word.{pick}
use Rattle.program.specs.Lists.{tab}
use Rattle.program.specs.Program.{Method, Program, class_count, field_count, method_count, method_at, code_length, handler_count}

-- word k of a method's three
unfoldable pub head_word : Method → ℕ → ℕ
head_word m k = pick (eqb k 0) m.header (pick (eqb k 1) (length m.code) (length m.handlers))

-- word j of the tables
unfoldable pub table_word : Program → ℕ → ℕ
table_word p j =
    pick (ltb j 4)
    (pick (eqb j 0) (class_count p) (pick (eqb j 1) (field_count p) (pick (eqb j 2) p.statics (method_count p))))
    (pick (ltb j 64) (get_or p.supers (j - 4) 0)
    (pick (ltb j 80) (get_or p.fields (j - 64) 0)
    (pick (ltb j 128) (head_word (method_at p ((j - 80) / 3)) ((j - 80) % 3))
    (pick (ltb j 640) (get_or (method_at p ((j - 128) / 32)).code ((j - 128) % 32) 0)
    (get_or (method_at p ((j - 640) / 8)).handlers ((j - 640) % 8) 0)))))

-- a program that the tables have room for: the limits of document 01's section Text
pub record Limited (p : Program) : Type 0 where
  pub classes : class_count p ≤ 60
  pub fields : field_count p ≤ 16
  pub statics : p.statics ≤ 16
  pub methods : method_count p ≤ 16
  pub code : (m : ℕ) → code_length p m ≤ 32
  pub handlers : (m : ℕ) → handler_count p m ≤ 8

-- the tables of a program
unfoldable pub tables_of : Program → List ℕ
tables_of p = tab 768 (table_word p)

-- the method that stands in tables at m
unfoldable pub method_from : List ℕ → ℕ → Method
method_from ws m =
    record {
      header = get_or ws (80 + 3 * m) 0;
      code = tab (min (get_or ws (81 + 3 * m) 0) 32) (λ i. get_or ws (128 + 32 * m + i) 0);
      handlers = tab (min (get_or ws (82 + 3 * m) 0) 8) (λ i. get_or ws (640 + 8 * m + i) 0);
    }

-- the program that stands in tables, whatever their words: no count goes past its limit
unfoldable pub program_in : List ℕ → Program
program_in ws =
    record {
      supers = tab (min (get_or ws 0 0) 60) (λ i. get_or ws (4 + i) 0);
      fields = tab (min (get_or ws 1 0) 16) (λ i. get_or ws (64 + i) 0);
      statics = min (get_or ws 2 0) 16;
      methods = tab (min (get_or ws 3 0) 16) (method_from ws);
    }
