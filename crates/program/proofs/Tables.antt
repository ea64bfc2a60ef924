-- The program that stands in a program's tables is that program; the tables of a program with no frame. Assumes nothing.
use mathlib.Core.Path.{◌≡◌, refl, ap, ◌∙◌}
use mathlib.Core.List.{List, ◌∷◌}
use Prim.Native.Nat.{ℕ, zero, suc, ◌+◌, ◌*◌, ◌≤◌, ◌<◌, min}
use native.Mathlib.Omega.{arith}
use lib.ListN.{length, get_or, replicate}
use Rattle.program.specs.Lists.{tab}
use Rattle.program.specs.Program.{Method, Program, no_method, no_program, method_at}
use Rattle.program.specs.Tables.{table_word, Limited, tables_of, method_from, program_in}
use Rattle.program.proofs.Lists.{tab_cong, tab_getD}
use Rattle.program.proofs.Words.{table_word_lem, word_classes, word_fields, word_statics, word_methods, word_super, word_field, word_header, word_length, word_handlers, word_code, word_handler, Regions, every_word}

-- ---- a program with no frame

tab_same : (n a : ℕ) → tab n (λ i. a) ≡ replicate n a
tab_same zero a = refl
tab_same (suc n) a = ap (λ (xs : List ℕ). a ∷ xs) (tab_same n a)

pub empty_tables : tables_of no_program ≡ replicate 768 0
unfolding tables_of
empty_tables =
    tab_cong 768 (table_word no_program) (λ j. 0) (every_word (λ j. table_word no_program j ≡ 0) zeros) ∙ tab_same 768 0
  where
    zeros : Regions (λ j. table_word no_program j ≡ 0)
    zeros =
        record {
          classes = word_classes no_program;
          fields = word_fields no_program;
          statics = word_statics no_program;
          methods = word_methods no_program;
          super = word_super no_program;
          field = word_field no_program;
          header = word_header no_program;
          size = word_length no_program;
          count = word_handlers no_program;
          code = word_code no_program;
          handler = word_handler no_program;
        }

-- ---- the program in its tables

same_method : {x y : Method} → x.header ≡ y.header → x.code ≡ y.code → x.handlers ≡ y.handlers → x ≡ y
same_method h c d = λ i. record { header = h i; code = c i; handlers = d i }

same_program : {p q : Program} → p.supers ≡ q.supers → p.fields ≡ q.fields → p.statics ≡ q.statics → p.methods ≡ q.methods → p ≡ q
same_program s f t m = λ i. record { supers = s i; fields = f i; statics = t i; methods = m i }

-- a list that is read back, with its length n and at most k elements
tab_back : {A : Type 0} (xs : List A) (d : A) (n k : ℕ) (f : ℕ → A) → n ≡ length xs → length xs ≤ k → ((i : ℕ) → i < k → f i ≡ get_or xs i d) → tab (min n k) f ≡ xs
tab_back xs d n k f e l h =
    let all : min n k ≡ length xs = omega arith in
    ap (λ (m : ℕ). tab m f) all
    ∙ tab_cong (length xs) f (λ i. get_or xs i d) (λ i b. h i (omega arith))
    ∙ tab_getD xs d

pub method_of_tables : (p : Program) → Limited p → (m : ℕ) → m < 16 → method_from (tables_of p) m ≡ method_at p m
unfolding method_from
method_of_tables p b m l =
    same_method
    (table_word_lem p (80 + 3 * m) (omega arith) ∙ word_header p m l)
    (tab_back (method_at p m).code 0 (get_or (tables_of p) (81 + 3 * m) 0) 32 (λ i. get_or (tables_of p) (128 + 32 * m + i) 0)
    (table_word_lem p (81 + 3 * m) (omega arith) ∙ word_length p m l)
    (b.code m)
    (λ i n. table_word_lem p (128 + 32 * m + i) (omega arith) ∙ word_code p m i l n))
    (tab_back (method_at p m).handlers 0 (get_or (tables_of p) (82 + 3 * m) 0) 8 (λ i. get_or (tables_of p) (640 + 8 * m + i) 0)
    (table_word_lem p (82 + 3 * m) (omega arith) ∙ word_handlers p m l)
    (b.handlers m)
    (λ i n. table_word_lem p (640 + 8 * m + i) (omega arith) ∙ word_handler p m i l n))

pub program_of_tables : (p : Program) → Limited p → program_in (tables_of p) ≡ p
unfolding program_in
program_of_tables p b =
    same_program
    (tab_back p.supers 0 (get_or (tables_of p) 0 0) 60 (λ i. get_or (tables_of p) (4 + i) 0)
    (table_word_lem p 0 (omega arith) ∙ word_classes p)
    b.classes
    (λ i n. table_word_lem p (4 + i) (omega arith) ∙ word_super p i n))
    (tab_back p.fields 0 (get_or (tables_of p) 1 0) 16 (λ i. get_or (tables_of p) (64 + i) 0)
    (table_word_lem p 1 (omega arith) ∙ word_fields p)
    b.fields
    (λ i n. table_word_lem p (64 + i) (omega arith) ∙ word_field p i n))
    (let e : get_or (tables_of p) 2 0 ≡ p.statics = table_word_lem p 2 (omega arith) ∙ word_statics p in
    let l : p.statics ≤ 16 = b.statics in
    omega arith)
    (tab_back p.methods no_method (get_or (tables_of p) 3 0) 16 (method_from (tables_of p))
    (table_word_lem p 3 (omega arith) ∙ word_methods p)
    b.methods
    (method_of_tables p b))
