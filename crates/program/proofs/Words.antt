-- The words of a program's tables, region by region. Assumes nothing.
use mathlib.Core.Path.{◌≡◌, refl, sym, ap, subst}
use Prim.Native.Nat.{ℕ, zero, suc, ◌+◌, ◌*◌, ◌-◌, ◌/◌, ◌%◌, ◌<◌}
use native.Mathlib.Decide.{dec_lt}
use native.Mathlib.Omega.{arith}
use lib.ListN.{length, get_or}
use borrow.Author.Tests.{lt-ltb, le-ltb}
use Rattle.program.specs.Program.{Program, class_count, field_count, method_count, method_at, code_length, handler_count}
use Rattle.program.specs.Tables.{head_word, table_word, tables_of}
use Rattle.program.proofs.Lists.{length_tab, getD_tab}

pub table_length : (p : Program) → length (tables_of p) ≡ 768
unfolding tables_of
table_length p = length_tab 768 (table_word p)

pub table_word_lem : (p : Program) (j : ℕ) → j < 768 → get_or (tables_of p) j 0 ≡ table_word p j
unfolding tables_of
table_word_lem p j l = getD_tab 768 (table_word p) j 0 l

-- ---- each region's words

pub word_classes : (p : Program) → table_word p 0 ≡ class_count p
unfolding table_word
word_classes p = refl

pub word_fields : (p : Program) → table_word p 1 ≡ field_count p
unfolding table_word
word_fields p = refl

pub word_statics : (p : Program) → table_word p 2 ≡ p.statics
unfolding table_word
word_statics p = refl

pub word_methods : (p : Program) → table_word p 3 ≡ method_count p
unfolding table_word
word_methods p = refl

pub word_super : (p : Program) (c : ℕ) → c < 60 → table_word p (4 + c) ≡ get_or p.supers c 0
unfolding table_word
word_super p c l =
    rw (le-ltb (4 + c) 4 (omega arith), lt-ltb (4 + c) 64 (omega arith))
    (ap (λ (i : ℕ). get_or p.supers i 0) (omega arith))

pub word_field : (p : Program) (f : ℕ) → f < 16 → table_word p (64 + f) ≡ get_or p.fields f 0
unfolding table_word
word_field p f l =
    rw (le-ltb (64 + f) 4 (omega arith), le-ltb (64 + f) 64 (omega arith), lt-ltb (64 + f) 80 (omega arith))
    (ap (λ (i : ℕ). get_or p.fields i 0) (omega arith))

-- word k of the three of method m
word_head : (p : Program) (m k j : ℕ) → m < 16 → k < 3 → j ≡ 80 + 3 * m + k → table_word p j ≡ head_word (method_at p m) k
unfolding table_word
word_head p m k j l n e =
    rw (le-ltb j 4 (omega arith), le-ltb j 64 (omega arith), le-ltb j 80 (omega arith), lt-ltb j 128 (omega arith))
    (let d : (j - 80) / 3 ≡ m = omega arith in
    let r : (j - 80) % 3 ≡ k = omega arith in
    rw (d, r) refl)

pub word_header : (p : Program) (m : ℕ) → m < 16 → table_word p (80 + 3 * m) ≡ (method_at p m).header
unfolding head_word
word_header p m l = word_head p m 0 (80 + 3 * m) l (omega arith) (omega arith)

pub word_length : (p : Program) (m : ℕ) → m < 16 → table_word p (81 + 3 * m) ≡ code_length p m
unfolding head_word
word_length p m l = word_head p m 1 (81 + 3 * m) l (omega arith) (omega arith)

pub word_handlers : (p : Program) (m : ℕ) → m < 16 → table_word p (82 + 3 * m) ≡ handler_count p m
unfolding head_word
word_handlers p m l = word_head p m 2 (82 + 3 * m) l (omega arith) (omega arith)

pub word_code : (p : Program) (m pc : ℕ) → m < 16 → pc < 32 → table_word p (128 + 32 * m + pc) ≡ get_or (method_at p m).code pc 0
unfolding table_word
word_code p m pc l n =
    let j : ℕ = 128 + 32 * m + pc in
    rw (le-ltb j 4 (omega arith), le-ltb j 64 (omega arith), le-ltb j 80 (omega arith), le-ltb j 128 (omega arith), lt-ltb j 640 (omega arith))
    (let d : (j - 128) / 32 ≡ m = omega arith in
    let r : (j - 128) % 32 ≡ pc = omega arith in
    rw (d, r) refl)

pub word_handler : (p : Program) (m h : ℕ) → m < 16 → h < 8 → table_word p (640 + 8 * m + h) ≡ get_or (method_at p m).handlers h 0
unfolding table_word
word_handler p m h l n =
    let j : ℕ = 640 + 8 * m + h in
    rw (le-ltb j 4 (omega arith), le-ltb j 64 (omega arith), le-ltb j 80 (omega arith), le-ltb j 128 (omega arith), le-ltb j 640 (omega arith))
    (let d : (j - 640) / 8 ≡ m = omega arith in
    let r : (j - 640) % 8 ≡ h = omega arith in
    rw (d, r) refl)

-- ---- what holds of each region's words holds of every word

-- size is how many instructions, count how many handlers
pub record Regions (P : ℕ → Type 0) : Type 0 where
  pub classes : P 0
  pub fields : P 1
  pub statics : P 2
  pub methods : P 3
  pub super : (c : ℕ) → c < 60 → P (4 + c)
  pub field : (f : ℕ) → f < 16 → P (64 + f)
  pub header : (m : ℕ) → m < 16 → P (80 + 3 * m)
  pub size : (m : ℕ) → m < 16 → P (81 + 3 * m)
  pub count : (m : ℕ) → m < 16 → P (82 + 3 * m)
  pub code : (m pc : ℕ) → m < 16 → pc < 32 → P (128 + 32 * m + pc)
  pub handler : (m h : ℕ) → m < 16 → h < 8 → P (640 + 8 * m + h)

pub every_word : (P : ℕ → Type 0) → Regions P → (j : ℕ) → j < 768 → P j
every_word P c j l =
    elim (dec_lt j 4) [
      | yes a ↦ count j a
      | no a ↦ elim (dec_lt j 64) [
        | yes b ↦ subst P (omega arith) (c.super (j - 4) (omega arith))
        | no b ↦ elim (dec_lt j 80) [
          | yes d ↦ subst P (omega arith) (c.field (j - 64) (omega arith))
          | no d ↦ elim (dec_lt j 128) [
            | yes e ↦ head ((j - 80) / 3) ((j - 80) % 3) (omega arith) (omega arith) (omega arith)
            | no e ↦ elim (dec_lt j 640) [
              | yes f ↦ subst P (omega arith) (c.code ((j - 128) / 32) ((j - 128) % 32) (omega arith) (omega arith))
              | no f ↦ subst P (omega arith) (c.handler ((j - 640) / 8) ((j - 640) % 8) (omega arith) (omega arith))
            ]
          ]
        ]
      ]
    ]
  where
    count : (k : ℕ) → k < 4 → P k
    count zero n = c.classes
    count (suc zero) n = c.fields
    count (suc (suc zero)) n = c.statics
    count (suc (suc (suc zero))) n = c.methods
    count (suc (suc (suc (suc k)))) n = absurd (omega arith)

    head : (m k : ℕ) → m < 16 → k < 3 → j ≡ 80 + k + 3 * m → P j
    head m zero n r e = subst P (sym e) (c.header m n)
    head m (suc zero) n r e = subst P (sym e) (c.size m n)
    head m (suc (suc zero)) n r e = subst P (sym e) (c.count m n)
    head m (suc (suc (suc k))) n r e = absurd (omega arith)
