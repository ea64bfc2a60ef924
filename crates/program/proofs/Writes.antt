-- Writes in a list by index, and in the tables of a program: two words that change, every other as it was. Assumes nothing.
use mathlib.Core.Path.{◌≡◌, refl, sym, ap, ◌∙◌}
use mathlib.Core.List.{List, [], ◌∷◌, ◌++◌}
use Prim.Native.Nat.{ℕ, zero, suc, ◌+◌, ◌*◌, ◌<◌}
use native.Mathlib.Nat.{not-suc-le-zero, le_of_suc-le-suc, suc_inj}
use native.Mathlib.Decide.{ℕ_discrete}
use native.Mathlib.Omega.{arith}
use lib.Dec.{eqb}
use lib.ListN.{length, get_or, set}
use borrow.Author.Tests.{eq-eqb, ne_eqb}
use Rattle.instruction.specs.Word.{pick}
use Rattle.program.specs.Lists.{tab}
use Rattle.program.specs.Program.{Method, Program, class_count, field_count, method_count, method_at}
use Rattle.program.specs.Tables.{table_word, tables_of}
use Rattle.program.proofs.Lists.{tab_cong}
use Rattle.program.proofs.Words.{Regions, every_word, word_classes, word_fields, word_statics, word_methods, word_super, word_field, word_header, word_length, word_handlers, word_code, word_handler}

-- ---- lists

module _ {A : Type 0} where
  -- every index but the one past the end reads as before
  pub getD_snoc_other : (xs : List A) (x : A) (i : ℕ) (d : A) → (i ≡ length xs → ⊥) → get_or (xs ++ (x ∷ [])) i d ≡ get_or xs i d
  getD_snoc_other [] x zero d n = absurd (n refl)
  getD_snoc_other [] x (suc i) d n = refl
  getD_snoc_other (y ∷ xs) x zero d n = refl
  getD_snoc_other (y ∷ xs) x (suc i) d n = getD_snoc_other xs x i d (λ e. n (ap suc e))

  pub set_tab : (n : ℕ) (f : ℕ → A) (i : ℕ) (v : A) (g : ℕ → A) → g i ≡ v → ((j : ℕ) → j < n → (j ≡ i → ⊥) → g j ≡ f j) → i < n → set (tab n f) i v ≡ tab n g
  set_tab zero f i v g e h l = absurd (not-suc-le-zero l)
  set_tab (suc n) f zero v g e h l =
      let r : tab n (λ k. f (suc k)) ≡ tab n (λ k. g (suc k)) = tab_cong n (λ k. f (suc k)) (λ k. g (suc k)) (λ k b. sym (h (suc k) (omega arith) (omega arith))) in
      cc
  set_tab (suc n) f (suc i) v g e h l =
      let a : g zero ≡ f zero = h zero (omega arith) (omega arith) in
      let r : set (tab n (λ k. f (suc k))) i v ≡ tab n (λ k. g (suc k)) =
      set_tab n (λ k. f (suc k)) i v (λ k. g (suc k)) e (λ j b d. h (suc j) (omega arith) (λ q. d (suc_inj q))) (le_of_suc-le-suc l) in
      cc

  -- two writes, the second perhaps at the first's place
  pub set_tab_2 : (n : ℕ) (f : ℕ → A) (i : ℕ) (v : A) (k : ℕ) (u : A) (g : ℕ → A) → g k ≡ u → ((k ≡ i → ⊥) → g i ≡ v)
      → ((j : ℕ) → j < n → (j ≡ i → ⊥) → (j ≡ k → ⊥) → g j ≡ f j) → i < n → k < n → set (set (tab n f) i v) k u ≡ tab n g
  set_tab_2 n f i v k u g e a h l m =
      let once : ℕ → A = λ j. pick (eqb j i) v (f j) in
      ap (λ (xs : List A). set xs k u)
      (set_tab n f i v once (rw (eq-eqb i i refl) refl) (λ j b d. rw (ne_eqb j i d) refl) l)
      ∙ set_tab n once k u g e (λ j b d. at j b d (ℕ_discrete j i)) m
    where
      at : (j : ℕ) → j < n → (j ≡ k → ⊥) → Dec (j ≡ i) → g j ≡ pick (eqb j i) v (f j)
      at j b d (yes q) = rw (eq-eqb j i q, q) (a (λ s. d (q ∙ sym s)))
      at j b d (no q) = rw (ne_eqb j i q) (h j b q d)

-- ---- two programs whose words agree at every place but i and k

-- x is y unless the place j, where they stand, is i or k
abbrev pub Kept : {A : Type 0} → ℕ → ℕ → ℕ → A → A → Type 0
Kept i k j x y = (j ≡ i → ⊥) → (j ≡ k → ⊥) → x ≡ y

pub record KeptMethod (i k m : ℕ) (x y : Method) : Type 0 where
  pub header : Kept i k (80 + 3 * m) x.header y.header
  pub size : Kept i k (81 + 3 * m) (length x.code) (length y.code)
  pub count : Kept i k (82 + 3 * m) (length x.handlers) (length y.handlers)
  pub code : (pc : ℕ) → Kept i k (128 + 32 * m + pc) (get_or x.code pc 0) (get_or y.code pc 0)
  pub handler : (h : ℕ) → Kept i k (640 + 8 * m + h) (get_or x.handlers h 0) (get_or y.handlers h 0)

pub record KeptProgram (i k : ℕ) (p q : Program) : Type 0 where
  pub classes : Kept i k 0 (class_count p) (class_count q)
  pub fields : Kept i k 1 (field_count p) (field_count q)
  pub statics : Kept i k 2 p.statics q.statics
  pub methods : Kept i k 3 (method_count p) (method_count q)
  pub super : (c : ℕ) → Kept i k (4 + c) (get_or p.supers c 0) (get_or q.supers c 0)
  pub field : (f : ℕ) → Kept i k (64 + f) (get_or p.fields f 0) (get_or q.fields f 0)
  pub method : (m : ℕ) → KeptMethod i k m (method_at p m) (method_at q m)

pub kept_method : (i k m : ℕ) (x y : Method) → x ≡ y → KeptMethod i k m x y
kept_method i k m x y e =
    record {
      header = λ a b. ap (λ (z : Method). z.header) e;
      size = λ a b. ap (λ (z : Method). length z.code) e;
      count = λ a b. ap (λ (z : Method). length z.handlers) e;
      code = λ pc a b. ap (λ (z : Method). get_or z.code pc 0) e;
      handler = λ h a b. ap (λ (z : Method). get_or z.handlers h 0) e;
    }

-- p's tables with v written at i, then u at k, are q's
pub grown : (p q : Program) (i v k u : ℕ) → i < 768 → k < 768 → ((k ≡ i → ⊥) → table_word q i ≡ v) → table_word q k ≡ u → KeptProgram i k q p
    → tables_of q ≡ set (set (tables_of p) i v) k u
unfolding tables_of
grown p q i v k u l m a e c =
    sym (set_tab_2 768 (table_word p) i v k u (table_word q) e a (every_word (λ j. Kept i k j (table_word q j) (table_word p j)) regions) l m)
  where
    through : {x y s t : ℕ} → x ≡ s → y ≡ t → s ≡ t → x ≡ y
    through f g h = f ∙ h ∙ sym g

    regions : Regions (λ j. Kept i k j (table_word q j) (table_word p j))
    regions =
        record {
          classes = λ r s. through (word_classes q) (word_classes p) (c.classes r s);
          fields = λ r s. through (word_fields q) (word_fields p) (c.fields r s);
          statics = λ r s. through (word_statics q) (word_statics p) (c.statics r s);
          methods = λ r s. through (word_methods q) (word_methods p) (c.methods r s);
          super = λ n b r s. through (word_super q n b) (word_super p n b) (c.super n r s);
          field = λ n b r s. through (word_field q n b) (word_field p n b) (c.field n r s);
          header = λ n b r s. through (word_header q n b) (word_header p n b) ((c.method n).header r s);
          size = λ n b r s. through (word_length q n b) (word_length p n b) ((c.method n).size r s);
          count = λ n b r s. through (word_handlers q n b) (word_handlers p n b) ((c.method n).count r s);
          code = λ n o b d r s. through (word_code q n o b d) (word_code p n o b d) ((c.method n).code o r s);
          handler = λ n o b d r s. through (word_handler q n o b d) (word_handler p n o b d) ((c.method n).handler o r s);
        }
