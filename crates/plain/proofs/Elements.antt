-- A frame and an object as words: what is put one word after another is put as one, and elements one after another are put as one.
-- Assumes nothing.
use mathlib.Core.Path.{◌≡◌, refl, sym, ap, ◌∙◌}
use mathlib.Core.List.{List}
use Prim.Native.Nat.{ℕ, ◌+◌, ◌-◌, ◌*◌, ◌/◌, ◌<◌, ◌≤◌}
use native.Mathlib.Nat.{mul-suc, mul-le-mul_left}
use native.Mathlib.Numerals.{add-one}
use native.Mathlib.Omega.{arith}
use lib.ListN.{set, get_or, length}
use Rattle.std.proofs.lemmas.List.{get_or_read_under}
use borrow.Author.Tests.{ne_eqb}
use Rattle.machine.specs.declared.Value as machine
use Rattle.memory.specs.Memory.{value_word}
use Rattle.memory.proofs.Places.{place_div, place_mod}
use Rattle.cells.specs.declared.Value.{Value}
use Rattle.cells.specs.declared.Frame.{Frame}
use Rattle.cells.specs.declared.Object.{Object}
use Rattle.cells.specs.Cells.{value_of, zero_value}
use Rattle.store.specs.Store.{absent_frame, absent_object}
use Rattle.plain.specs.Words.{put, word_in, value_word_in, frame_word_in, object_word_in, each_word, frames_word, objects_word}
use Rattle.plain.proofs.Puts.{put_put, put_cong}

-- ---- one element

register_word : (f : Frame) (k j : ℕ) → k ≡ 3 + j → frame_word_in f k ≡ word_in f.registers j
unfolding frame_word_in
register_word f k j h =
    let e : k - 3 ≡ j = omega arith in
    rw (ne_eqb k 0 (λ z. omega arith), ne_eqb k 1 (λ z. omega arith), ne_eqb k 2 (λ z. omega arith), e) refl

cell_word : (o : Object) (k j : ℕ) → k ≡ 1 + j → object_word_in o k ≡ word_in o.cells j
unfolding object_word_in
cell_word o k j h =
    let e : k - 1 ≡ j = omega arith in
    rw (ne_eqb k 0 (λ z. omega arith), e) refl

pub value_put : (c : Value) (ws ws' : List ℕ) (at : ℕ) (v : machine.Value) → v ≡ value_of c → ws' ≡ set ws at (value_word v) → ws' ≡ put 1 (value_word_in c) ws at
unfolding put
value_put c ws ws' at v r e =
    let z : at ≡ at + 0 = omega arith in
    e ∙ ap (λ (u : machine.Value). set ws at (value_word u)) r ∙ ap (λ (k : ℕ). set ws k (value_word (value_of c))) z

-- values one after another, of one word each
pub values_put : (cs : List Value) (ws : List ℕ) (from n : ℕ) → put (1 * n) (each_word 1 value_word_in zero_value cs) ws from ≡ put n (word_in cs) ws from
unfolding word_in
values_put cs ws from n =
    let one : 1 * n ≡ n = omega arith in
    ap (λ (k : ℕ). put k (each_word 1 value_word_in zero_value cs) ws from) one
    ∙ put_cong (each_word 1 value_word_in zero_value cs) (word_in cs) ws from n
    (λ j l. let e : j / 1 ≡ j = omega arith in ap (λ (k : ℕ). value_word (value_of (get_or cs k zero_value))) e)

pub frame_put : (f : Frame) (ws ws₁ ws₂ ws₃ ws₄ : List ℕ) (at n : ℕ) → n ≡ 16
    → ws₁ ≡ set ws at f.method → ws₂ ≡ set ws₁ (at + 1) f.address → ws₃ ≡ put 1 (value_word_in f.result) ws₂ (at + 2)
    → ws₄ ≡ put (1 * n) (each_word 1 value_word_in zero_value f.registers) ws₃ (at + 3) → ws₄ ≡ put 19 (frame_word_in f) ws at
unfolding put frame_word_in
frame_put f ws ws₁ ws₂ ws₃ ws₄ at n size e₁ e₂ e₃ e₄ =
    let z : at ≡ at + 0 = omega arith in
    let y : at + 2 + 0 ≡ at + 2 = omega arith in
    let two : ws₂ ≡ put 2 (frame_word_in f) ws at =
    e₂ ∙ ap (λ (l : List ℕ). set l (at + 1) f.address) (e₁ ∙ ap (λ (k : ℕ). set ws k f.method) z) in
    let three : ws₃ ≡ put 3 (frame_word_in f) ws at =
    e₃ ∙ ap (λ (k : ℕ). set ws₂ k (value_word (value_of f.result))) y ∙ ap (λ (l : List ℕ). set l (at + 2) (value_word (value_of f.result))) two in
    e₄
    ∙ values_put f.registers ws₃ (at + 3) n
    ∙ ap (λ (k : ℕ). put k (word_in f.registers) ws₃ (at + 3)) size
    ∙ put_cong (word_in f.registers) (λ j. frame_word_in f (3 + j)) ws₃ (at + 3) 16 (λ j l. sym (register_word f (3 + j) j refl))
    ∙ ap (λ (l : List ℕ). put 16 (λ j. frame_word_in f (3 + j)) l (at + 3)) three
    ∙ put_put (frame_word_in f) ws at 3 16

pub object_put : (o : Object) (ws ws₁ ws₂ : List ℕ) (at n : ℕ) → n ≡ 16
    → ws₁ ≡ set ws at o.class → ws₂ ≡ put (1 * n) (each_word 1 value_word_in zero_value o.cells) ws₁ (at + 1) → ws₂ ≡ put 17 (object_word_in o) ws at
unfolding put object_word_in
object_put o ws ws₁ ws₂ at n size e₁ e₂ =
    let z : at ≡ at + 0 = omega arith in
    let one : ws₁ ≡ put 1 (object_word_in o) ws at = e₁ ∙ ap (λ (k : ℕ). set ws k o.class) z in
    e₂
    ∙ values_put o.cells ws₁ (at + 1) n
    ∙ ap (λ (k : ℕ). put k (word_in o.cells) ws₁ (at + 1)) size
    ∙ put_cong (word_in o.cells) (λ j. object_word_in o (1 + j)) ws₁ (at + 1) 16 (λ j l. sym (cell_word o (1 + j) j refl))
    ∙ ap (λ (l : List ℕ). put 16 (λ j. object_word_in o (1 + j)) l (at + 1)) one
    ∙ put_put (object_word_in o) ws at 1 16

-- ---- one struct more, each of so many words

pub next_place : (size i : ℕ) → size * (i + 1) ≡ size * i + size
next_place size i = ap (λ (n : ℕ). size * n) (add-one i) ∙ mul-suc size i

-- it ends within those that there are
pub fits : (size i n : ℕ) → i < n → size * i + size ≤ size * n
fits size i n l = let e : size * (i + 1) ≤ size * n = mul-le-mul_left size (omega arith) in rw (next_place size i) at e

module _ {A : Type 0} (size : ℕ) (word : A → ℕ → ℕ) (d : A) (xs : List A) (ws₀ ws ws' : List ℕ) (from i : ℕ) where
  pub one_more : (x : A) (at : ℕ) → x ≡ get_or xs i x → i < length xs → at ≡ from + size * i → ws' ≡ put size (word x) ws at
      → ws ≡ put (size * i) (each_word size word d xs) ws₀ from → ws' ≡ put (size * (i + 1)) (each_word size word d xs) ws₀ from
  one_more x at is l place e k =
      e
      ∙ ap (λ (a : ℕ). put size (word x) ws a) place
      ∙ ap (λ (y : A). put size (word y) ws (from + size * i)) (get_or_read_under xs i (length xs) x d is l refl)
      ∙ put_cong (word (get_or xs i d)) (λ j. each_word size word d xs (size * i + j)) ws (from + size * i) size (λ j b. same j b)
      ∙ ap (λ (v : List ℕ). put size (λ j. each_word size word d xs (size * i + j)) v (from + size * i)) k
      ∙ put_put (each_word size word d xs) ws₀ from (size * i) size
      ∙ ap (λ (n : ℕ). put n (each_word size word d xs) ws₀ from) (sym (next_place size i))
    where
      same : (j : ℕ) → j < size → word (get_or xs i d) j ≡ each_word size word d xs (size * i + j)
      same j b =
          ap (λ (m : ℕ). word (get_or xs m d) j) (sym (place_div size i j b))
          ∙ ap (λ (m : ℕ). word (get_or xs ((size * i + j) / size) d) m) (sym (place_mod size i j b))

-- ---- one element more, each w words wide, whatever they hold

module _ (w : ℕ) (g h : ℕ → ℕ) (ws₀ ws ws' : List ℕ) (i : ℕ) where
  pub one_more_lem : ((j : ℕ) → j < w → h j ≡ g (w * i + j)) → ws' ≡ put w h ws (w * i) → ws ≡ put (w * i) g ws₀ 0 → ws' ≡ put (w * (i + 1)) g ws₀ 0
  one_more_lem same e k =
      let z : w * i ≡ 0 + w * i = omega arith in
      e
      ∙ put_cong h (λ j. g (w * i + j)) ws (w * i) w same
      ∙ ap (λ (l : List ℕ). put w (λ j. g (w * i + j)) l (w * i)) k
      ∙ ap (λ (a : ℕ). put w (λ j. g (w * i + j)) (put (w * i) g ws₀ 0) a) z
      ∙ put_put g ws₀ 0 (w * i) w
      ∙ ap (λ (n : ℕ). put n g ws₀ 0) (sym (mul-suc w i) ∙ ap (λ (n : ℕ). w * n) (sym (add-one i)))

pub frame_more : (fs : List Frame) (i j : ℕ) → j < 19 → frame_word_in (get_or fs i absent_frame) j ≡ frames_word fs (19 * i + j)
unfolding frames_word
frame_more fs i j l =
    ap (λ (k : ℕ). frame_word_in (get_or fs k absent_frame) j) (sym (place_div 19 i j l))
    ∙ ap (λ (k : ℕ). frame_word_in (get_or fs ((19 * i + j) / 19) absent_frame) k) (sym (place_mod 19 i j l))

pub object_more : (os : List Object) (i j : ℕ) → j < 17 → object_word_in (get_or os i absent_object) j ≡ objects_word os (17 * i + j)
unfolding objects_word
object_more os i j l =
    ap (λ (k : ℕ). object_word_in (get_or os k absent_object) j) (sym (place_div 17 i j l))
    ∙ ap (λ (k : ℕ). object_word_in (get_or os ((17 * i + j) / 17) absent_object) k) (sym (place_mod 17 i j l))
