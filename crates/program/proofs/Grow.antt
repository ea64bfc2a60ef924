-- How the tables change when a program grows by one frame: a word is written, then a count. Assumes nothing.
use mathlib.Core.Path.{◌≡◌, refl, ap, ◌∙◌}
use mathlib.Core.List.{List, [], ◌∷◌, ◌++◌}
use Prim.Native.Nat.{ℕ, ◌+◌, ◌*◌, ◌≤◌, ◌<◌}
use native.Mathlib.Decide.{ℕ_discrete}
use native.Mathlib.Omega.{arith}
use lib.ListN.{length, get_or, set, length-append, length-set, get_or-eq_default}
use lib.Seq.{get_or-append_seam, get_or-set_same, get_or-set_other}
use Rattle.program.specs.Program.{Method, Program, no_method, class_count, field_count, method_count, method_at, code_length, handler_count}
use Rattle.program.specs.Tables.{tables_of}
use Rattle.program.proofs.Words.{word_classes, word_fields, word_statics, word_methods, word_super, word_field, word_header, word_length, word_handlers, word_code, word_handler}
use Rattle.program.proofs.Writes.{getD_snoc_other, Kept, KeptMethod, KeptProgram, kept_method, grown}

-- ---- one frame more: a class, a field, a static

pub grow_class : (p : Program) (w : ℕ) → class_count p < 60
    → tables_of (record { supers = p.supers ++ (w ∷ []); fields = p.fields; statics = p.statics; methods = p.methods })
    ≡ set (set (tables_of p) (4 + class_count p) w) 0 (class_count p + 1)
grow_class p w l =
    grown p _ (4 + class_count p) w 0 (class_count p + 1) (omega arith) (omega arith)
    (λ n. word_super _ (class_count p) l ∙ get_or-append_seam p.supers w [] 0)
    (word_classes _ ∙ length-append p.supers (w ∷ []))
    (record {
      classes = λ a b. absurd (b refl);
      fields = λ a b. refl;
      statics = λ a b. refl;
      methods = λ a b. refl;
      super = λ c a b. getD_snoc_other p.supers w c 0 (λ e. a (ap (λ (n : ℕ). 4 + n) e));
      field = λ f a b. refl;
      method = λ m. kept_method _ _ m _ _ refl;
    })

pub grow_field : (p : Program) (w : ℕ) → field_count p < 16
    → tables_of (record { supers = p.supers; fields = p.fields ++ (w ∷ []); statics = p.statics; methods = p.methods })
    ≡ set (set (tables_of p) (64 + field_count p) w) 1 (field_count p + 1)
grow_field p w l =
    grown p _ (64 + field_count p) w 1 (field_count p + 1) (omega arith) (omega arith)
    (λ n. word_field _ (field_count p) l ∙ get_or-append_seam p.fields w [] 0)
    (word_fields _ ∙ length-append p.fields (w ∷ []))
    (record {
      classes = λ a b. refl;
      fields = λ a b. absurd (b refl);
      statics = λ a b. refl;
      methods = λ a b. refl;
      super = λ c a b. refl;
      field = λ f a b. getD_snoc_other p.fields w f 0 (λ e. a (ap (λ (n : ℕ). 64 + n) e));
      method = λ m. kept_method _ _ m _ _ refl;
    })

pub grow_static : (p : Program) (w : ℕ) → p.statics < 16
    → tables_of (record { supers = p.supers; fields = p.fields; statics = p.statics + 1; methods = p.methods })
    ≡ set (set (tables_of p) 2 w) 2 (p.statics + 1)
grow_static p w l =
    grown p _ 2 w 2 (p.statics + 1) (omega arith) (omega arith) (λ n. absurd (n refl)) (word_statics _)
    (record {
      classes = λ a b. refl;
      fields = λ a b. refl;
      statics = λ a b. absurd (b refl);
      methods = λ a b. refl;
      super = λ c a b. refl;
      field = λ f a b. refl;
      method = λ m. kept_method _ _ m _ _ refl;
    })

-- ---- one frame more: a method, and an instruction or a handler of method m

-- only method m is another: x, where y was
module _ (p : Program) (ms : List Method) (i k m : ℕ) {x y : Method} where
  kept_methods : Kept i k 3 (length ms) (method_count p) → get_or ms m no_method ≡ x → method_at p m ≡ y
      → ((n : ℕ) → (n ≡ m → ⊥) → get_or ms n no_method ≡ method_at p n) → KeptMethod i k m x y
      → KeptProgram i k (record { supers = p.supers; fields = p.fields; statics = p.statics; methods = ms }) p
  kept_methods l s t other c =
      record {
        classes = λ a b. refl;
        fields = λ a b. refl;
        statics = λ a b. refl;
        methods = l;
        super = λ c a b. refl;
        field = λ f a b. refl;
        method = λ n. at n (ℕ_discrete n m);
      }
    where
      at : (n : ℕ) → Dec (n ≡ m) → KeptMethod i k n (get_or ms n no_method) (method_at p n)
      at n (yes e) = rw (e, s, t) c
      at n (no e) = kept_method i k n (get_or ms n no_method) (method_at p n) (other n e)

pub grow_method : (p : Program) (w : ℕ) → method_count p < 16
    → tables_of (record { supers = p.supers; fields = p.fields; statics = p.statics; methods = p.methods ++ (record { header = w; code = []; handlers = [] } ∷ []) })
    ≡ set (set (tables_of p) (80 + 3 * method_count p) w) 3 (method_count p + 1)
grow_method p w l =
    let m : ℕ = method_count p in
    let new : Method = record { header = w; code = []; handlers = [] } in
    let here : get_or (p.methods ++ (new ∷ [])) m no_method ≡ new = get_or-append_seam p.methods new [] no_method in
    grown p _ (80 + 3 * m) w 3 (m + 1) (omega arith) (omega arith)
    (λ n. word_header _ m l ∙ ap (λ (x : Method). x.header) here)
    (word_methods _ ∙ length-append p.methods (new ∷ []))
    (kept_methods p (p.methods ++ (new ∷ [])) (80 + 3 * m) 3 m (λ a b. absurd (b refl)) here
    (get_or-eq_default p.methods no_method (omega arith))
    (λ n. getD_snoc_other p.methods new n no_method)
    (record {
      header = λ a b. absurd (a refl);
      size = λ a b. refl;
      count = λ a b. refl;
      code = λ pc a b. refl;
      handler = λ h a b. refl;
    }))

pub grow_code : (p : Program) (m w : ℕ) → m < method_count p → method_count p ≤ 16 → code_length p m < 32
    → tables_of (record { supers = p.supers; fields = p.fields; statics = p.statics; methods = set p.methods m (record { header = (method_at p m).header; code = (method_at p m).code ++ (w ∷ []); handlers = (method_at p m).handlers }) })
    ≡ set (set (tables_of p) (128 + 32 * m + code_length p m) w) (81 + 3 * m) (code_length p m + 1)
grow_code p m w l b s =
    let old : Method = method_at p m in
    let new : Method = record { header = old.header; code = old.code ++ (w ∷ []); handlers = old.handlers } in
    let here : get_or (set p.methods m new) m no_method ≡ new = get_or-set_same p.methods m new no_method l in
    let i : ℕ = 128 + 32 * m + length old.code in
    grown p _ i w (81 + 3 * m) (length old.code + 1) (omega arith) (omega arith)
    (λ n. word_code _ m (length old.code) (omega arith) s ∙ ap (λ (x : Method). get_or x.code (length old.code) 0) here ∙ get_or-append_seam old.code w [] 0)
    (word_length _ m (omega arith) ∙ ap (λ (x : Method). length x.code) here ∙ length-append old.code (w ∷ []))
    (kept_methods p (set p.methods m new) i (81 + 3 * m) m (λ a b. length-set p.methods m new) here refl
    (λ n. get_or-set_other p.methods m n new no_method)
    (record {
      header = λ a b. refl;
      size = λ a b. absurd (b refl);
      count = λ a b. refl;
      code = λ pc a b. getD_snoc_other old.code w pc 0 (λ e. a (ap (λ (n : ℕ). 128 + 32 * m + n) e));
      handler = λ h a b. refl;
    }))

pub grow_handler : (p : Program) (m w : ℕ) → m < method_count p → method_count p ≤ 16 → handler_count p m < 8
    → tables_of (record { supers = p.supers; fields = p.fields; statics = p.statics; methods = set p.methods m (record { header = (method_at p m).header; code = (method_at p m).code; handlers = (method_at p m).handlers ++ (w ∷ []) }) })
    ≡ set (set (tables_of p) (640 + 8 * m + handler_count p m) w) (82 + 3 * m) (handler_count p m + 1)
grow_handler p m w l b s =
    let old : Method = method_at p m in
    let new : Method = record { header = old.header; code = old.code; handlers = old.handlers ++ (w ∷ []) } in
    let here : get_or (set p.methods m new) m no_method ≡ new = get_or-set_same p.methods m new no_method l in
    let i : ℕ = 640 + 8 * m + length old.handlers in
    grown p _ i w (82 + 3 * m) (length old.handlers + 1) (omega arith) (omega arith)
    (λ n. word_handler _ m (length old.handlers) (omega arith) s ∙ ap (λ (x : Method). get_or x.handlers (length old.handlers) 0) here ∙ get_or-append_seam old.handlers w [] 0)
    (word_handlers _ m (omega arith) ∙ ap (λ (x : Method). length x.handlers) here ∙ length-append old.handlers (w ∷ []))
    (kept_methods p (set p.methods m new) i (82 + 3 * m) m (λ a b. length-set p.methods m new) here refl
    (λ n. get_or-set_other p.methods m n new no_method)
    (record {
      header = λ a b. refl;
      size = λ a b. refl;
      count = λ a b. absurd (b refl);
      code = λ pc a b. refl;
      handler = λ h a b. getD_snoc_other old.handlers w h 0 (λ e. a (ap (λ (n : ℕ). 640 + 8 * m + n) e));
    }))
