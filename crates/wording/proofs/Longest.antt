-- The longest text of a claim: a program at every limit is well-formed, and each of its claims has a text of 165,936 bytes. Assumes
-- nothing.
use mathlib.Core.Path.{◌≡◌, refl, ◌∙◌}
use mathlib.Core.Bool.{true}
use mathlib.Core.List.{List, [], ◌∷◌}
use Prim.Native.Nat.{ℕ, zero, suc, ◌+◌, ◌*◌, ◌<◌, ◌≤◌}
use native.Mathlib.Omega.{arith}
use lib.ListN.{length, get_or, replicate, get_or-replicate}
use lib.Dec.{eqb, ltb}
use borrow.Author.Tests.{lt-ltb, ltb-true, ltb-false}
use Rattle.text.proofs.Cases.{by_test}
use Rattle.instruction.specs.Word.{instruction_of, fields_of}
use Rattle.instruction.proofs.Flags.{or_right}
use Rattle.program.specs.Lists.{joined, tab}
use Rattle.program.specs.Program.{Method, Program, no_method, method_at, superclass, field_class}
use Rattle.program.proofs.Lists.{getD_tab, getD_tab_out}
use Rattle.reader.specs.Formed.{FormedMethod, Formed}
use Rattle.search.specs.Search.{below_in, has_field}
use Rattle.flow.specs.Claim.{field_of, static_of, returned_by, leaving, Claim}
use Rattle.claim.specs.declared.Part.{Part}
use Rattle.claim.specs.declared.Part.TheVariants.{Address, Field, Static, Returned, Leaving}
use Rattle.claim.specs.Frames.{Due, outer, inner, frame_at, part_due}
use Rattle.wording.specs.ClaimText.{claim_text}
use Rattle.wording.proofs.Sizes.{size, size_append, address_length, one-length, parts_length}

-- ---- 60 classes, those from 2 on below class 1, which is below class 0, which has 16 fields; 16 statics; 16 methods of 16 registers and
-- 32 instructions, each a return
abbrev return_void : ℕ
return_void = 0x1100000000000000

-- the method with name m: static, without arguments
abbrev method : ℕ → Method
method m = record { header = m * 16777216 + 0x011000; code = replicate 32 return_void; handlers = [] }

abbrev pub longest : Program
longest = record { supers = 255 ∷ 0 ∷ replicate 58 1; fields = replicate 16 0; statics = 16; methods = tab 16 method }

method_is : (m : ℕ) → m < 16 → method_at longest m ≡ method m
method_is m l = getD_tab 16 method m no_method l

word_is : (pc : ℕ) → pc < 32 → get_or (replicate 32 return_void) pc 0 ≡ return_void
word_is pc l = get_or-replicate {A = ℕ} 32 pc return_void 0 l

-- ---- it is well-formed
formed_method : (m : ℕ) → m < 16 → FormedMethod longest m
unfolding instruction_of fields_of
formed_method m l =
    record {
      class = rw (method_is m l) (omega arith);
      kind = rw (method_is m l) (omega arith);
      registers_from = rw (method_is m l) (omega arith);
      registers_to = rw (method_is m l) (omega arith);
      arguments_to = rw (method_is m l) (omega arith);
      receiver = rw (method_is m l) (λ e. absurd (omega arith));
      code_from = rw (method_is m l) (omega arith);
      code_to = rw (method_is m l) (omega arith);
      handlers_to = rw (method_is m l) (omega arith);
      words = rw (method_is m l) (λ pc k. rw (word_is pc k) refl);
      names = rw (method_is m l) (λ pc k. rw (word_is pc k) tt);
      calls = rw (method_is m l) (λ pc k. rw (word_is pc k) tt);
      last = rw (method_is m l) refl;
      covers = rw (method_is m l) (λ h k. absurd (omega arith));
      within = rw (method_is m l) (λ h k. absurd (omega arith));
      target = rw (method_is m l) (λ h k. absurd (omega arith));
      caught = rw (method_is m l) (λ h k. absurd (omega arith));
    }

super_is : (c : ℕ) → c < 58 → superclass longest (suc (suc c)) ≡ 1
super_is c l = get_or-replicate {A = ℕ} 58 c 1 255 l

field_is : (x : ℕ) → x < 16 → field_class longest x ≡ 0
field_is x l = get_or-replicate {A = ℕ} 16 x 0 255 l

no_method_lem : (m : ℕ) → 16 ≤ m → method_at longest m ≡ no_method
no_method_lem m l = getD_tab_out 16 method m no_method l

upward : (c : ℕ) → c < 60 → 1 ≤ c → superclass longest c < c
upward zero l h = absurd (omega arith)
upward (suc zero) l h = omega arith
upward (suc (suc c)) l h = rw (super_is c (omega arith)) (omega arith)

-- classes 2, 3 and 4 among them
below_throwable : (c : ℕ) → 2 ≤ c → c ≤ 4 → superclass longest c ≡ 1
below_throwable zero l h = absurd (omega arith)
below_throwable (suc zero) l h = absurd (omega arith)
below_throwable (suc (suc c)) l h = super_is c (omega arith)

pub longest_formed : Formed longest
longest_formed =
    record {
      classes_from = omega arith;
      methods_from = omega arith;
      limited = record {
        classes = omega arith;
        fields = omega arith;
        statics = omega arith;
        methods = omega arith;
        code = λ m. by_test (ltb m 16)
            (λ t. rw (method_is m (ltb-true m 16 t)) (omega arith))
            (λ t. rw (no_method_lem m (ltb-false m 16 t)) (omega arith));
        handlers = λ m. by_test (ltb m 16)
            (λ t. rw (method_is m (ltb-true m 16 t)) (omega arith))
            (λ t. rw (no_method_lem m (ltb-false m 16 t)) (omega arith));
      };
      top = refl;
      supers = upward;
      built_in = below_throwable;
      fields = λ f l. rw (field_is f l) (omega arith);
      methods = formed_method;
      main_static = refl;
      main_arguments = refl;
      alone = λ m k lm lk _. rw (method_is m lm, method_is k lk) (λ e. omega arith);
    }

-- ---- every class has every field
top_below : (n : ℕ) → below_in n longest 0 0 ≡ true
unfolding below_in
top_below zero = refl
top_below (suc n) = refl

class_below : (c : ℕ) → c < 60 → below_in c longest c 0 ≡ true
unfolding below_in
class_below zero l = refl
class_below (suc zero) l = refl
class_below (suc (suc c)) l =
    or_right (eqb (suc (suc c)) 0) _ (rw (super_is c (omega arith), lt-ltb 1 (suc (suc c)) (omega arith)) (top_below c))

has_all : (c x : ℕ) → c < 60 → x < 16 → has_field longest c x ≡ true
unfolding has_field
has_all c x lc lx = rw (lt-ltb x 16 lx, field_is x lx) (class_below c lc)

-- ---- n lists of frames whose texts are of one length
module _ (c : Claim) where
  size_same : (n b : ℕ) (f : ℕ → List Due) → ((i : ℕ) → i < n → size c (f i) ≡ b) → size c (joined n f) ≡ b * n
  size_same zero b f h = omega arith
  size_same (suc n) b f h =
      let rest = size_same n b (λ i. f (suc i)) (λ i l. h (suc i) (omega arith)) in
      let more : b * suc n ≡ b + b * n = omega arith in
      omega (arith, size_append c (f zero) (joined n (λ i. f (suc i))), h zero (omega arith), rest, more)

  part_same : (k : Part) (b n : ℕ) → ((a : ℕ) → a < outer longest k → inner longest k a ≡ n)
      → ((a i : ℕ) → a < outer longest k → i < n → size c (frame_at longest k a i) ≡ b)
      → size c (part_due longest k) ≡ (b * n) * outer longest k
  unfolding part_due
  part_same k b n e h =
      size_same (outer longest k) (b * n) _
      (λ a la. rw (e a la) (size_same n b (frame_at longest k a) (λ i li. h a i la li)))

  -- ---- all parts
  pub text_reached : length (claim_text longest c) ≡ 165936
  text_reached =
      let addresses = part_same Address 279 32 (λ m l. rw (method_is m l) refl)
      (λ m pc l _. address_length c longest m pc ∙ rw (method_is m l) (omega arith)) in
      let fields = part_same Field 23 16 (λ k l. refl)
      (λ k x lk lx. rw (has_all k x lk lx) (one-length c (18 ∷ k ∷ x ∷ []) (field_of k x))) in
      let statics = part_same Static 21 1 (λ x l. refl) (λ x i _ _. one-length c (19 ∷ x ∷ []) (static_of x)) in
      let returned = part_same Returned 21 1 (λ m l. refl) (λ m i _ _. one-length c (20 ∷ m ∷ []) (returned_by m)) in
      let left = part_same Leaving 21 1 (λ m l. refl) (λ m i _ _. one-length c (21 ∷ m ∷ []) (leaving m)) in
      omega (arith, parts_length c longest, addresses, fields, statics, returned, left)
