-- Calls written one after another. Assumes nothing.
use mathlib.Core.Path.{◌≡◌, refl, sym, ap, ◌∙◌}
use mathlib.Core.List.{List, [], ◌∷◌, ◌++◌}
use Prim.Native.Nat.{ℕ, suc, ◌+◌, ◌*◌}
use native.Mathlib.Omega.{arith}
use lib.ListN.{length, set, length-append, length-set}
use Rattle.program.specs.Lists.{joined}
use Rattle.machine.specs.History.{Made}
use Rattle.calls.specs.Bytes.{put_calls}
use Rattle.calls.specs.declared.CallList.{CallList}
use Rattle.calls.specs.Added.{Adds}
use Rattle.program.proofs.Joined.{joined_more}

-- one part of a list, then the other
pub put_append : (xs ys : List Made) (at : ℕ) (memory : List ℕ) → put_calls (xs ++ ys) at memory ≡ put_calls ys (at + 3 * length xs) (put_calls xs at memory)
unfolding put_calls
put_append [] ys at memory = ap (λ (n : ℕ). put_calls ys n memory) (omega arith)
put_append (x ∷ xs) ys at memory =
    let first = set (set (set memory at x.caller) (at + 1) x.address) (at + 2) x.callee in
    put_append xs ys (at + 3) first
    ∙ ap (λ (n : ℕ). put_calls ys n (put_calls xs (at + 3) first)) (omega arith)

pub length_put : (xs : List Made) (at : ℕ) (memory : List ℕ) → length (put_calls xs at memory) ≡ length memory
unfolding put_calls
length_put [] at memory = refl
length_put (x ∷ xs) at memory =
    length_put xs (at + 3) (set (set (set memory at x.caller) (at + 1) x.address) (at + 2) x.callee)
    ∙ simp length-set

-- ---- calls added to a list
pub added_none : (a : CallList) → Adds a [] a
unfolding put_calls
added_none a = record { buffer = refl; count = omega arith; bytes = refl }

-- the calls after k others
pub added_more : {a b c : CallList} (k : ℕ) (f : ℕ → List Made) → Adds a (joined k f) b → Adds b (f k) c → Adds a (joined (suc k) f) c
added_more {a} {b} k f h g =
    rw (joined_more k f)
    (record {
      buffer = g.buffer ∙ h.buffer;
      count = omega (arith, h.count, g.count, length-append (joined k f) (f k));
      bytes = g.bytes
          ∙ ap (λ (l : List ℕ). put_calls (f k) (3 * b.count) l) h.bytes
          ∙ ap (λ (n : ℕ). put_calls (f k) n (put_calls (joined k f) (3 * a.count) a.memory.now)) (omega (arith, h.count))
          ∙ sym (put_append (joined k f) (f k) (3 * a.count) a.memory.now);
    })

-- one call, written byte by byte
pub added_one : {a b : CallList} (x : Made) → b.memory.ghost_name ≡ a.memory.ghost_name → b.count ≡ a.count + 1
    → b.memory.now ≡ set (set (set a.memory.now (3 * a.count) x.caller) (3 * a.count + 1) x.address) (3 * a.count + 2) x.callee
    → Adds a (x ∷ []) b
unfolding put_calls
added_one x same more bytes = record { buffer = same; count = more; bytes = bytes }

-- the memory of a list whose loan has ended
pub lent_back : {a b : CallList} {calls : List Made} {memory : List ℕ} → Adds a calls b → (a.memory.ghost_name ≡ b.memory.ghost_name → memory ≡ b.memory.now)
    → memory ≡ put_calls calls (3 * a.count) a.memory.now
lent_back h last = last (sym h.buffer) ∙ h.bytes
