-- The call list as bytes: what is written to the front of memory, calls back from bytes, and how many bytes there are at most.
-- Assumes nothing.
use mathlib.Core.Path.{◌≡◌, refl, sym, ap, ◌∙◌}
use mathlib.Core.List.{List, [], ◌∷◌, ◌++◌}
use Prim.Native.Nat.{ℕ, suc, ◌+◌, ◌*◌, ◌≤◌}
use native.Mathlib.Nat.{suc-add}
use native.Mathlib.Omega.{arith}
use lib.ListN.{length, set, drop, get_or}
use Rattle.program.specs.Program.{Program, method_count}
use Rattle.program.specs.Tables.{Limited}
use Rattle.program.proofs.Lists.{tab_cong}
use Rattle.machine.specs.History.{Made}
use Rattle.flow.specs.Claim.{Claim}
use Rattle.flow.specs.Calls.{call_list}
use Rattle.calls.specs.Bytes.{call_bytes, calls_in, put_calls}
use Rattle.calls.proofs.Joined.{methods_short}

-- ---- the front of memory
-- a byte before those that are written
put_past : (xs : List Made) (at y : ℕ) (memory : List ℕ) → put_calls xs (suc at) (y ∷ memory) ≡ y ∷ put_calls xs at memory
unfolding put_calls
put_past [] at y memory = refl
put_past (x ∷ xs) at y memory =
    rw (suc-add at 1, suc-add at 2, suc-add at 3)
    (put_past xs (at + 3) y (set (set (set memory at x.caller) (at + 1) x.address) (at + 2) x.callee))

pub put_front : (xs : List Made) (memory : List ℕ) → 3 * length xs ≤ length memory → put_calls xs 0 memory ≡ call_bytes xs ++ drop (3 * length xs) memory
unfolding put_calls
put_front [] memory l = refl
put_front (x ∷ xs) [] l = absurd (omega arith)
put_front (x ∷ xs) (a ∷ []) l = absurd (omega arith)
put_front (x ∷ xs) (a ∷ b ∷ []) l = absurd (omega arith)
put_front (x ∷ xs) (a ∷ b ∷ c ∷ memory) l =
    let bytes = length xs in
    let more : 3 * suc bytes ≡ suc (suc (suc (3 * bytes))) = omega arith in
    put_past xs 2 x.caller (x.address ∷ x.callee ∷ memory)
    ∙ ap (λ (l : List ℕ). x.caller ∷ l) (put_past xs 1 x.address (x.callee ∷ memory))
    ∙ ap (λ (l : List ℕ). x.caller ∷ x.address ∷ l) (put_past xs 0 x.callee memory)
    ∙ ap (λ (l : List ℕ). x.caller ∷ x.address ∷ x.callee ∷ l) (put_front xs memory (omega arith))
    ∙ ap (λ (n : ℕ). call_bytes (x ∷ xs) ++ drop n (a ∷ b ∷ c ∷ memory)) (sym more)

-- ---- calls back from bytes
-- the call at index i of bytes
abbrev call_at : List ℕ → ℕ → Made
call_at bytes i =
    record {
      caller = get_or bytes (3 * i) 0;
      address = get_or bytes (3 * i + 1) 0;
      callee = get_or bytes (3 * i + 2) 0;
    }

-- past three bytes
call_past : (x : Made) (bytes : List ℕ) (i : ℕ) → call_at (x.caller ∷ x.address ∷ x.callee ∷ bytes) (suc i) ≡ call_at bytes i
call_past x bytes i =
    let first : 3 * suc i ≡ suc (suc (suc (3 * i))) = omega arith in
    let second : 3 * suc i + 1 ≡ suc (suc (suc (3 * i + 1))) = omega arith in
    let third : 3 * suc i + 2 ≡ suc (suc (suc (3 * i + 2))) = omega arith in
    rw (third, second, first)

pub calls_back : (xs : List Made) (rest : List ℕ) → calls_in (length xs) (call_bytes xs ++ rest) ≡ xs
calls_back [] rest = refl
calls_back (x ∷ xs) rest =
    ap (λ (l : List Made). x ∷ l)
    (tab_cong (length xs) (λ i. call_at (call_bytes (x ∷ xs) ++ rest) (suc i)) (call_at (call_bytes xs ++ rest)) (λ i l. call_past x (call_bytes xs ++ rest) i)
    ∙ calls_back xs rest)

-- ---- at most 16 callees of each of 32 addresses of each of 16 methods
pub call_list_short : (p : Program) (c : Claim) → Limited p → 3 * length (call_list p c) ≤ 24576
unfolding call_list
call_list_short p c limits = omega (arith, methods_short p c limits.methods limits.code (method_count p), limits.methods)
