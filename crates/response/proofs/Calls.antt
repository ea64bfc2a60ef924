-- The lines of the call list: as many as it has calls, at most 8,192, and each printed from its three bytes. Assumes nothing.
use mathlib.Core.Path.{◌≡◌, refl, sym, ap, ◌∙◌}
use mathlib.Core.List.{List, ◌++◌}
use Prim.Native.Nat.{ℕ, zero, suc, ◌+◌, ◌*◌, ◌≤◌}
use native.Mathlib.Omega.{arith}
use lib.ListN.{length, get_or}
use Rattle.program.specs.Lists.{tab, joined}
use Rattle.reader.proofs.WellFormed.{well_formed}
use Rattle.machine.specs.History.{Made}
use Rattle.slots.specs.Layout.{claim_in}
use Rattle.calls.specs.Bytes.{call_bytes}
use Rattle.calls.proofs.Bytes.{calls_back, call_list_short}
use Rattle.checker.specs.Check.{Checking, turned_down, short, broken, kept, checking}
use Rattle.checker.proofs.Kept.{kept_texts}
use Rattle.report.specs.Printed.{three, call_lines}
use Rattle.response.specs.Claimed.{lines_for}

-- ---- the lines
joined_lines : (n : ℕ) (f : ℕ → Made)
    → joined n (λ i. three (f i).caller (f i).address (f i).callee) ≡ lines_for (tab n f)
joined_lines zero f = refl
joined_lines (suc n) f =
    ap (λ (l : List ℕ). three (f 0).caller (f 0).address (f 0).callee ++ l) (joined_lines n (λ i. f (suc i)))

pub lines_of : (calls : List Made) (rest : List ℕ) → call_lines (call_bytes calls ++ rest) (length calls) ≡ lines_for calls
unfolding call_lines
lines_of calls rest =
    joined_lines (length calls) (λ i. record {
      caller = get_or (call_bytes calls ++ rest) (3 * i) 0;
      address = get_or (call_bytes calls ++ rest) (3 * i + 1) 0;
      callee = get_or (call_bytes calls ++ rest) (3 * i + 2) 0;
    })
    ∙ ap lines_for (calls_back calls rest)

-- ---- how many: a list that is printed whole
abbrev pub Few : Checking → Type 0
Few (turned_down number line) = Unit {0}
Few short = Unit {0}
Few (broken rule method address) = Unit {0}
Few (kept calls) = length calls ≤ 8192

few_kept : (program claim : List ℕ) (size : ℕ) (x : Checking) → checking program claim size ≡ x → Few x
few_kept program claim size (turned_down number line) e = tt
few_kept program claim size short e = tt
few_kept program claim size (broken rule method address) e = tt
few_kept program claim size (kept calls) e =
    let h = kept_texts program claim size calls e in
    let limited = (well_formed program h.p h.program_read).limited in
    rw (sym h.listed) (omega (arith, call_list_short h.p (claim_in h.masks) limited))

pub few_calls : (program claim : List ℕ) (size : ℕ) → Few (checking program claim size)
few_calls program claim size = few_kept program claim size (checking program claim size) refl
