-- The call list as bytes. Definitions only.
use Rattle.std.specs.Prelude.{List, [], ◌∷◌, ℕ, ◌+◌, ◌*◌, get_or, set}
use Rattle.program.specs.Lists.{tab}
use Rattle.machine.specs.History.{Made}

-- "writes it, a byte a number": caller, address, callee
abbrev pub call_bytes : List Made → List ℕ
call_bytes [] = []
call_bytes (x ∷ xs) = x.caller ∷ x.address ∷ x.callee ∷ call_bytes xs

-- the first k calls that stand in bytes
abbrev pub calls_in : ℕ → List ℕ → List Made
calls_in k bytes =
    tab k
    (λ i. record {
      caller = get_or bytes (3 * i) 0;
      address = get_or bytes (3 * i + 1) 0;
      callee = get_or bytes (3 * i + 2) 0;
    })

-- memory with calls written from byte `at` on; past its end nothing is written. For inner functions
unfoldable pub put_calls : List Made → ℕ → List ℕ → List ℕ
put_calls [] at memory = memory
put_calls (x ∷ xs) at memory =
    put_calls xs (at + 3) (set (set (set memory at x.caller) (at + 1) x.address) (at + 2) x.callee)
