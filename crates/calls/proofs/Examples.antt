-- The call list as bytes by computation. Assumes nothing.
use mathlib.Core.Path.{◌≡◌, refl}
use mathlib.Core.List.{List, [], ◌∷◌}
use Rattle.machine.specs.History.{Made}
use Rattle.calls.specs.Bytes.{call_bytes, calls_in, put_calls}

-- method 1 is called at address 0 of method 0, and method 15 at address 31 of method 2
one : Made
one = record { caller = 0; address = 0; callee = 1 }

other : Made
other = record { caller = 2; address = 31; callee = 15 }

two : List Made
two = one ∷ other ∷ []

-- ---- bytes
bytes_none : call_bytes [] ≡ []
bytes_none = refl

-- the sample's: `00 00 01`
bytes_one : call_bytes (one ∷ []) ≡ 0 ∷ 0 ∷ 1 ∷ []
unfolding one
bytes_one = refl

bytes_two : call_bytes two ≡ 0 ∷ 0 ∷ 1 ∷ 2 ∷ 31 ∷ 15 ∷ []
unfolding two one other
bytes_two = refl

-- ---- calls back from bytes
-- as many as are asked for, whatever comes after
calls_none : calls_in 0 (0 ∷ 0 ∷ 1 ∷ []) ≡ []
calls_none = refl

calls_one : calls_in 1 (0 ∷ 0 ∷ 1 ∷ 2 ∷ 31 ∷ 15 ∷ []) ≡ one ∷ []
unfolding one
calls_one = refl

calls_two : calls_in 2 (0 ∷ 0 ∷ 1 ∷ 2 ∷ 31 ∷ 15 ∷ 7 ∷ []) ≡ two
unfolding two one other
calls_two = refl

-- a byte past the end is zero
calls_short : calls_in 2 (0 ∷ 0 ∷ 1 ∷ 2 ∷ 31 ∷ []) ≡ one ∷ record { caller = 2; address = 31; callee = 0 } ∷ []
unfolding one
calls_short = refl

-- ---- what is written
-- nothing, where there is no call
put_none : put_calls [] 0 (7 ∷ 8 ∷ []) ≡ 7 ∷ 8 ∷ []
unfolding put_calls
put_none = refl

-- memory of just the bytes, and of two bytes more
put_exact : put_calls two 0 (9 ∷ 9 ∷ 9 ∷ 9 ∷ 9 ∷ 9 ∷ []) ≡ 0 ∷ 0 ∷ 1 ∷ 2 ∷ 31 ∷ 15 ∷ []
unfolding put_calls two one other
put_exact = refl

put_longer : put_calls two 0 (9 ∷ 9 ∷ 9 ∷ 9 ∷ 9 ∷ 9 ∷ 7 ∷ 8 ∷ []) ≡ 0 ∷ 0 ∷ 1 ∷ 2 ∷ 31 ∷ 15 ∷ 7 ∷ 8 ∷ []
unfolding put_calls two one other
put_longer = refl

-- of two bytes less, and of none
put_shorter : put_calls two 0 (9 ∷ 9 ∷ 9 ∷ 9 ∷ []) ≡ 0 ∷ 0 ∷ 1 ∷ 2 ∷ []
unfolding put_calls two one other
put_shorter = refl

put_nowhere : put_calls two 0 [] ≡ []
unfolding put_calls two one other
put_nowhere = refl

-- from byte 2 on
put_later : put_calls (other ∷ []) 2 (7 ∷ 8 ∷ 9 ∷ 9 ∷ 9 ∷ 6 ∷ []) ≡ 7 ∷ 8 ∷ 2 ∷ 31 ∷ 15 ∷ 6 ∷ []
unfolding put_calls other
put_later = refl
