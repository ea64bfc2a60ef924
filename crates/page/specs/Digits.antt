-- Numbers as digits. Bytes: 48 is '0', 87 + 10 is 'a'. Definitions only.
use Rattle.std.specs.Prelude.{cond as pick, List, [], ◌∷◌, ◌++◌, ℕ, zero, suc, ◌+◌, ◌/◌, ◌%◌, ltb}

-- "It prints in hexadecimal", lowercase as its texts are: the digit of a number below 16
unfoldable pub digit_of : ℕ → ℕ
digit_of n = pick (ltb n 10) (48 + n) (87 + n)

-- "two digits each": the low byte of a number
abbrev pub two : ℕ → List ℕ
two n = digit_of (n / 16 % 16) ∷ digit_of (n % 16) ∷ []

-- "line (eight)": the low four bytes, the high byte first
abbrev pub eight : ℕ → List ℕ
eight n = two (n / 16777216) ++ two (n / 65536) ++ two (n / 256) ++ two n

-- "A mask is 64 bits": all eight bytes, the high byte first
abbrev pub sixteen : ℕ → List ℕ
sixteen n = eight (n / 4294967296) ++ eight n

-- a number in decimal, at most k digits of it, no zero in front
unfoldable pub decimal_by : ℕ → ℕ → List ℕ
decimal_by zero n = []
decimal_by (suc k) n = pick (ltb n 10) ((48 + n) ∷ []) (decimal_by k (n / 10) ++ ((48 + n % 10) ∷ []))

-- a number of 64 bits in decimal has at most 20 digits
abbrev pub decimal : ℕ → List ℕ
decimal n = decimal_by 20 n
