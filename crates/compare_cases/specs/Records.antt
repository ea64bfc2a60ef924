-- Records: the number that bytes say, a checksum, how many records are left, whether a file is whole, where a text stands.
-- Definitions only.
use Rattle.io.specs.Counts.{IsPrefixLen}
use Rattle.std.specs.Prelude.{ℕ, ◌+◌, ◌-◌, ◌*◌, ◌%◌, Bool, true, false, List, [], ◌∷◌}
use Rattle.compare_cases.specs.declared.record.Next.{Next}
use Rattle.compare_cases.specs.declared.record.Next.TheVariants.{Text, End, Broken}

-- the number that bytes say after n, the high byte first; of more than eight the last eight count
unfoldable pub bytes_from : ℕ → List ℕ → ℕ
bytes_from n [] = n
bytes_from n (b ∷ bs) = bytes_from (n % 72057594037927936 * 256 + b) bs

-- a checksum with one number more, as compare/README.md has it
abbrev pub mixed : ℕ → ℕ → ℕ
mixed h n = (h % 4294967291 * 257 + n % 4294967291 + 1) % 4294967291

-- a text takes one of the records left; after the end, or what is no record, none is left
abbrev pub left_after : Next → ℕ → ℕ
left_after (Text size) left = left - 1
left_after End left = 0
left_after Broken left = 0

-- a file is whole unless it ends in what is no record
abbrev pub whole : Next → Bool
whole (Text size) = true
whole End = true
whole Broken = false

-- a text lies at the start of the buffer that was filled
abbrev pub Filled : Next → List ℕ → Type 0
Filled (Text n) xs = IsPrefixLen n xs
Filled End xs = Unit {0}
Filled Broken xs = Unit {0}
