-- The least claim of a program, as a definition that computes: from a claim with no bit, all bits that the rules ask for are joined in,
-- again and again, until every rule holds. Definitions only.
use Rattle.std.specs.Prelude.{Bool, false, ◌&&◌, ◌||◌, List, [], ◌∷◌, ℕ, zero, suc, eqb, Option, Some, None}
use Rattle.mask.specs.Mask.{has, has_number, bits_where}
use Rattle.program.specs.Lists.{tab}
use Rattle.program.specs.Program.{Program, method_count, code_length}
use Rattle.flow.specs.Claim.{Claim}
use Rattle.flow.specs.Flows.{Flows, ◌∈◌, ◌⊆◌, ◌&◌, each, given, numeric, when, found, handled, unhandled, some}
use Rattle.flow.specs.Rules.{Rule, rules_at}
use Rattle.flow.specs.Verdict.{Verdict, accepted, violated, verdict}
use Rattle.slots.specs.Layout.{claim_size, place_of, mask_at, claim_in, no_masks}

-- a test of the callee that was found; no test passes where none was
abbrev pub by_found : Option ℕ → (ℕ → Bool) → Bool
by_found (Some m) test = test m
by_found None test = false

-- the same of the handler's address
abbrev pub by_caught : Option ℕ → (ℕ → Bool) → Bool
by_caught (Some h) test = test h
by_caught None test = false

-- a test that passes only where no handler was found
abbrev pub by_uncaught : Option ℕ → Bool → Bool
by_uncaught (Some h) t = false
by_uncaught None t = t

-- whether flows ask for bit k at place i of the words, where the masks that flow and the masks of guards are read in claim c
abbrev pub asks : Claim → Flows → ℕ → ℕ → Bool
asks c (j ∈ s) i k = eqb (place_of s) i && eqb j k
asks c (s ⊆ t) i k = eqb (place_of t) i && has (c s) k
asks c (f & g) i k = asks c f i k || asks c g i k
asks c (each n g) i k = some n (λ x. asks c (g x) i k)
asks c (given j s f) i k = has (c s) j && asks c f i k
asks c (numeric s f) i k = has_number (c s) && asks c f i k
asks c (when t f) i k = t && asks c f i k
asks c (found r g) i k = by_found r (λ m. asks c (g m) i k)
asks c (handled r g) i k = by_caught r (λ h. asks c (g h) i k)
asks c (unhandled r f) i k = by_uncaught r (asks c f i k)

-- whether one of these rules does
abbrev pub rules_ask : Claim → List Rule → ℕ → ℕ → Bool
rules_ask c [] i k = false
rules_ask c (r ∷ rs) i k = asks c r.flows i k || rules_ask c rs i k

-- whether a rule at some address of the program does
unfoldable pub program_asks : Program → Claim → ℕ → ℕ → Bool
program_asks p c i k = some (method_count p) (λ m. some (code_length p m) (λ pc. rules_ask c (rules_at p m pc) i k))

-- word i, joined with all bits that are asked for there
unfoldable pub raised_word : Program → List ℕ → ℕ → ℕ
raised_word p ws i = bits_where 64 (λ k. has (mask_at ws i) k || program_asks p (claim_in ws) i k)

-- the first n words so, read all in the claim before
unfoldable pub raised_to : ℕ → Program → List ℕ → List ℕ
raised_to n p ws = tab n (raised_word p ws)

-- all words of a claim so
abbrev pub once_raised : Program → List ℕ → List ℕ
once_raised p ws = raised_to claim_size p ws

-- these words where the claim in them is accepted, more where it is not
abbrev pub unless : Verdict → List ℕ → List ℕ → List ℕ
unless accepted ws more = ws
unless (violated n m pc) ws more = more

-- raised until every rule holds, at most n times
unfoldable pub least_by : ℕ → Program → List ℕ → List ℕ
least_by zero p ws = ws
least_by (suc n) p ws = unless (verdict p (claim_in ws)) ws (least_by n p (once_raised p ws))

-- the words of the least claim: each time adds a bit, and 9,712 words have 621,568
unfoldable pub least_words : Program → List ℕ
least_words p = least_by 621568 p no_masks
