-- Parts of rules 0 to 3 that inner functions answer. Definitions only, and none that a reader of the public promises has to believe.
use Rattle.std.specs.Prelude.{Bool, not, ◌&&◌, List, ℕ, ◌+◌, ◌-◌, eqb, ltb}
use Rattle.mask.specs.Mask.{every, subset, zero_bit}
use Rattle.program.specs.Program.{Program, class_count, field_count, registers}
use Rattle.search.specs.Search.{has_field}
use Rattle.flow.specs.Claim.{register_at, field_of, static_of}
use Rattle.flow.specs.Flows.{Flows, ◌∈◌, ◌⊆◌, each, when}
use Rattle.flow.specs.Rules.{argument_into}
use Rattle.slots.specs.Layout.{row_of, mask_at}

-- the mask in word i from one place on is in that from another; those in 16 words
abbrev pub word_in : List ℕ → ℕ → ℕ → ℕ → Bool
word_in ws from to i = subset (mask_at ws (from + i)) (mask_at ws (to + i))

abbrev pub row_in : List ℕ → ℕ → ℕ → Bool
row_in ws from to = every 16 (word_in ws from to)

-- those of all registers that an address of a method can have are in those at another; not where there is no such address
abbrev pub row_flows : List ℕ → ℕ → ℕ → ℕ → Bool
row_flows ws m pc to = ltb m 16 && (ltb pc 32 && (ltb to 32 && row_in ws (row_of m pc) (row_of m to)))

-- all registers but a flow from address pc to another
abbrev pub carried_except : Program → ℕ → ℕ → ℕ → ℕ → Flows
carried_except p m pc a to = each (registers p m) (λ r. when (not (eqb r a)) (register_at m pc r ⊆ register_at m to r))

-- arguments number n, n + 1, .., b - 1 of a call flow into the parameters of method q
abbrev pub arguments_from : Program → ℕ → ℕ → ℕ → ℕ → ℕ → ℕ → Flows
arguments_from p m pc q n b c = each (b - n) (λ i. argument_into p m pc c q (n + i))

-- the fields of class k, all fields, all statics
abbrev pub class_fields : Program → ℕ → Flows
class_fields p k = each (field_count p) (λ x. when (has_field p k x) (zero_bit ∈ field_of k x))

abbrev pub all_fields : Program → Flows
all_fields p = each (class_count p) (class_fields p)

abbrev pub all_statics : Program → Flows
all_statics p = each p.statics (λ x. zero_bit ∈ static_of x)
