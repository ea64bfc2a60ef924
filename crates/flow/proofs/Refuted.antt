-- Covered is no empty word: where a mask lacks a bit or the list a call, it is refuted. Assumes nothing.
use mathlib.Core.Path.{◌≡◌, refl, ap}
use mathlib.Core.Bool.{false≢true}
use mathlib.Core.Logic.{◌⊎◌, inl, inr}
use mathlib.Core.List.Memᴰ
use mathlib.Core.List.{List, [], ◌∷◌, Memᴰ}
use Prim.Native.Nat.{◌<◌}
use native.Mathlib.Omega.{arith}
use lib.IntN.{pos}
use Rattle.text.proofs.Cases.{never}
use Rattle.instruction.specs.declared.Instruction.TheVariants.{Const, NewInstance, Iget, Iput, Sput, InvokeStatic, Throw}
use Rattle.instruction.specs.Word.{instruction_of, fields_of, signed_of}
use Rattle.mask.specs.Mask.{has}
use Rattle.search.specs.Search.{below_in, has_field, handler_for}
use Rattle.reader.proofs.Examples.{sample_program}
use Rattle.machine.specs.Run.{run, step}
use Rattle.machine.specs.History.{Made, calls, leavings}
use Rattle.flow.specs.Claim.{register_at, result_at, field_of, static_of, leaving, Claim}
use Rattle.flow.specs.Covered.{Covered}
use Rattle.flow.proofs.Samples.{zeros, nonzeros, plain, full, but, doing, made}

first_of_two : 0 < 2
first_of_two = omega arith

last_of_two : 1 < 2
last_of_two = omega arith

-- ---- masks, whatever the list
-- the sample after its call: zero is the result at address 1
sample_result : (list : List Made) → Covered sample_program (but (result_at 0 1) 0 plain) list 2 → ⊥
unfolding has run step instruction_of fields_of
sample_result list h = false≢true h.frames_in.0.result_in

-- before the first step, the registers are zero
first_register_lem : (list : List Made) → Covered (doing []) (but (register_at 0 0 1) nonzeros full) list 0 → ⊥
unfolding has run
first_register_lem list h = false≢true (h.frames_in.0.registers_in 1 last_of_two)

-- register 0 of a waiting caller is 5 while the callee runs
waiting_register :
    (list : List Made)
    → Covered (doing (Const 0 (pos 5) ∷ InvokeStatic 3 1 0 ∷ [])) (but (register_at 0 1 0) zeros full) list 2
    → ⊥
unfolding has run step instruction_of fields_of signed_of
waiting_register list h = false≢true (h.frames_in.1.0.registers_in 0 first_of_two)

-- field 0 of an object of class 5 is 5
field :
    (list : List Made)
    → Covered (doing (NewInstance 0 5 ∷ Const 1 (pos 5) ∷ Iput 1 0 0 ∷ [])) (but (field_of 5 0) zeros full) list 3
    → ⊥
unfolding has run step instruction_of fields_of signed_of below_in has_field
field list h = false≢true (h.objects_in.0.fields_in 0 refl)

-- static 1 is an object of class 5
static :
    (list : List Made)
    → Covered (doing (NewInstance 0 5 ∷ Sput 0 1 ∷ [])) (but (static_of 1) zeros full) list 2
    → ⊥
unfolding has run step instruction_of fields_of
static list h = false≢true (h.statics_in 1 last_of_two)

-- an object of class 2 leaves method 0, whose frame is the last
uncaught :
    (list : List Made)
    → Covered (doing (NewInstance 0 2 ∷ Throw 0 ∷ [])) (but (leaving 0) 0 full) list 3
    → ⊥
unfolding has leavings run step instruction_of fields_of below_in handler_for
uncaught list h = false≢true h.leavings_in.0

-- one that a step raises does: register 1 is null
raised :
    (list : List Made)
    → Covered (doing (Iget 0 1 0 ∷ [])) (but (leaving 0) 0 full) list 2
    → ⊥
unfolding has leavings run step instruction_of fields_of below_in handler_for
raised list h = false≢true h.leavings_in.0

-- one leaves method 3, and is pending at its call
leaving_callee :
    (list : List Made)
    → Covered (doing (NewInstance 0 2 ∷ InvokeStatic 3 1 0 ∷ [])) (but (leaving 3) 0 full) list 4
    → ⊥
unfolding has leavings run step instruction_of fields_of below_in handler_for
leaving_callee list h = false≢true h.leavings_in.0

-- ---- calls, whatever the claim
-- the sample's call is in the list
call_listed : {list : List Made} (c : Claim) → Covered sample_program c list 1 → Memᴰ (made 0 0 1) list
unfolding calls run step instruction_of fields_of
call_listed c h = h.calls_in.0

-- not in the empty list
no_calls : (c : Claim) → Covered sample_program c [] 1 → ⊥
no_calls c h = Memᴰ.not-nil (call_listed c h)

-- nor in the list of the same call at another address
other_address : (c : Claim) → Covered sample_program c (made 0 1 1 ∷ []) 1 → ⊥
other_address c h = excluded (Memᴰ.cases_cons (call_listed c h))
  where
    excluded : (made 0 0 1 ≡ made 0 1 1) ⊎ Memᴰ (made 0 0 1) [] → ⊥
    excluded (inl e) = never (ap (λ m. m.address) e)
    excluded (inr e) = Memᴰ.not-nil e
