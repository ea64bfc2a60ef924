-- The stepper's answers by computation: the sample, each end, a full store and stack, an address outside its method. Assumes
-- nothing.
use mathlib.Core.Path.{◌≡◌, refl, ap, ◌∙◌}
use mathlib.Core.Bool.{true}
use mathlib.Core.List.{List, [], ◌∷◌}
use Prim.Native.Nat.{ℕ, ◌≤◌}
use native.Mathlib.Omega.{arith}
use lib.IntN.{pos}
use lib.ListN.{replicate}
use Rattle.instruction.specs.declared.Operation.TheVariants.{Div, Rem}
use Rattle.instruction.specs.declared.Unary.TheVariants.{Neg}
use Rattle.instruction.specs.declared.Instruction.{Instruction}
use Rattle.instruction.specs.declared.Instruction.TheVariants.{Const, Binop, Unop, NewInstance, Iget, InvokeVirtual, InvokeStatic}
use Rattle.instruction.specs.declared.Instruction.TheVariants.{Throw, CheckCast}
use Rattle.instruction.specs.Word.{instruction_of, fields_of, operation_of, signed_of}
use Rattle.arithmetic.specs.Arithmetic.{computed}
use Rattle.search.specs.Search.{below_in, has_field, answers, method_in, callee_in, handler_for}
use Rattle.reader.proofs.Examples.{sample_program}
use Rattle.machine.specs.declared.Value.TheVariants.{Reference}
use Rattle.machine.specs.State.{Status, running, raised, done, State, null}
use Rattle.machine.specs.Run.{step}
use Rattle.machine.proofs.Programs.{program}
use Rattle.turn.specs.declared.Halt.TheVariants.{Done, FullStore}
use Rattle.turn.specs.Stop.{halt_number, stop_of}
use Rattle.bounded.specs.Bounded.{Stopped, steps, bounded}
use Rattle.bounded.proofs.Rows.{Row, row, all_right, after}
use Rattle.bounded.proofs.Laws.{more_steps}

-- ---- the sample
samples : List Row
samples =
    row (bounded sample_program 0) 22 (0 ∷ 1 ∷ 0 ∷ []) 0 0
    ∷ row (bounded sample_program 1) 22 (1 ∷ 2 ∷ 0 ∷ []) 1 0
    -- "The run is done after 3 steps"
    ∷ row (bounded sample_program 3) 32 (3 ∷ 0 ∷ 0 ∷ []) 0 0
    ∷ row (bounded sample_program 9) 32 (3 ∷ 0 ∷ 0 ∷ []) 0 0
    ∷ []

samples_right : all_right samples ≡ true
unfolding samples bounded steps stop_of step instruction_of fields_of
samples_right = refl

-- so for every n from 3 on, 1,000,000 and above too
sample_done : bounded sample_program 3 ≡ record { halt = Done; count = 3; state = record { frames = []; objects = []; statics = []; status = done } }
unfolding bounded steps stop_of step instruction_of fields_of
sample_done = refl

sample_ends : (n : ℕ) → 3 ≤ n → bounded sample_program n ≡ record { halt = Done; count = 3; state = record { frames = []; objects = []; statics = []; status = done } }
sample_ends n h =
    more_steps sample_program 3 n h (λ e. omega (arith, ap halt_number (ap (λ (x : Stopped). x.halt) sample_done), ap halt_number e))
    ∙ sample_done

-- ---- ends
-- object 0 is no Throwable, object 1 is
abbrev throws : List Instruction
throws = NewInstance 0 5 ∷ NewInstance 0 2 ∷ Throw 0 ∷ []

ends : List Row
ends =
    -- "The ending step counts; a fault changes nothing else"
    row (after (Const 1 (pos 5) ∷ Throw 1 ∷ []) 9) 42 (2 ∷ 1 ∷ 0 ∷ []) 0 1
    ∷ row (after (NewInstance 0 5 ∷ Unop Neg 1 0 ∷ []) 9) 43 (2 ∷ 1 ∷ 1 ∷ []) 0 1
    ∷ row (after (NewInstance 0 2 ∷ Iget 1 0 0 ∷ []) 9) 45 (2 ∷ 1 ∷ 1 ∷ []) 0 1
    ∷ row (after (NewInstance 0 6 ∷ InvokeVirtual 5 1 0 ∷ []) 9) 46 (2 ∷ 1 ∷ 1 ∷ []) 0 1
    ∷ row (after (NewInstance 0 5 ∷ Throw 0 ∷ []) 9) 47 (2 ∷ 1 ∷ 1 ∷ []) 0 1
    -- "binop tests both for 3 before 4": an object by zero, and zero by an object
    ∷ row (after (NewInstance 0 5 ∷ Binop Div 1 0 2 ∷ []) 9) 43 (2 ∷ 1 ∷ 1 ∷ []) 0 1
    ∷ row (after (NewInstance 0 5 ∷ Binop Rem 1 2 0 ∷ []) 9) 43 (2 ∷ 1 ∷ 1 ∷ []) 0 1
    -- the end at step n is the end, and one step less is 22
    ∷ row (after (NewInstance 0 5 ∷ Throw 0 ∷ []) 2) 47 (2 ∷ 1 ∷ 1 ∷ []) 0 1
    ∷ row (after (NewInstance 0 5 ∷ Throw 0 ∷ []) 1) 22 (1 ∷ 1 ∷ 1 ∷ []) 0 1
    -- an object is pending at n steps; then the last frame is dropped
    ∷ row (after throws 3) 22 (3 ∷ 1 ∷ 2 ∷ 1 ∷ []) 0 2
    ∷ row (after throws 4) 33 (4 ∷ 0 ∷ 2 ∷ 1 ∷ []) 0 0
    ∷ row (after throws 9) 33 (4 ∷ 0 ∷ 2 ∷ 1 ∷ []) 0 0
    ∷ []

ends_right : all_right ends ≡ true
unfolding ends bounded steps stop_of step instruction_of fields_of operation_of signed_of computed below_in has_field answers
    method_in callee_in handler_for
ends_right = refl

-- ---- a full store, a full stack, an address outside
-- address 0 and 1 make an object, 2 and 3 call, 4 finds no method; 5 uses null, 6 divides by zero, 7 is a cast that fails, 8 calls
-- on null; 9 returns, 10 is outside
abbrev growing : List Instruction
growing =
    NewInstance 1 5 ∷ NewInstance 1 5 ∷ InvokeStatic 4 1 1 ∷ InvokeVirtual 7 2 0 ∷ InvokeVirtual 5 1 0
    ∷ Iget 2 1 0 ∷ Binop Rem 2 1 1 ∷ CheckCast 0 6 ∷ InvokeVirtual 7 2 1 ∷ []

-- d frames at address a, and k objects
abbrev standing : ℕ → ℕ → ℕ → Status → State
standing a d k e =
    record {
      frames = replicate d (record { method = 0; address = a; registers = Reference 0 ∷ null ∷ null ∷ null ∷ []; result = null });
      objects = replicate k (record { class = 5; cells = null ∷ null ∷ [] });
      statics = null ∷ null ∷ [];
      status = e;
    }

-- n more steps after 7
abbrev from : ℕ → ℕ → ℕ → ℕ → Status → Stopped
from n a d k e = steps (program growing) n 7 (standing a d k e)

limits : List Row
limits =
    -- "256 objects pass, the 257th is 20": "the step is neither made nor counted"
    row (from 1 0 1 255 running) 22 (8 ∷ 1 ∷ 256 ∷ []) 0 1
    ∷ row (from 9 0 1 255 running) 20 (8 ∷ 1 ∷ 256 ∷ []) 0 1
    ∷ row (from 9 0 1 256 running) 20 (7 ∷ 1 ∷ 256 ∷ []) 0 0
    ∷ row (from 1 0 32 255 running) 22 (8 ∷ 32 ∷ 256 ∷ []) 0 1
    -- "a full store gives 20": a raised object is the 256th, and passes, or the 257th, and nothing is pending
    ∷ row (from 1 5 1 255 running) 22 (8 ∷ 1 ∷ 256 ∷ 255 ∷ []) 0 5
    ∷ row (from 9 5 1 255 running) 33 (9 ∷ 0 ∷ 256 ∷ 255 ∷ []) 0 0
    ∷ row (from 9 5 1 256 running) 20 (7 ∷ 1 ∷ 256 ∷ []) 0 5
    ∷ row (from 1 6 1 255 running) 22 (8 ∷ 1 ∷ 256 ∷ 255 ∷ []) 0 6
    ∷ row (from 9 6 1 256 running) 20 (7 ∷ 1 ∷ 256 ∷ []) 0 6
    ∷ row (from 1 7 1 255 running) 22 (8 ∷ 1 ∷ 256 ∷ 255 ∷ []) 0 7
    ∷ row (from 9 7 1 256 running) 20 (7 ∷ 1 ∷ 256 ∷ []) 0 7
    -- "32 frames pass"
    ∷ row (from 1 2 31 1 running) 22 (8 ∷ 32 ∷ 1 ∷ []) 4 0
    ∷ row (from 9 2 32 1 running) 21 (7 ∷ 32 ∷ 1 ∷ []) 0 2
    ∷ row (from 1 3 31 256 running) 22 (8 ∷ 32 ∷ 256 ∷ []) 1 0
    ∷ row (from 9 3 32 1 running) 21 (7 ∷ 32 ∷ 1 ∷ []) 0 3
    -- "21: a call without fault": fault 6 comes first
    ∷ row (from 9 4 32 1 running) 46 (8 ∷ 32 ∷ 1 ∷ []) 0 4
    -- so does null: the call raises, or is 20
    ∷ row (from 1 8 32 1 running) 22 (8 ∷ 32 ∷ 2 ∷ 1 ∷ []) 0 8
    ∷ row (from 2 8 32 255 running) 22 (9 ∷ 31 ∷ 256 ∷ 255 ∷ []) 0 8
    ∷ row (from 9 8 32 256 running) 20 (7 ∷ 32 ∷ 256 ∷ []) 0 8
    -- "24: an address outside its method", also with an object pending
    ∷ row (from 9 10 1 1 running) 24 (7 ∷ 1 ∷ 1 ∷ []) 0 10
    ∷ row (from 9 10 2 1 (raised 0)) 24 (7 ∷ 2 ∷ 1 ∷ 0 ∷ []) 0 10
    -- "no further one tried": 22 also where the next step would be 20, 21 or 24
    ∷ row (from 0 0 1 256 running) 22 (7 ∷ 1 ∷ 256 ∷ []) 0 0
    ∷ row (from 0 7 1 256 running) 22 (7 ∷ 1 ∷ 256 ∷ []) 0 7
    ∷ row (from 0 8 32 256 running) 22 (7 ∷ 32 ∷ 256 ∷ []) 0 8
    ∷ row (from 0 2 32 1 running) 22 (7 ∷ 32 ∷ 1 ∷ []) 0 2
    ∷ row (from 0 10 1 1 running) 22 (7 ∷ 1 ∷ 1 ∷ []) 0 10
    ∷ []

limits_right : all_right limits ≡ true
unfolding limits steps stop_of step instruction_of fields_of operation_of computed below_in answers method_in callee_in handler_for
limits_right = refl

-- at 20 the state is as it was
abbrev Unmade : ℕ → ℕ → Type 0
Unmade a d = from 9 a d 256 running ≡ record { halt = FullStore; count = 7; state = standing a d 256 running }

unmade : Unmade 0 1 × Unmade 5 1 × Unmade 6 1 × Unmade 7 1 × Unmade 8 32
unfolding steps stop_of instruction_of fields_of operation_of computed below_in
unmade = (refl, refl, refl, refl, refl)
