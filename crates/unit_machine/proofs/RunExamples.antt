-- Runs over units by computation, where places are no addresses: a branch back, a caller that waits and goes on, an exception that its
-- handler takes; and the sentence of the paper, of the sample. Assumes nothing.
use mathlib.Core.Path.{◌≡◌, refl}
use mathlib.Core.List.{List, [], ◌∷◌, map}
use Prim.Native.Nat.{ℕ}
use lib.IntN.{pos}
use Rattle.text.specs.Hex.{digit_of, all_digits, lines_of, whole, number_from}
use Rattle.instruction.specs.declared.Operation.{Operation}
use Rattle.instruction.specs.declared.Operation.TheVariants.{Add, Div}
use Rattle.instruction.specs.declared.Instruction.{Instruction}
use Rattle.instruction.specs.declared.Instruction.TheVariants.{Const, Goto, Binop, InvokeStatic, MoveException, Return, ReturnVoid}
use Rattle.instruction.specs.Word.{operation_of}
use Rattle.arithmetic.specs.Arithmetic.{computed, wrapped}
use Rattle.program.specs.Program.{Program, arithmetic_class, throwable_class}
use Rattle.search.specs.Search.{below_in, catches, handler_for}
use Rattle.reader.specs.Sample.{bytes_of, sample}
use Rattle.reader.proofs.Examples.{sample_program, sample_reads}
use Rattle.machine.specs.declared.Value.{Value}
use Rattle.machine.specs.declared.Value.TheVariants.{Number, Reference}
use Rattle.machine.specs.State.{Frame, Object, Status, running, raised, done, State, null}
use Rattle.machine.proofs.Programs.{method, handler}
use Rattle.opcodes.specs.Opcodes.{length_of}
use Rattle.units.specs.Units.{units_of, starts_from, starts_of, address_in, place_in}
use Rattle.units.specs.Formats.{opcode_of, signed_by, landing}
use Rattle.units.specs.Translate.{translated, translation_from, units_translation, translation}
use Rattle.unit_machine.specs.UnitRun.{Listing, unit_step, unit_run}
use Rattle.unit_machine.specs.Alike.{Alike, read_state, no_units, also}
use Rattle.unit_machine.proofs.Alike.{none_translated, also_translated, runs_alike}

abbrev five : Value
five = Number (pos 5)

-- ---- const/16 v0, 5 at place 0; goto -2 at place 2
abbrev loop : List ℕ
loop = bytes_of "00130005fe28\n"

abbrev loop_code : List Instruction
loop_code = Const 0 (pos 5) ∷ Goto 0 ∷ []

-- the five classes that every program has, and a method
abbrev loops : Program
loops =
    record { supers = 255 ∷ 0 ∷ 1 ∷ 1 ∷ 1 ∷ []; fields = []; statics = 0; methods = method 0 0 1 1 0 loop_code [] ∷ [] }

abbrev looping : ℕ → Frame
looping a = record { method = 0; address = a; registers = five ∷ []; result = null }

loop_translated : translation loop ≡ translated loop_code
unfolding digit_of all_digits lines_of whole number_from length_of units_of starts_from starts_of address_in opcode_of signed_by landing
    translation_from units_translation translation
loop_translated = refl

-- after one step at place 2, which reads as address 1; after two back at place 0
loop_runs : map (λ n. (unit_run loops (also 0 (units_of loop) no_units) n).frames) (1 ∷ 2 ∷ 3 ∷ [])
    ≡ (looping 2 ∷ []) ∷ (looping 0 ∷ []) ∷ (looping 2 ∷ []) ∷ []
unfolding digit_of number_from length_of units_of starts_from starts_of address_in opcode_of signed_by landing unit_step unit_run
loop_runs = refl

loop_reads : (read_state (also 0 (units_of loop) no_units) (unit_run loops (also 0 (units_of loop) no_units) 1)).frames ≡ looping 1 ∷ []
unfolding digit_of number_from length_of units_of starts_from starts_of address_in opcode_of signed_by landing unit_step unit_run
loop_reads = refl

-- ---- a call in which v1 is divided by v0, or added to it
-- place 0: const/16 v0, 5; 2: invoke-static {v0}, method 1; 5: return-void; 6: move-exception v0; 7: return-void
abbrev outer : List ℕ
outer = bytes_of "00130005107100010000000e000d000e\n"

abbrev outer_code : List Instruction
outer_code = Const 0 (pos 5) ∷ InvokeStatic 1 1 0 ∷ ReturnVoid ∷ MoveException 0 ∷ ReturnVoid ∷ []

-- place 0: div-int/2addr v1, v0, or add-int/2addr; 1: return v1
abbrev divides : List ℕ
divides = bytes_of "01b3010f\n"

abbrev adds : List ℕ
adds = bytes_of "01b0010f\n"

abbrev inner_code : Operation → List Instruction
inner_code o = Binop o 1 1 0 ∷ Return 1 ∷ []

-- the handler, in addresses: from 1 to 2, and goes to 3
abbrev calls : Operation → Program
calls o =
    record {
      supers = 255 ∷ 0 ∷ 1 ∷ 1 ∷ 1 ∷ [];
      fields = [];
      statics = 0;
      methods =
          method 0 0 1 1 0 outer_code (handler 1 2 3 throwable_class ∷ []) ∷ method 0 1 1 2 1 (inner_code o) [] ∷ [];
    }

abbrev listing : List ℕ → Listing
listing inner = also 0 (units_of outer) (also 1 (units_of inner) no_units)

outer_translated : translation outer ≡ translated outer_code
unfolding digit_of all_digits lines_of whole number_from length_of units_of starts_from starts_of address_in opcode_of signed_by landing
    translation_from units_translation translation
outer_translated = refl

inner_translated : map translation (divides ∷ adds ∷ []) ≡ translated (inner_code Div) ∷ translated (inner_code Add) ∷ []
unfolding digit_of all_digits lines_of whole number_from length_of units_of starts_from starts_of address_in opcode_of operation_of
    translation_from units_translation translation
inner_translated = refl

abbrev caller : ℕ → Value → Value → Frame
caller a v result = record { method = 0; address = a; registers = v ∷ []; result = result }

abbrev callee : ℕ → Frame
callee a = record { method = 1; address = a; registers = null ∷ five ∷ []; result = null }

abbrev state : List Frame → List Object → Status → State
state frames objects status = record { frames = frames; objects = objects; statics = []; status = status }

-- the caller stands at its call's place, 2, and goes on three units, to 5
adds_run : map (unit_run (calls Add) (listing adds)) (1 ∷ 2 ∷ 3 ∷ 4 ∷ 5 ∷ [])
    ≡ state (caller 2 five null ∷ []) [] running
    ∷ state (callee 0 ∷ caller 2 five null ∷ []) [] running
    ∷ state (callee 1 ∷ caller 2 five null ∷ []) [] running
    ∷ state (caller 5 five five ∷ []) [] running
    ∷ state [] [] done
    ∷ []
unfolding digit_of number_from length_of units_of starts_from starts_of address_in opcode_of operation_of signed_by computed wrapped unit_step unit_run
adds_run = refl

-- the step that divides makes the object and stays; the callee is dropped; at place 2, address 1, the handler goes to address 3, which is
-- at place 6
abbrev divided : Object
divided = record { class = arithmetic_class; cells = [] }

divides_run : map (unit_run (calls Div) (listing divides)) (3 ∷ 4 ∷ 5 ∷ 6 ∷ 7 ∷ [])
    ≡ state (callee 0 ∷ caller 2 five null ∷ []) (divided ∷ []) (raised 0)
    ∷ state (caller 2 five null ∷ []) (divided ∷ []) (raised 0)
    ∷ state (caller 6 five (Reference 0) ∷ []) (divided ∷ []) running
    ∷ state (caller 7 (Reference 0) (Reference 0) ∷ []) (divided ∷ []) running
    ∷ state [] (divided ∷ []) done
    ∷ []
unfolding digit_of number_from length_of units_of starts_from starts_of address_in place_in opcode_of operation_of signed_by computed
    below_in catches handler_for unit_step unit_run
divides_run = refl

-- ---- the sample, both methods from units: invoke-static {}, method 1, then return-void; return-void
abbrev sample_first : List ℕ
sample_first = bytes_of "007100010000000e\n"

abbrev sample_second : List ℕ
sample_second = bytes_of "000e\n"

first_translated : translation sample_first ≡ translated (InvokeStatic 1 0 0 ∷ ReturnVoid ∷ [])
unfolding digit_of all_digits lines_of whole number_from length_of units_of starts_from starts_of opcode_of
    translation_from units_translation translation
first_translated = refl

second_translated : translation sample_second ≡ translated (ReturnVoid ∷ [])
unfolding digit_of all_digits lines_of whole number_from length_of units_of starts_from starts_of opcode_of
    translation_from units_translation translation
second_translated = refl

sample_alike : (n : ℕ) → Alike sample_program (also 0 (units_of sample_first) (also 1 (units_of sample_second) no_units)) n
sample_alike =
    runs_alike sample_first (InvokeStatic 1 0 0 ∷ ReturnVoid ∷ []) first_translated (bytes_of sample) sample_program sample_reads 0 refl
    (also 1 (units_of sample_second) no_units)
    (also_translated sample_program 1 sample_second (ReturnVoid ∷ []) second_translated refl no_units (none_translated sample_program))
