-- `transfer::raise_by` meets its contract. Assumes nothing.
use lib.Dec.{eqb}
use mathlib.Core.Bool.{◌&&◌}
use native.Mathlib.Omega.{arith}
use Rattle.program.specs.Program.{instruction_at}
use Rattle.program.specs.Tables.{program_in}
use Rattle.flow.specs.Flows.{◌&◌, when}
use Rattle.flow.specs.Rules.{initial_memory, entry, rules_of}
use Rattle.flow.proofs.Decided.{next_inside}
use Rattle.order.specs.Raised.{all_of}
use Rattle.order.proofs.Raising.{raised_both}
use Rattle.transfer.proofs.raise_by.Goals as goal

pub returns : goal.returns
returns c =
    record {
      raised = λ formed lm lp.
          let a = c.args in
          let p = program_in a.sets.now.tables.now in
          let f = formed.methods a.method lm in
          let zero = when (eqb a.method 0 && eqb a.address 0) (initial_memory p) in
          let one = when (eqb a.address 0) (entry p a.method) in
          let rest = all_of (rules_of p a.method a.address (instruction_at p a.method a.address)) in
          raised_both zero (one & rest) _ _ _ (c.memory_at.ensures.raised formed)
          (raised_both one rest _ _ _ (c.entry_at.ensures.raised formed lm)
          ((rw c.instruction_at.ensures.value at c.of_instruction.ensures.raised)
          (record {
            formed = formed;
            method = lm;
            names = f.names a.address lp;
            calls = f.calls a.address lp;
            next = next_inside p formed a.method a.address lp;
          })));
    }

pub returns-then-address-ge32 : goal.returns-then-address-ge32
returns-then-address-ge32 c =
    record {
      raised = λ formed lm lp.
          absurd (omega (arith, formed.limited.code c.args.method));
    }
