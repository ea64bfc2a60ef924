-- `raise::start::initial_memory` meets its contract. Assumes nothing.
use Rattle.program.specs.Tables.{program_in}
use Rattle.carry.specs.Carried.{all_fields, all_statics}
use Rattle.order.proofs.Raising.{raised_both}
use Rattle.raise.proofs.start.initial_memory.Goals as goal

pub returns : goal.returns
returns c =
    record {
      raised = λ formed.
          let p = program_in c.args.t.now in
          raised_both (all_fields p) (all_statics p) _ _ _ (c.all_fields.ensures.raised formed) (c.all_statics.ensures.raised formed);
    }
