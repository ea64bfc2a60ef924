-- `writer::write_claim` meets its contract. Assumes nothing.
use mathlib.Core.Path.{ap}
use Rattle.output.specs.Numbers.{number_of, values_of}
use Rattle.writer.proofs.Text.{least_for}
use Rattle.writer.proofs.write_claim.Goals as goal

pub returns : goal.returns
returns c =
    let a = c.args in
    let e = c.write_by.ensures in
    record {
      answer = e.answer;
      numbers = (ap number_of e.answer, ap values_of e.answer);
      memory = e.memory;
      least = λ n h. least_for a.program.now a.memory.now n _ _ e.answer e.memory h;
    }
