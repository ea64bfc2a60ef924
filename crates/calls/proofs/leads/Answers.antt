-- `calls::leads` meets its contract: a class leads there exactly where the set of those that do is not empty. Assumes nothing.
use Rattle.std.proofs.Common.{Bool, not, ap, ◌∙◌}
use Rattle.program.specs.Tables.{program_in}
use Rattle.sets.proofs.Receivers.{not_empty_leads}
use Rattle.calls.proofs.leads.Goals as goal

pub returns : goal.returns
returns c =
    let a = c.args in
    record {
      value = ap (λ (t : Bool). not t) c.is_empty.ensures.value
          ∙ not_empty_leads (program_in a.s.now.tables.now) a.mask a.name a.count a.q c.leading.result c.leading.ensures.bits;
    }
