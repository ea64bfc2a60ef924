-- `marked::check` meets its contract. Assumes nothing.
use Rattle.marked.proofs.check.Goals as goal

pub returns : goal.returns
returns c =
    let e = c.check.ensures in
    record { promised = record { verdict_clause = e.verdict; memory_clause = e.memory; coverage_clause = e.coverage } }
