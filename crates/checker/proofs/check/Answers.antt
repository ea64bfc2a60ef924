-- `checker::check` meets its contract. Assumes nothing.
use mathlib.Core.Path.{ap}
use Rattle.verdict.specs.Numbers.{number_of, values_of}
use Rattle.checker.proofs.Kept.{accepted_covered}
use Rattle.checker.proofs.check.Goals as goal

pub returns : goal.returns
returns c =
    let a = c.args in
    let e = c.check_by.ensures in
    record {
      verdict = e.verdict;
      numbers = (ap number_of e.verdict, ap values_of e.verdict);
      memory = e.memory;
      coverage = λ k f. accepted_covered a.program.now a.claim.now a.memory.now _ _ k f e.verdict e.memory;
    }
