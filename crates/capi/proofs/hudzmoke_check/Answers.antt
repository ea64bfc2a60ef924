-- `capi::hudzmoke_check` meets its contract. Assumes nothing.
use Rattle.std.proofs.Common.{sym, ◌∙◌}
use Rattle.checker.proofs.Numbers.{accepted_by}
use Rattle.capi.proofs.hudzmoke_check.Goals as goal

pub returns : goal.returns
returns c =
    let v = c.check-verdict.ensures in
    let p = c.put_verdict.ensures in
    record {
      number = p.number ∙ v.numbers.0;
      answer = rw (p.memory, v.numbers.0, v.numbers.1);
      memory = v.memory;
      coverage = λ k e n. v.coverage k (v.verdict ∙ accepted_by _ _ _ k (sym (p.number ∙ v.numbers.0) ∙ e) n);
    }
