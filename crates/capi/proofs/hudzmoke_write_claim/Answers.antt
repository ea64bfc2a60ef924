-- `capi::hudzmoke_write_claim` meets its contract. Assumes nothing.
use Rattle.std.proofs.Common.{sym, ◌∙◌}
use Rattle.writer.proofs.Numbers.{written_by}
use Rattle.capi.proofs.hudzmoke_write_claim.Goals as goal

pub returns : goal.returns
returns c =
    let v = c.write_claim-output.ensures in
    let p = c.put_output.ensures in
    record {
      number = p.number ∙ v.numbers.0;
      answer = rw (p.memory, v.numbers.0, v.numbers.1);
      memory = v.memory;
      least = λ n e k. v.least n (v.answer ∙ written_by _ _ n (sym (p.number ∙ v.numbers.0) ∙ e) k);
    }
