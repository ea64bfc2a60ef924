-- `response::judge_long` meets its contract. Assumes nothing.
use Rattle.std.proofs.Common.{ℕ, arith}
use Rattle.std.proofs.lemmas.List.{length-replicate}
use Rattle.response.proofs.Claims.{judged_longer}
use Rattle.response.proofs.judge_long.Goals as goal

pub returns : goal.returns
returns c =
    let there =
    judged_longer c.args.panel.now _ _ _ _ _ (omega (arith, length-replicate {A = ℕ} 262145 0))
    (c.check.ensures.verdict, c.check.ensures.memory) in
    record { verdict = there.0; memory = there.1 }
