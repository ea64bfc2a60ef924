-- `response::judge` meets its contract. Assumes nothing.
use Rattle.response.proofs.Claims.{judged_short, judged_long}
use Rattle.response.proofs.judge.Goals as goal

pub returns-then-claim-le65536 : goal.returns-then-claim-le65536
returns-then-claim-le65536 c =
    let start = c.args in
    let there =
    judged_short start.panel.now start.claim.now start.memory.now _ _ c.if-claim-le65536.true c.requires
    (c.check.ensures.verdict, c.check.ensures.memory) in
    record { verdict = there.0; memory = there.1 }

pub returns-else-claim-le65536 : goal.returns-else-claim-le65536
returns-else-claim-le65536 c =
    let start = c.args in
    let there =
    judged_long start.panel.now start.claim.now start.memory.now _ _ c.if-claim-le65536.false
    (c.judge_long.ensures.verdict, c.judge_long.ensures.memory) in
    record { verdict = there.0; memory = there.1 }
