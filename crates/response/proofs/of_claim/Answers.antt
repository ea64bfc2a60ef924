-- `response::of_claim` meets its contract. Assumes nothing.
use Rattle.response.proofs.Claims.{claimed}
use Rattle.response.proofs.of_claim.Goals as goal

pub returns : goal.returns
returns c =
    let start = c.args in
    let there =
    claimed start.panel.now start.claim.now start.table.now start.out.now _ start.line.now _ _ _ c.judge-v.result _ _
    (c.judge-v.ensures.verdict, c.judge-v.ensures.memory)
    (c.write-printed.ensures.count, c.write-printed.ensures.memory)
    c.tell-told.ensures.words in
    record {
      count = there.0;
      bytes = there.1.0;
      whole = there.1.1.0;
      words = there.1.1.1.0;
      all_words = there.1.1.1.1.0;
      coverage = there.1.1.1.1.1;
    }
