-- `text::block` meets its contract: the fold tests each byte. Assumes nothing.
use Rattle.std.proofs.Common.{ltb, ◌&&◌, true, take, drop, ◌∙◌, rules, tests}
use Rattle.std.proofs.lemmas.Iterator.{YieldsList-from_slice}
use Rattle.std.proofs.lemmas.Iterator.Consumers.{fold_from_yields_List}
use Rattle.text.specs.Hex.{digit_of}
use Rattle.text.proofs.Digits.{tested}
use Rattle.text.proofs.block.Goals as goal

pub returns : goal.returns
returns c =
    let bytes = take 16 (drop c.args.at c.args.text.now) in
    record {
      digits = fold_from_yields_List _ (λ all b. all && ltb (digit_of b) 16) true _ c.fold.ensures.ran (YieldsList-from_slice bytes (search rules)) (λ a x b q k. search (rules, tests))
          ∙ tested true bytes;
    }
