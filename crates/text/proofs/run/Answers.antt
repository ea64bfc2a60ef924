-- `text::run` meets its contract: the digits before the place after the blocks, and those in front from there on. Assumes nothing.
use Rattle.std.proofs.Common.{◌≡◌, ltb, drop, ◌∙◌, arith, rules, tests}
use Rattle.std.proofs.lemmas.Iterator.{YieldsList-from_slice}
use Rattle.std.proofs.lemmas.Iterator.Consumers.{count_from_yields_List}
use Rattle.std.proofs.lemmas.Iterator.Search.{YieldsList-from_take_while}
use Rattle.std.proofs.lemmas.List.{take_rest}
use Rattle.std.proofs.lemmas.List.Folds.{length-prefix_len}
use Rattle.text.specs.Hex.{digit_of}
use Rattle.text.specs.Run.{digit_run}
use Rattle.text.proofs.Digits.{run_front}
use Rattle.text.proofs.run.Goals as goal

pub returns : goal.returns
returns c =
    let rest = drop c.after_blocks-i.result c.args.text.now in
    let front : c.count.result ≡ digit_run rest =
    count_from_yields_List c.take_while.result _ c.count.ensures.ran (YieldsList-from_take_while _ (λ b. ltb (digit_of b) 16) (YieldsList-from_slice rest (search (rules, take_rest c.args.text.now c.after_blocks-i.result))) c.take_while.ensures.closure c.take_while.ensures.done (λ x b q k. search (rules, tests)))
    ∙ length-prefix_len (λ b. ltb (digit_of b) 16) rest
    ∙ run_front rest in
    record { digits = omega (arith, c.after_blocks-i.ensures.place, c.after_blocks-i.ensures.end, front) }
