-- `text::number_at` meets its contract: the number of as many digits as there are. Assumes nothing.
use mathlib.Core.Path.{◌≡◌, sym, ◌∙◌}
use native.Mathlib.Omega.{arith}
use Rattle.text.proofs.Numbers.{number_whole}
use Rattle.text.proofs.AtOnce.{sixteen_number}
use Rattle.text.proofs.number_at.Goals as goal

pub returns-then-block : goal.returns-then-block
returns-then-block c =
    let a = c.args in
    let n : 16 ≡ c.width-n.result = omega (arith, c.if-n-eq16.true) in
    let digits = sym c.block.ensures.digits ∙ c.if-block.true in
    record {
      value = c.sixteen.ensures.value
          ∙ sixteen_number a.text.now a.at (omega arith) digits
          ∙ number_whole a.text.now a.at 16 a.count (n ∙ c.width-n.ensures.least);
    }

pub first-requires : goal.first-requires
first-requires c = (omega arith, omega arith)

pub returns : goal.returns
returns c =
    let a = c.args in
    record { value = c.first.ensures.value ∙ number_whole a.text.now a.at c.width-n.result a.count c.width-n.ensures.least }
