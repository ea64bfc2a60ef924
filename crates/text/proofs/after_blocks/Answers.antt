-- `text::after_blocks` meets its contract. The invariant: the run at `i` ends where the run at `at` does. The measure is what is
-- left of the text. Assumes nothing.
use mathlib.Core.Path.{refl, sym, ◌∙◌}
use native.Mathlib.Omega.{arith}
use Rattle.text.proofs.Digits.{run_past}
use Rattle.text.proofs.after_blocks.Goals as goal

pub loop-i-init : goal.loop-i-init
loop-i-init c = (omega arith, omega arith, refl)

pub loop-i-preserved : goal.loop-i-preserved
loop-i-preserved c =
    let text = c.args.text.now in
    let digits = sym c.block.ensures.digits ∙ c.if-block.true in
    (omega arith, omega arith, c.loop-i.invariant.2 ∙ run_past text c.loop-i.i 16 (omega arith) digits)

pub returns-else-block-clause-end : goal.returns-else-block-clause-end
returns-else-block-clause-end c = c.loop-i.invariant.2

pub returns-after-loop-i-clause-end : goal.returns-after-loop-i-clause-end
returns-after-loop-i-clause-end c = c.loop-i.invariant.2
