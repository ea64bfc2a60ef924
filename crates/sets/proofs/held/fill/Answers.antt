-- `sets::fill` meets its contract. The loop's invariant: the words before the next one are the sets'; after the first there are 80. Assumes nothing.
use mathlib.Core.Path.{◌≡◌, ap, ◌∙◌}
use mathlib.Core.List.{List}
use Prim.Native.Nat.{ℕ}
use native.Mathlib.Omega.{arith}
use Rattle.std.proofs.Common.{rules}
use lib.ListN.{length, get_or, length-set}
use Rattle.program.specs.Tables.{program_in}
use Rattle.sets.proofs.Words.{words_more, words_all}
use Rattle.sets.proofs.held.fill.Goals as goal

pub loop-j-init : goal.loop-j-init
loop-j-init c = ((λ l. absurd (omega arith)), λ i l. absurd (omega arith))

pub loop-j-preserved : goal.loop-j-preserved
loop-j-preserved c =
    let a = c.args in
    let j = c.loop-j.j in
    let w = c.set_word.result in
    let size : length c.loop-j.s ≡ 80 = search rules in (
      (λ l. ap length c.put.ensures.memory ∙ length-set c.loop-j.s j w ∙ size),
      (λ i l. ap (λ (ws : List ℕ). get_or ws i 0) c.put.ensures.memory
          ∙ words_more (program_in a.t.now) c.loop-j.s j w size (omega arith) c.set_word.ensures.value c.loop-j.invariant.1 i l),
    )

pub returns : goal.returns
returns c = record { memory = words_all (program_in c.args.t.now) c.loop-j.s (c.loop-j.invariant.0 (omega arith)) (λ i l. c.loop-j.invariant.1 i (omega arith)) }
