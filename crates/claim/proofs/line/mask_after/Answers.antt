-- `claim::line::mask_after` meets its contract: digits that repeat say the same mask. Assumes nothing.
use mathlib.Core.Path.{sym, ◌∙◌}
use Prim.Native.Nat.{◌+◌}
use native.Mathlib.Omega.{arith}
use Rattle.text.proofs.Digits.{digits_halves}
use Rattle.text.proofs.AtOnce.{sixteen_digits, repeated_number}
use Rattle.claim.proofs.line.mask_after.Goals as goal

pub returns-then-repeats : goal.returns-then-repeats
returns-then-repeats c =
    let a = c.args in
    record {
      value = c.requires.2
          ∙ repeated_number a.text.now a.at c.requires.0 c.requires.1 (sym c.repeats.ensures.value ∙ c.if-repeats.true);
    }

pub returns-else-repeats : goal.returns-else-repeats
returns-else-repeats c =
    let a = c.args in
    record {
      value = c.sixteen_at.ensures.value
          ∙ sixteen_digits a.text.now (a.at + 16) (omega (arith, c.requires.0))
          (digits_halves a.text.now a.at 16 c.requires.1).1;
    }
