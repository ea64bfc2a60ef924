-- `wording::put::put_registers`: what its loop keeps: the masks of the registers before the next are put, and the digits of the last
-- one are kept.
use Rattle.std.proofs.Common.{◌≡◌}
use Rattle.page.specs.Digits.{sixteen}
use Rattle.page.specs.OnPage.{PutOn}
use Rattle.program.specs.Lists.{tab}
use Rattle.flow.specs.Claim.{register_at}
use Rattle.slots.specs.Layout.{claim_in}
use Rattle.wording.specs.ClaimText.{masks_text}
use Rattle.wording.proofs.put.put_registers.Given as goal

abbrev pub invariant-loop-r : goal.invariant-loop-r
invariant-loop-r l = record {
  kept : l.digits ≡ sixteen l.before.bits;
  put : PutOn l.initial.page (masks_text (claim_in l.w) (tab l.r (register_at l.m l.pc))) l.page;
}
