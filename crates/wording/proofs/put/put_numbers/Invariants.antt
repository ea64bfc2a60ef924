-- `wording::put::put_numbers`: what its loop keeps.
use Rattle.std.proofs.Common.{take}
use Rattle.page.specs.OnPage.{PutOn}
use Rattle.wording.specs.ClaimText.{numbers_text}
use Rattle.wording.proofs.put.put_numbers.Given as goal

abbrev pub invariant-loop-n : goal.invariant-loop-n
invariant-loop-n l = PutOn l.initial.page (numbers_text (take l.n-index l.numbers)) l.page
