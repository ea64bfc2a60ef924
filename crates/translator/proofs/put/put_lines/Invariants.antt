-- `translator::put::put_lines`: what its loop keeps.
use Rattle.std.proofs.Common.{take}
use Rattle.page.specs.OnPage.{PutOn}
use Rattle.units.specs.Translate.{frame_lines}
use Rattle.translator.proofs.put.put_lines.Given as goal

abbrev pub invariant-loop-word : goal.invariant-loop-word
invariant-loop-word l = PutOn l.initial.page (frame_lines (take l.word-index l.words)) l.page
