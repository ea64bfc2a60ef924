-- `page::Page::put`: what its loop keeps.
use Rattle.std.proofs.Common.{take}
use Rattle.page.specs.OnPage.{PutOn}
use Rattle.page.proofs.Page.put.Given as goal

abbrev pub invariant-loop-byte : goal.invariant-loop-byte
invariant-loop-byte l = PutOn l.initial.self (take l.byte-index l.bytes) l.self
