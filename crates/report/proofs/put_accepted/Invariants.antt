-- `report::put_accepted`: what its loop keeps.
use Rattle.std.proofs.Common.{◌++◌}
use Rattle.page.specs.OnPage.{PutOn}
use Rattle.report.specs.Printed.{accepted_word, call_lines}
use Rattle.report.proofs.put_accepted.Given as goal

abbrev pub invariant-loop-i : goal.invariant-loop-i
invariant-loop-i l = PutOn l.fn.page (accepted_word ++ call_lines l.memory l.i) l.page
