-- `claim::walk::after_last` meets its contract. Assumes nothing.
use mathlib.Core.Path.{sym, ◌∙◌}
use Rattle.claim.proofs.LineKinds.{other_line, last_end, last_broken, last_whole}
use Rattle.claim.proofs.walk.after_last.Goals as goal

pub returns-in-End : goal.returns-in-End
returns-in-End c =
    let a = c.args in
    record { value = sym (last_end a.text.now a.place c.read_line-found.result c.read_line-found.ensures.line c.in-End.is) }

pub returns-in-Broken : goal.returns-in-Broken
returns-in-Broken c =
    let a = c.args in
    record { value = sym (last_broken a.text.now a.place c.read_line-found.result c.read_line-found.ensures.line c.in-Broken.is) }

pub returns-in-Whole : goal.returns-in-Whole
returns-in-Whole c =
    let a = c.args in
    let d = c.in-Whole.digits in
    let (two, e) = last_whole a.text.now a.place c.read_line-found.result c.read_line-found.ensures.line d c.in-Whole.is in
    record { value = c.other_number.ensures.value ∙ other_line a.text.now a.place.at d two ∙ sym e }
