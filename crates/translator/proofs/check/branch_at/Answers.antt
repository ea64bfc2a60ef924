-- `translator::check::branch_at` meets its contract. Assumes nothing.
use mathlib.Core.Path.{◌≡◌, sym, ap, ◌∙◌}
use native.Mathlib.Omega.{arith}
use Rattle.instruction.specs.Word.{word_of}
use Rattle.units.specs.Units.{units_of}
use Rattle.units.specs.Frames.{reached}
use Rattle.translator.specs.Inside.{branch_target}
use Rattle.translator.proofs.Checking.{target_place, branch_there, there_address, branch_refused, branch_word}
use Rattle.translator.proofs.check.branch_at.Goals as goal

pub returns-else-is_branch_fine : goal.returns-else-is_branch_fine
returns-else-is_branch_fine c =
    let a = c.args in
    let text = a.line.text.now in
    let us = units_of text in
    let u = c.unit-u.result in
    let v = c.unit-v.result in
    let to = branch_target us a.at a.b in
    let place = c.target_of-place.result in
    let e : place ≡ to =
    target_place text a.at a.b u v c.unit-w.result place (rw (← c.count-end.ensures.value) (c.target_of-place.ensures.value (omega arith)))
    c.unit-u.ensures.value c.unit-v.ensures.value c.unit-w.ensures.value in
    let there = rw (← c.count-end.ensures.value) at (branch_there text a.at a.b a.start place e c.requires.1) in
    let fine = c.is_branch_fine.ensures.value (reached us to) there in
    record {
      value = branch_refused us a.at a.b u v c.unit-u.ensures.value c.unit-v.ensures.value (sym fine ∙ c.if-is_branch_fine.false);
    }

pub returns-then-is_branch_fine : goal.returns-then-is_branch_fine
returns-then-is_branch_fine c =
    let a = c.args in
    let text = a.line.text.now in
    let us = units_of text in
    let u = c.unit-u.result in
    let v = c.unit-v.result in
    let to = branch_target us a.at a.b in
    let place = c.target_of-place.result in
    let e : place ≡ to =
    target_place text a.at a.b u v c.unit-w.result place (rw (← c.count-end.ensures.value) (c.target_of-place.ensures.value (omega arith)))
    c.unit-u.ensures.value c.unit-v.ensures.value c.unit-w.ensures.value in
    let there = rw (← c.count-end.ensures.value) at (branch_there text a.at a.b a.start place e c.requires.1) in
    let fine = c.is_branch_fine.ensures.value (reached us to) there in
    let well = sym fine ∙ c.if-is_branch_fine.true in
    let address = there_address us to a.start c.requires.1 a.b u v well in
    record {
      value = branch_word us a.at a.b u v c.unit-u.ensures.value c.unit-v.ensures.value well _ address
          c.encode.result
          (c.encode.ensures.value ∙ ap word_of c.branch_frame.ensures.value);
    }
