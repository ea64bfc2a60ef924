-- `translator::check::check_at` meets its contract. Assumes nothing.
use mathlib.Core.Path.{refl, sym, ◌∙◌}
use native.Mathlib.Omega.{arith}
use Rattle.units.specs.Units.{units_of}
use Rattle.units.specs.declared.Opcode.TheVariants.{NotTaken, Plain as plain, Branch as branch}
use Rattle.units.proofs.Texts.{unit_count}
use Rattle.translator.proofs.Checking.{cut_short, not_taken, too_many, well}
use Rattle.translator.proofs.check.check_at.Goals as goal

pub returns-then-n-count : goal.returns-then-n-count
returns-then-n-count c =
    let a = c.args in
    let size = unit_count a.line.text.now in
    let e = c.count.ensures.value in
    record {
      value = cut_short (units_of a.line.text.now) a.here.place a.here.address (omega (arith, c.requires.0)) (omega (arith, c.requires.0, c.requires.1));
    }

pub returns-in-NotTaken : goal.returns-in-NotTaken
returns-in-NotTaken c =
    let a = c.args in
    let size = unit_count a.line.text.now in
    let e = c.count.ensures.value in
    record {
      value = not_taken (units_of a.line.text.now) a.here.place a.here.address (omega (arith, c.requires.0)) (omega (arith, c.requires.0, c.requires.1))
          NotTaken (sym c.in-NotTaken.is ∙ c.requires.2) refl;
    }

pub returns-then-here-ge32 : goal.returns-then-here-ge32
returns-then-here-ge32 c =
    let a = c.args in
    let size = unit_count a.line.text.now in
    let e = c.count.ensures.value in
    record {
      value = too_many (units_of a.line.text.now) a.here.place a.here.address (omega (arith, c.requires.0)) (omega (arith, c.requires.0, c.requires.1))
          (plain c.in-Plain.p) (sym c.in-Plain.is ∙ c.requires.2) refl c.if-here-ge32.true;
    }

pub returns-then-here-ge32-2 : goal.returns-then-here-ge32-2
returns-then-here-ge32-2 c =
    let a = c.args in
    let size = unit_count a.line.text.now in
    let e = c.count.ensures.value in
    record {
      value = too_many (units_of a.line.text.now) a.here.place a.here.address (omega (arith, c.requires.0)) (omega (arith, c.requires.0, c.requires.1))
          (branch c.in-Branch.b) (sym c.in-Branch.is ∙ c.requires.2) refl c.if-here-ge32-2.true;
    }

pub branch_at-requires : goal.branch_at-requires
branch_at-requires c = (c.requires.0, rw c.in-Branch.is at c.requires.3)

pub returns-else-here-ge32 : goal.returns-else-here-ge32
returns-else-here-ge32 c =
    let a = c.args in
    let size = unit_count a.line.text.now in
    let e = c.count.ensures.value in
    record {
      value = c.plain_at.ensures.value
          ∙ well (units_of a.line.text.now) a.here.place a.here.address (omega (arith, c.requires.0)) (omega (arith, c.requires.0, c.requires.1))
          (plain c.in-Plain.p) (sym c.in-Plain.is ∙ c.requires.2) refl c.if-here-ge32.false;
    }

pub returns-else-here-ge32-2 : goal.returns-else-here-ge32-2
returns-else-here-ge32-2 c =
    let a = c.args in
    let size = unit_count a.line.text.now in
    let e = c.count.ensures.value in
    record {
      value = c.branch_at.ensures.value
          ∙ well (units_of a.line.text.now) a.here.place a.here.address (omega (arith, c.requires.0)) (omega (arith, c.requires.0, c.requires.1))
          (branch c.in-Branch.b) (sym c.in-Branch.is ∙ c.requires.2) refl c.if-here-ge32-2.false;
    }
