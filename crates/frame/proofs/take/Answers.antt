-- `frame::take` meets its contract. Assumes nothing.
use Rattle.frame.specs.Frame.{may_stand}
use Rattle.instruction.proofs.Laws.{holds}
use mathlib.Core.Path.{sym, ◌∙◌}
use Rattle.frame.proofs.take.Goals as goal

pub returns-then-not-may_stand : goal.returns-then-not-may_stand
returns-then-not-may_stand c =
    let e = sym c.may_stand.ensures.value ∙ c.if-not-may_stand.true in
    record { value = rw e; memory = rw e }

pub place_of-at-requires : goal.place_of-at-requires
place_of-at-requires c = holds (may_stand c.args.n c.args.k) (sym c.may_stand.ensures.value ∙ c.if-not-may_stand.false)

pub counted-requires : goal.counted-requires
counted-requires c = holds (may_stand c.args.n c.args.k) (sym c.may_stand.ensures.value ∙ c.if-not-may_stand.false)

pub returns : goal.returns
returns c =
    let e = sym c.may_stand.ensures.value ∙ c.if-not-may_stand.false in
    record { value = rw (e, c.counted.ensures.value); memory = rw (e, c.store.ensures.memory, c.place_of-at.ensures.value) }
