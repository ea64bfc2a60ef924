-- `calls::put_callee` meets its contract: one call or none. Assumes nothing.
use Rattle.std.proofs.Common.{◌≡◌, false, sym, ◌∙◌}
use Rattle.mask.specs.Mask.{has}
use Rattle.calls.proofs.Writing.{added_none}
use Rattle.calls.proofs.put_callee.Goals as goal

pub returns-else-has : goal.returns-else-has
returns-else-has c =
    let a = c.args in
    let other : has a.callees a.q ≡ false = sym c.has.ensures.value ∙ c.if-has.false in
    record { added = rw other (added_none a.list.now) }
