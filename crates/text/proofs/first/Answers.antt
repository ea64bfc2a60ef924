-- `text::first` meets its contract. The invariant: `value` is the number of the first `i` digits, so that one digit more fits.
-- The measure is how many digits are left. Assumes nothing.
use mathlib.Core.Path.{◌≡◌, refl, sym}
use native.Mathlib.Omega.{arith}
use Rattle.text.specs.Hex.{number_from}
use Rattle.text.proofs.Numbers.{number_more, number_room}
use Rattle.text.proofs.first.Goals as goal

pub loop-i-init : goal.loop-i-init
unfolding number_from
loop-i-init c = (omega arith, refl)

pub overflow_mul-value : goal.overflow_mul-value
overflow_mul-value c =
    let a = c.args in
    rw c.loop-i.invariant.1 (omega (arith, number_room a.text.now a.at c.loop-i.i (omega arith)))

pub overflow_add-value : goal.overflow_add-value
overflow_add-value c =
    let a = c.args in
    let room = number_room a.text.now a.at c.loop-i.i (omega arith) in
    omega (arith, room, c.loop-i.invariant.1)

pub loop-i-preserved : goal.loop-i-preserved
loop-i-preserved c =
    let a = c.args in
    let more = number_more a.text.now a.at c.loop-i.i (omega arith) in
    (omega arith, rw (c.loop-i.invariant.1, c.digit.ensures.value) (sym more))

pub returns : goal.returns
returns c =
    let end : c.loop-i.i ≡ c.args.n = omega arith in
    record { value = rw end at c.loop-i.invariant.1 }
