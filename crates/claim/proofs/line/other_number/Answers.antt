-- `claim::line::other_number` meets its contract. Assumes nothing.
use mathlib.Core.Path.{sym}
use borrow.Author.Tests.{le-leb, lt-leb}
use native.Mathlib.Omega.{arith}
use Rattle.claim.proofs.line.other_number.Goals as goal

pub returns-then-kind-lt17 : goal.returns-then-kind-lt17
returns-then-kind-lt17 c = record { value = rw (sym c.number_at-kind.ensures.value, lt-leb 17 c.number_at-kind.result (omega (arith, c.if-kind-lt17.true))) }

pub returns-then-kind-gt21 : goal.returns-then-kind-gt21
returns-then-kind-gt21 c =
    let low = le-leb 17 c.number_at-kind.result (omega (arith, c.if-kind-lt17.false)) in
    record { value = rw (sym c.number_at-kind.ensures.value, low, lt-leb c.number_at-kind.result 21 (omega (arith, c.if-kind-gt21.true))) }

pub returns : goal.returns
returns c =
    let low = le-leb 17 c.number_at-kind.result (omega (arith, c.if-kind-lt17.false)) in
    record { value = rw (sym c.number_at-kind.ensures.value, low, le-leb c.number_at-kind.result 21 (omega (arith, c.if-kind-gt21.false))) }
