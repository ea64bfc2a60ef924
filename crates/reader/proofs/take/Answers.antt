-- `reader::take` meets its contract. Assumes nothing.
use Rattle.reader.proofs.Outcome.{told_long, told_order, told_values, told_read}
use Rattle.reader.proofs.take.Goals as goal

pub returns-then-text-gt65536 : goal.returns-then-text-gt65536
returns-then-text-gt65536 c =
    let r = told_long c.args.text.now _ c.if-text-gt65536.true in
    record { answer = r.0; tables = r.1 }

pub returns-then-order-ne0 : goal.returns-then-order-ne0
returns-then-order-ne0 c =
    let w = c.walk-order in
    let r = told_order c.args.text.now c.if-text-gt65536.false w.result _ c.refused_by.result w.ensures.read c.if-order-ne0.true
    c.refused_by.ensures.value in
    record { answer = r.0; tables = r.1 }

pub returns-then-value-ne0 : goal.returns-then-value-ne0
returns-then-value-ne0 c =
    let w = c.walk-order in
    let m = c.first_mark-value in
    let r = told_values c.args.text.now c.if-text-gt65536.false w.result _ w.ensures.read c.if-order-ne0.false m.result
    m.ensures.value c.refused_by-then-value-ne0.result c.if-value-ne0.true c.refused_by-then-value-ne0.ensures.value in
    record { answer = r.0; tables = r.1 }

pub returns : goal.returns
returns c =
    let w = c.walk-order in
    let m = c.first_mark-value in
    let r = told_read c.args.text.now c.if-text-gt65536.false w.result _ w.ensures.read c.if-order-ne0.false m.result
    m.ensures.value c.if-value-ne0.false in
    record { answer = r.0; tables = r.1 }
