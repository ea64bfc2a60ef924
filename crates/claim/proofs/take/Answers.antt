-- `claim::take` meets its contract. Assumes nothing.
use Rattle.program.specs.Tables.{program_in}
use Rattle.claim.proofs.Outcome.{told_long, told_stopped, told_more, told_read}
use native.Mathlib.Omega.{arith}
use Rattle.claim.proofs.take.Goals as goal

pub returns-then-text-gt262144 : goal.returns-then-text-gt262144
returns-then-text-gt262144 c =
    let a = c.args in
    let told = told_long (program_in a.t.now) a.text.now a.w.now (omega (arith, c.if-text-gt262144.true)) in
    record { answer = told.0; masks = told.1 }

pub returns-then-end-ne0 : goal.returns-then-end-ne0
returns-then-end-ne0 c =
    let a = c.args in
    let told = told_stopped (program_in a.t.now) a.text.now _ (omega (arith, c.if-text-gt262144.false)) c.take_parts-end.result a.w.now
    c.requires c.take_parts-end.ensures.progress c.refused_by.result c.if-end-ne0.true
    c.refused_by.ensures.value in
    record { answer = told.0; masks = told.1 }

pub returns-then-more-ne0 : goal.returns-then-more-ne0
returns-then-more-ne0 c =
    let a = c.args in
    let told = told_more (program_in a.t.now) a.text.now _ (omega (arith, c.if-text-gt262144.false)) c.take_parts-end.result a.w.now
    c.requires c.take_parts-end.ensures.progress c.if-end-ne0.false c.after_last-more.result c.after_last-more.ensures.value
    c.refused_by-then-more-ne0.result c.if-more-ne0.true c.refused_by-then-more-ne0.ensures.value in
    record { answer = told.0; masks = told.1 }

pub returns : goal.returns
returns c =
    let a = c.args in
    let told = told_read (program_in a.t.now) a.text.now _ (omega (arith, c.if-text-gt262144.false)) c.take_parts-end.result a.w.now
    c.requires c.take_parts-end.ensures.progress c.if-end-ne0.false c.after_last-more.result c.after_last-more.ensures.value
    c.if-more-ne0.false in
    record { answer = told.0; masks = told.1 }
