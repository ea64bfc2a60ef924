-- `claim::line::is_due` meets its contract. Assumes nothing.
use mathlib.Core.Path.{sym, ◌∙◌}
use borrow.Author.Tests.{eq-eqb, ne_eqb}
use Rattle.claim.proofs.FrameTests.{wrong_length, right_length}
use native.Mathlib.Omega.{arith}
use Rattle.claim.proofs.line.is_due.Goals as goal

pub overflow_add-f : goal.overflow_add-f
overflow_add-f c = omega (arith, c.requires)

pub overflow_mul-f : goal.overflow_mul-f
overflow_mul-f c = omega (arith, c.requires)

pub overflow_add-f-2 : goal.overflow_add-f-2
overflow_add-f-2 c = omega (arith, c.requires)

pub returns-then-digits-f : goal.returns-then-digits-f
returns-then-digits-f c =
    let a = c.args in
    record { value = sym (wrong_length a.text.now a.at a.digits a.f a.a a.b c.requires.0 c.if-digits-f.true) }

pub returns-then-two_at-f : goal.returns-then-two_at-f
returns-then-two_at-f c =
    let a = c.args in
    record {
      value = sym (right_length a.text.now a.at a.digits a.f a.a a.b c.requires.0 c.requires.1 c.requires.2
          c.if-digits-f.false ∙ rw (sym c.two_at.ensures.value, ne_eqb _ _ c.if-two_at-f.true));
    }

pub overflow_add-at : goal.overflow_add-at
overflow_add-at c =
    omega (arith, c.requires, c.if-digits-f.false, c.well_formed)

pub returns-then-two_at-a : goal.returns-then-two_at-a
returns-then-two_at-a c =
    let a = c.args in
    record {
      value = sym (right_length a.text.now a.at a.digits a.f a.a a.b c.requires.0 c.requires.1 c.requires.2
          c.if-digits-f.false ∙ rw (
            sym c.two_at.ensures.value,
            eq-eqb _ _ c.if-two_at-f.false,
            sym c.two_at-2.ensures.value,
            ne_eqb _
                _ c.if-two_at-a.true,
          ));
    }

pub returns-then-f-eq4 : goal.returns-then-f-eq4
returns-then-f-eq4 c =
    let a = c.args in
    record {
      value = sym (right_length a.text.now a.at a.digits a.f a.a a.b c.requires.0 c.requires.1 c.requires.2
          c.if-digits-f.false ∙ rw (
            sym c.two_at.ensures.value,
            eq-eqb _ _ c.if-two_at-f.false,
            sym c.two_at-2.ensures.value,
            eq-eqb _ _
                c.if-two_at-a.false,
            eq-eqb _ _ c.if-f-eq4.true,
          ));
    }

pub overflow_add-at-2 : goal.overflow_add-at-2
overflow_add-at-2 c =
    omega (arith, c.requires, c.if-digits-f.false, c.well_formed)

pub returns : goal.returns
returns c =
    let a = c.args in
    record {
      value = sym (right_length a.text.now a.at a.digits a.f a.a a.b c.requires.0 c.requires.1 c.requires.2
          c.if-digits-f.false ∙ rw (
            sym c.two_at.ensures.value,
            eq-eqb _ _ c.if-two_at-f.false,
            sym c.two_at-2.ensures.value,
            eq-eqb _ _
                c.if-two_at-a.false,
            ne_eqb _ _ c.if-f-eq4.false,
            sym c.two_at-3.ensures.value,
          ));
    }
