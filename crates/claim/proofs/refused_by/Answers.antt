-- `claim::refused_by` meets its contract. Assumes nothing.
use borrow.Author.Tests.{ne_eqb}
use Rattle.claim.proofs.refused_by.Goals as goal

pub returns-in-10 : goal.returns-in-10
returns-in-10 c = record { value = rw c.in-10.is }

pub returns-in-11 : goal.returns-in-11
returns-in-11 c = record { value = rw c.in-11.is }

pub returns-in-12 : goal.returns-in-12
returns-in-12 c = record { value = rw c.in-12.is }

pub returns-in_default : goal.returns-in_default
returns-in_default c = record {
  value = simp (
    ne_eqb _ _ c.in_default.in_default-own.rest.0.0.1,
    ne_eqb _ _ c.in_default.in_default-own.rest.0.1,
    ne_eqb _ _
        c.in_default.in_default-own.rest.1,
  );
}
