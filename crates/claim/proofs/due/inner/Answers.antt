-- `claim::due::inner` meets its contract: each arm is told its part. Assumes nothing.
use Rattle.claim.proofs.due.inner.Goals as goal

pub returns-in-Address : goal.returns-in-Address
returns-in-Address c = record { value = rw (c.in-Address.is, c.code_length.ensures.value) }

pub returns-in-Field : goal.returns-in-Field
returns-in-Field c = record { value = rw (c.in-Field.is, c.field_count.ensures.value) }

pub returns-in-Static : goal.returns-in-Static
returns-in-Static c = record { value = rw c.in-Static.is }

pub returns-in-Returned : goal.returns-in-Returned
returns-in-Returned c = record { value = rw c.in-Returned.is }

pub returns-in-Leaving : goal.returns-in-Leaving
returns-in-Leaving c = record { value = rw c.in-Leaving.is }
