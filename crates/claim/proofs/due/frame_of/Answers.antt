-- `claim::due::frame_of` meets its contract: each arm is told its part. Assumes nothing.
use Rattle.claim.proofs.FrameTests.{class_bits_most}
use native.Mathlib.Omega.{arith}
use Rattle.claim.proofs.due.frame_of.Goals as goal

pub overflow_add-values : goal.overflow_add-values
overflow_add-values c = omega (arith, c.class_bits-classes.ensures.value, class_bits_most c.class_count.result)

pub returns-in-Address : goal.returns-in-Address
returns-in-Address c = record { value = rw (c.in-Address.is, c.place.ensures.value, c.registers.ensures.value, c.class_bits-classes.ensures.value, c.class_count.ensures.value) }

pub returns-in-Field : goal.returns-in-Field
returns-in-Field c = record { value = rw (c.in-Field.is, c.place-in-Field.ensures.value, c.class_bits-classes.ensures.value, c.class_count.ensures.value) }

pub returns-in-Static : goal.returns-in-Static
returns-in-Static c = record { value = rw (c.in-Static.is, c.place-in-Static.ensures.value, c.class_bits-classes.ensures.value, c.class_count.ensures.value) }

pub returns-in-Returned : goal.returns-in-Returned
returns-in-Returned c = record { value = rw (c.in-Returned.is, c.place-in-Returned.ensures.value, c.class_bits-classes.ensures.value, c.class_count.ensures.value) }

pub returns-in-Leaving : goal.returns-in-Leaving
returns-in-Leaving c = record { value = rw (c.in-Leaving.is, c.place-in-Leaving.ensures.value, c.class_bits-classes.ensures.value, c.class_count.ensures.value) }
