-- `marks::mark_at` meets its contract: each arm is told its kind. Assumes nothing.
use Rattle.values.specs.Values.{value_mark}
use Rattle.marks.proofs.mark_at.Goals as goal

pub returns-in-Class : goal.returns-in-Class
unfolding value_mark
returns-in-Class c = record { value = rw (c.in-Class.is, c.value_mark.ensures.value, c.class_fits.ensures.value) }

pub returns-in-Field : goal.returns-in-Field
unfolding value_mark
returns-in-Field c = record { value = rw (c.in-Field.is, c.value_mark-in-Field.ensures.value, c.field_fits.ensures.value) }

pub returns-in-Header : goal.returns-in-Header
unfolding value_mark
returns-in-Header c = record { value = rw (c.in-Header.is, c.value_mark-in-Header.ensures.value, c.method_fits.ensures.value) }

pub returns-in-Handler : goal.returns-in-Handler
unfolding value_mark
returns-in-Handler c = record {
  value = rw (
    c.in-Handler.is,
    c.value_mark-in-Handler.ensures.value,
    c.handler_fits.ensures.value,
    c.from_last-h.ensures.value,
    c.handler_count.ensures.value,
  );
}

pub returns-in-Code : goal.returns-in-Code
returns-in-Code c = record { value = rw (c.in-Code.is, c.instruction_mark.ensures.value) }
