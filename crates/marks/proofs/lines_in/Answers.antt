-- `marks::lines_in` meets its contract: each arm is told its kind. Assumes nothing.
use Rattle.marks.proofs.lines_in.Goals as goal

pub returns-in-Class : goal.returns-in-Class
returns-in-Class c = record { value = rw (c.in-Class.is, c.class_count.ensures.value) }

pub returns-in-Field : goal.returns-in-Field
returns-in-Field c = record { value = rw (c.in-Field.is, c.field_count.ensures.value) }

pub returns-in-Static : goal.returns-in-Static
returns-in-Static c = record { value = rw (c.in-Static.is, c.static_count.ensures.value) }

pub returns-in-Handler : goal.returns-in-Handler
returns-in-Handler c = record { value = rw (c.in-Handler.is, c.handler_count.ensures.value) }

pub returns-in-Code : goal.returns-in-Code
returns-in-Code c = record { value = rw (c.in-Code.is, c.code_length.ensures.value) }
