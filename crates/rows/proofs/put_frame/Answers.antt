-- `rows::put_frame` meets its contract. Assumes nothing.
use Rattle.rows.proofs.put_frame.Goals as goal

pub returns : goal.returns
returns c = record { put = rw (c.registers-registers.ensures.value, c.word_at-method.ensures.value) at c.put_row.ensures.put }
