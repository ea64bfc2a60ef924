-- `rows::put_state` meets its contract. Assumes nothing.
use Rattle.page.proofs.OnPages.{◌⨾◌}
use Rattle.rows.proofs.put_state.Goals as goal

pub returns : goal.returns
returns c = record { put = c.put_frames.ensures.put ⨾ c.put_objects.ensures.put ⨾ c.put_statics.ensures.put }
