-- `response::stepped::of_run` meets its contract. Assumes nothing.
use Rattle.std.proofs.Common.{ℕ, sym}
use Rattle.std.proofs.lemmas.List.{length-replicate}
use Rattle.response.proofs.Longest.{responded}
use Rattle.response.proofs.stepped.of_run.Goals as goal

pub returns : goal.returns
returns c =
    let start = c.args in
    let there =
    responded start.panel.now start.table.now start.n _ _ _ _ c.step_in-o.result _ _ _ _
    (record {
      frames_lent = sym (length-replicate {A = ℕ} 608 0);
      objects_lent = sym (length-replicate {A = ℕ} 4352 0);
      statics_lent = sym (length-replicate {A = ℕ} 16 0);
      number = c.step_in-o.ensures.answer.0;
      values = c.step_in-o.ensures.answer.1;
      frames = c.step_in-o.ensures.memory.0;
      objects = c.step_in-o.ensures.memory.1;
      statics = c.step_in-o.ensures.memory.2;
      tables = c.step_in-o.ensures.tables;
    })
    c.top_of.result c.place_of-place.result.method c.place_of-place.result.address c.top_of.ensures.value c.place_of-place.ensures.method c.place_of-place.ensures.address
    c.write_run-printed.ensures.bytes c.tell_run-told.ensures.words in
    record {
      bytes = there.0;
      whole = there.1.0;
      words = there.1.1.0;
      all_words = there.1.1.1;
    }
