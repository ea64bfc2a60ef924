-- `claim::walk::take_at` meets its contract. Assumes nothing.
use mathlib.Core.Path.{sym, ◌∙◌}
use Rattle.program.specs.Tables.{program_in}
use Rattle.claim.specs.Inside.{progress_of}
use Rattle.claim.proofs.FrameLists.{frame_there, frame_none}
use Rattle.claim.proofs.walk.take_at.Goals as goal

pub take_frame-requires : goal.take_frame-requires
take_frame-requires c = c.requires

pub returns-then-present : goal.returns-then-present
returns-then-present c =
    let a = c.args in
    record {
      place = c.take_frame.ensures.place;
      progress = c.take_frame.ensures.progress ∙ sym
          (frame_there (program_in a.t.now) a.k a.a a.b c.present.result c.present.ensures.value
          (progress_of a.text.now a.from a.w.now) c.if-present.true);
    }

pub returns : goal.returns
returns c = let a = c.args in
    record {
      place = c.requires;
      progress = sym (frame_none (program_in a.t.now) a.k a.a a.b c.present.result
          c.present.ensures.value (progress_of a.text.now a.from a.w.now) c.if-present.false);
    }
