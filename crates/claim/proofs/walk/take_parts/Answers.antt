-- `claim::walk::take_parts` meets its contract. Assumes nothing.
use Rattle.program.specs.Tables.{program_in}
use Rattle.claim.proofs.FrameLists.{parts_taken}
use native.Mathlib.Omega.{arith}
use Rattle.claim.proofs.walk.take_parts.Goals as goal

pub take_part-addresses-requires : goal.take_part-addresses-requires
take_part-addresses-requires c = (omega arith, omega arith)

pub take_part-fields-requires : goal.take_part-fields-requires
take_part-fields-requires c = c.take_part-addresses.ensures.place

pub take_part-statics-requires : goal.take_part-statics-requires
take_part-statics-requires c = c.take_part-fields.ensures.place

pub take_part-returned-requires : goal.take_part-returned-requires
take_part-returned-requires c = c.take_part-statics.ensures.place

pub take_part-requires : goal.take_part-requires
take_part-requires c = c.take_part-returned.ensures.place

pub returns : goal.returns
returns c = record {
  progress = parts_taken (program_in
      c.args.t.now) _ _ _ _
      _ _ c.take_part-addresses.ensures.progress c.take_part-fields.ensures.progress c.take_part-statics.ensures.progress c.take_part-returned.ensures.progress
      c.take_part.ensures.progress;
}
