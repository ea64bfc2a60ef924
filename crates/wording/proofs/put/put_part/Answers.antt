-- `wording::put::put_part` meets its contract. Assumes nothing.
use Rattle.std.proofs.Common.{◌≡◌, ℕ, List, arith}
use Rattle.page.proofs.OnPages.{on_none, on_as}
use Rattle.program.specs.Tables.{program_in}
use Rattle.slots.specs.Layout.{claim_in}
use Rattle.claim.specs.Frames.{Due, outer}
use Rattle.wording.specs.Inside.{row_due}
use Rattle.wording.proofs.Texts.{frames_more, part_line}
use Rattle.wording.proofs.put.put_part.Goals as goal

pub loop-a-init : goal.loop-a-init
loop-a-init c = on_none _

pub loop-a-preserved : goal.loop-a-preserved
loop-a-preserved c =
    let a = c.args in
    let rows : ℕ → List Due = row_due (program_in a.t.now) a.k in
    frames_more (claim_in a.w.now) rows c.loop-a.a c.loop-a.invariant c.put_row.ensures.put

pub returns : goal.returns
returns c =
    let a = c.args in
    let p = program_in a.t.now in
    let all : c.loop-a.a ≡ outer p a.k = omega arith in
    record { put = on_as c.loop-a.invariant (part_line (claim_in a.w.now) p a.k c.loop-a.a all) }
