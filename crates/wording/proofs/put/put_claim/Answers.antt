-- `wording::put::put_claim` meets its contract. Assumes nothing.
use Rattle.std.proofs.Common.{rules}
use Rattle.page.proofs.OnPages.{◌⨾◌, on_as, lent_back}
use Rattle.program.specs.Tables.{program_in}
use Rattle.slots.specs.Layout.{claim_in}
use Rattle.wording.proofs.Texts.{parts_line}
use Rattle.wording.proofs.put.put_claim.Goals as goal

pub returns : goal.returns
returns c =
    let all = c.put_part.ensures.put ⨾ c.put_part-2.ensures.put ⨾ c.put_part-3.ensures.put ⨾ c.put_part-4.ensures.put ⨾ c.put_part-5.ensures.put in
    let text = on_as all (parts_line (claim_in c.args.w.now) (program_in c.args.t.now)) in
    record { put = lent_back text (search rules); words = search rules }
