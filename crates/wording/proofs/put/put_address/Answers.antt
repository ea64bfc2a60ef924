-- `wording::put::put_address` meets its contract. Assumes nothing.
use Rattle.page.proofs.OnPages.{◌⨾◌, on_as}
use Rattle.program.specs.Tables.{program_in}
use Rattle.slots.specs.Layout.{claim_in}
use Rattle.wording.proofs.Texts.{address_line}
use Rattle.wording.proofs.put.put_address.Goals as goal

pub returns : goal.returns
returns c =
    let a = c.args in
    record {
      put = on_as
          (c.put_numbers.ensures.put
          ⨾ c.put_registers.ensures.put
          ⨾ (rw c.mask.ensures.value at c.put_mask.ensures.put)
          ⨾ c.byte.ensures.put)
          (address_line (claim_in a.w.now) (program_in a.t.now) a.m a.pc);
    }
