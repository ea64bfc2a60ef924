-- `page::Page::put` meets its contract. Assumes nothing.
use Rattle.std.proofs.Common.{refl, arith}
use Rattle.page.proofs.Puts.{put_room, take_more}
use Rattle.page.proofs.OnPages.{on_none, ◌⨾◌, on_as}
use Rattle.page.proofs.Page.put.Goals as goal

pub returns-then-bytes-self : goal.returns-then-bytes-self
returns-then-bytes-self c = record {
  put = record { buffer = refl; put = rw c.copy_from_slice.ensures.after (put_room _ _ _ (omega arith)) };
}

pub loop-byte-init : goal.loop-byte-init
loop-byte-init c = on_none _

pub loop-byte-preserved : goal.loop-byte-preserved
loop-byte-preserved c = on_as (c.loop-byte.invariant ⨾ c.byte.ensures.put) (take_more _ _ c.loop-byte-test.true)
