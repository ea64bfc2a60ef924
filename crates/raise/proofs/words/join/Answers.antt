-- `raise::words::join` meets its contract. Assumes nothing.
use mathlib.Core.Path.{◌≡◌, sym}
use native.Mathlib.Omega.{arith}
use lib.ListN.{length}
use Rattle.slots.specs.Named.{slot_of}
use Rattle.raise.proofs.Places.{joined_at}
use Rattle.raise.proofs.words.join.Goals as goal

pub returns-then-i-ge9712 : goal.returns-then-i-ge9712
returns-then-i-ge9712 c = record { joined = λ l. absurd (omega (arith, l, c.place-i.ensures.value)) }

pub returns : goal.returns
returns c =
    record {
      joined = λ l.
          let a = c.args in
          let size : length a.w.now ≡ 9712 = c.told-w in
          joined_at a.w.now c.place-i.result a.mask c.join-all.result size (omega arith) c.join-all.ensures.bits (slot_of a.slot)
          (sym c.place-i.ensures.value);
    }
