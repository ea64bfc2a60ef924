-- `transfer::site::Site::written` meets its contract. Assumes nothing.
use mathlib.Core.Path.{sym}
use native.Mathlib.Omega.{arith}
use Rattle.flow.specs.Claim.{register_at}
use Rattle.slots.specs.Layout.{place_of, claim_in}
use Rattle.raise.proofs.Places.{own_inside, replaced}
use Rattle.transfer.proofs.Replaced.{written_meanwhile}
use Rattle.transfer.specs.Site.{program_of}
use Rattle.transfer.proofs.site.Site.written.Goals as goal

pub returns : goal.returns
returns c =
    record {
      raised = λ f gives formed lm lp la.
          let a = c.args in
          let s = a.self.now in
          let p = program_of s in
          let own = register_at s.method s.address a.a in
          let inside = own_inside p formed own (lm, omega arith, la) in
          let first = replaced a.w.now (place_of own) a.value.bits c.told-w inside in
          let last = replaced c.onward-new.new.w (place_of own) c.mask-own.result.bits c.onward-new.array_long inside in
          let on = c.onward-new.ensures.raised formed lm lp in
          written_meanwhile p formed s.method s.address a.a lm lp la a.value (claim_in a.w.now) _ _ _ f gives
          (rw (c.put.ensures.memory, c.place-place.ensures.value) first)
          on
          (rw (c.put-2.ensures.memory, c.place-place.ensures.value, sym c.mask-own.ensures.value) last);
    }
