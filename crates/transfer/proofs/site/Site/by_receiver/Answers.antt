-- `transfer::site::Site::by_receiver` meets its contract. Assumes nothing.
use Prim.Native.Nat.{suc, ◌-◌}
use Rattle.flow.specs.Flows.{◌&◌, each}
use Rattle.flow.specs.Rules.{carried, receivers, receiver_into, argument_into, returned_into, leaving_classes, into_handler, into_leaving}
use Rattle.order.proofs.Raising.{raised_both}
use Rattle.transfer.proofs.Called.{virtual_raised}
use Rattle.transfer.proofs.Raising.{raised_called}
use Rattle.transfer.specs.Site.{program_of}
use Rattle.transfer.proofs.site.Site.by_receiver.Goals as goal

pub returns : goal.returns
returns c =
    record {
      raised = λ some formed lm lp.
          let a = c.args in
          let s = a.self.now in
          let p = program_of s in
          let m = s.method in
          let pc = s.address in
          let n = a.name in
          let b = a.count in
          let r = a.register in
          let on = carried p m pc (suc pc) in
          let six = receivers p m pc n b r (λ k q. receiver_into p m pc k q & each (b - 1) (λ i. argument_into p m pc r q (suc i))) in
          let seven = receivers p m pc n b r (λ k. returned_into p m pc) in
          let nine = receivers p m pc n b r (λ k q. leaving_classes p m pc q (into_handler p m pc)) in
          let ten = receivers p m pc n b r (λ k q. leaving_classes p m pc q (into_leaving p m pc)) in
          raised_called nine ten _ _ _ _ _ on six seven
          (raised_both on (six & seven & nine & ten) _ _ _
          (c.carry-new.ensures.raised formed lm lp)
          (virtual_raised p m pc n b r _ _
          (rw c.mask-mask.ensures.value at (c.take_callees-called.ensures.raised some formed lm lp))))
          (c.null_used.ensures.raised formed lm);
    }
