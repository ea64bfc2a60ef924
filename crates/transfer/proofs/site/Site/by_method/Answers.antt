-- `transfer::site::Site::by_method` meets its contract. Assumes nothing.
use Prim.Native.Nat.{suc}
use Rattle.std.specs.Prelude.{Some}
use Rattle.flow.specs.Flows.{◌&◌, each, found}
use Rattle.flow.specs.Rules.{carried, argument_into, returned_into, leaving_classes, into_handler, into_leaving}
use Rattle.order.proofs.Raising.{raised_both}
use Rattle.transfer.specs.Transfer.{from_callee}
use Rattle.transfer.proofs.Called.{raised_five, all_arguments}
use Rattle.transfer.specs.Site.{program_of}
use Rattle.transfer.proofs.site.Site.by_method.Goals as goal

pub returns : goal.returns
returns c =
    record {
      raised = λ lq same formed lm lp.
          let a = c.args in
          let s = a.self.now in
          let p = program_of s in
          let q = a.method in
          let on = carried p s.method s.address (suc s.address) in
          let given = found (Some q) (λ callee. each a.count (argument_into p s.method s.address a.register callee)) in
          let back = from_callee p s.method s.address q in
          raised_five on given (returned_into p s.method s.address q)
          (leaving_classes p s.method s.address q (into_handler p s.method s.address))
          (leaving_classes p s.method s.address q (into_leaving p s.method s.address))
          _
          _
          (raised_both on (given & back) _ _ _
          (c.carry-on.ensures.raised formed lm lp)
          (raised_both given back _ _ _
          (all_arguments p s.method s.address q a.count a.register _ _ (c.pass_arguments-given.ensures.raised formed lq same))
          (c.come_back.ensures.raised formed lm lp)));
    }
