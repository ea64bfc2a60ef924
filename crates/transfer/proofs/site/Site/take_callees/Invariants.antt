-- `transfer::site::Site::take_callees`: what its loops keep.
use Prim.Native.Nat.{suc, ◌<◌}
use Rattle.flow.specs.Flows.{each}
use Rattle.slots.specs.Layout.{claim_in}
use Rattle.raise.specs.Raises.{Flowing}
use Rattle.transfer.specs.Transfer.{called_from}
use Rattle.transfer.specs.Site.{program_of}
use Rattle.transfer.proofs.site.Site.take_callees.Given as goal

-- the methods before the next are called by the classes that lead there
abbrev pub invariant-loop-q : goal.invariant-loop-q
invariant-loop-q l =
    let p = program_of l.self in
    let m = l.self.method in
    let pc = l.self.address in
    0 < l.count → Flowing p m (suc pc) (each l.q (called_from p m pc l.mask l.name l.count l.register)) (claim_in l.initial.w) (claim_in l.w)
