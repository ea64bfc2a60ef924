-- `carry::others_carried` meets its contract: where all registers flow, those asked do. Assumes nothing.
use mathlib.Core.Path.{sym, ◌∙◌}
use mathlib.Core.Bool.{Bool, not}
use Prim.Native.Nat.{ℕ}
use lib.Dec.{eqb}
use Rattle.program.specs.Program.{registers}
use Rattle.program.specs.Tables.{program_in}
use Rattle.flow.specs.Claim.{register_at}
use Rattle.flow.specs.Flows.{◌⊆◌, kept}
use Rattle.slots.specs.Layout.{claim_in}
use Rattle.carry.proofs.Rows.{registers_in_lem}
use Rattle.carry.proofs.Tests.{all_asked}
use Rattle.carry.proofs.others_carried.Goals as goal

pub returns-then-row_flows : goal.returns-then-row_flows
returns-then-row_flows c =
    let a = c.args in
    let test : ℕ → Bool = λ r. kept (claim_in a.w.now) (register_at a.m a.pc r ⊆ register_at a.m a.to r) in
    record { value = c.if-row_flows.true ∙ all_asked (registers (program_in a.t.now) a.m) (λ r. not (eqb r a.a)) test (registers_in_lem a.w.now a.m a.pc a.to (sym c.row_flows.ensures.value ∙ c.if-row_flows.true)) }
