-- `carry::carried` meets its contract: where all registers flow, those asked do; and a method has at most 255 registers, so that none
-- is left out. Assumes nothing.
use mathlib.Core.Path.{sym, ◌∙◌}
use mathlib.Core.Bool.{Bool}
use mathlib.Core.List.{List}
use Prim.Native.Nat.{ℕ}
use native.Mathlib.Omega.{arith}
use Rattle.mask.proofs.Laws.{every_all}
use Rattle.program.specs.Program.{registers}
use Rattle.program.specs.Tables.{program_in}
use Rattle.flow.specs.Claim.{register_at}
use Rattle.flow.specs.Flows.{◌⊆◌, kept}
use Rattle.slots.specs.Layout.{claim_in}
use Rattle.carry.proofs.Rows.{registers_in_lem}
use Rattle.carry.proofs.Tests.{none_left_out}
use Rattle.carry.proofs.carried.Goals as goal

module _ (ws : List ℕ) (m pc to : ℕ) where
  -- the test of register r
  abbrev test : ℕ → Bool
  test r = kept (claim_in ws) (register_at m pc r ⊆ register_at m to r)

pub returns-then-row_flows : goal.returns-then-row_flows
returns-then-row_flows c =
    let a = c.args in
    record { value = c.if-row_flows.true ∙ sym (every_all (registers (program_in a.t.now) a.m) (test a.w.now a.m a.pc a.to) (λ r l. registers_in_lem a.w.now a.m a.pc a.to (sym c.row_flows.ensures.value ∙ c.if-row_flows.true) r)) }

pub returns-else-row_flows : goal.returns-else-row_flows
returns-else-row_flows c =
    let a = c.args in
    record { value = none_left_out c.carried_except.result (registers (program_in a.t.now) a.m) _ (test a.w.now a.m a.pc a.to) (omega arith) c.carried_except.ensures.value }
