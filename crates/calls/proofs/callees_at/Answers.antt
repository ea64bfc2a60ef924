-- `calls::callees_at` meets its contract: a virtual call, a static one, or no call. Assumes nothing.
use mathlib.Core.Path.{sym, ap, ◌∙◌}
use Rattle.mask.specs.declared.Mask.{Mask}
use Rattle.program.specs.Tables.{program_in}
use Rattle.slots.specs.Layout.{claim_in}
use Rattle.sets.specs.Sets.{leads_to}
use Rattle.calls.proofs.Callees.{one_bit, virtual_called, static_called, other_called}
use Rattle.calls.proofs.callees_at.Goals as goal

pub returns-in-InvokeVirtual : goal.returns-in-InvokeVirtual
returns-in-InvokeVirtual c = record {
  callees = λ q l.
      let a = c.args in
      let p = program_in a.s.now.tables.now in
      let e = sym c.instruction_at.ensures.value ∙ c.in-InvokeVirtual.is in
      c.led_to.ensures.callees q
      ∙ ap (λ (k : Mask). leads_to p k c.in-InvokeVirtual.name c.in-InvokeVirtual.count q) c.mask-mask.ensures.value
      ∙ sym (virtual_called p (claim_in a.w.now) a.m a.pc q _ _ _ e);
}

pub returns-in-InvokeStatic : goal.returns-in-InvokeStatic
returns-in-InvokeStatic c = record {
  callees = λ q l.
      let a = c.args in
      let p = program_in a.s.now.tables.now in
      let e = sym c.instruction_at.ensures.value ∙ c.in-InvokeStatic.is in
      one_bit _ _ q c.of.ensures.bits l ∙ sym (static_called p (claim_in a.w.now) a.m a.pc q _ _ _ e);
}

pub returns-in_default : goal.returns-in_default
returns-in_default c = record {
  callees = λ q l.
      let a = c.args in
      let p = program_in a.s.now.tables.now in
      c.empty.ensures.bits q ∙ sym (other_called p (claim_in a.w.now) a.m a.pc q _ (sym c.instruction_at.ensures.value) (c.in_default.not-InvokeVirtual, c.in_default.not-InvokeStatic));
}
