-- `carry::carried_except` meets its contract. Assumes nothing.
use Rattle.std.proofs.Common.{ap, rules, tests, ◌≡◌, ◌∙◌, Bool, true, false, not, ◌||◌, refl, nat_eq}
use Rattle.mask.proofs.Laws.{every_same}
use Rattle.program.specs.Program.{registers}
use Rattle.program.specs.Tables.{program_in}
use Rattle.flow.specs.Claim.{register_at}
use Rattle.flow.specs.Flows.{◌⊆◌, kept}
use Rattle.flow.proofs.Ranges.{all_below}
use Rattle.slots.specs.Layout.{claim_in}
use Rattle.carry.proofs.carried_except.Goals as goal

twice : (a b : Bool) → a || b ≡ not (not a) || b
twice true b = refl
twice false b = refl

pub returns : goal.returns
returns c =
    let a = c.args in
    record {
      value = all_below (λ r. nat_eq r a.a || kept (claim_in a.w.now) (register_at a.m a.pc r ⊆ register_at a.m a.to r)) _ _ _ c.all.result
          (ap (λ n. record { start = 0; end = n }) c.registers-n.ensures.value)
          (λ x b q k. search (rules, tests))
          c.all.ensures.ran
          ∙ every_same (registers (program_in a.t.now) a.m) _ _ (λ r l. twice (nat_eq r a.a) _);
    }
