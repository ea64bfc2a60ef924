-- `claim::line::put_mask` meets its contract. Assumes nothing.
use mathlib.Core.Path.{refl, sym, ◌∙◌}
use Rattle.claim.proofs.line.put_mask.Goals as goal

pub returns-then-not-subset : goal.returns-then-not-subset
returns-then-not-subset c = record { value = sym c.if-not-subset.true ∙ c.subset.ensures.value; memory = refl }

pub returns : goal.returns
returns c = record { value = sym c.if-not-subset.false ∙ c.subset.ensures.value; memory = c.put.ensures.memory }
