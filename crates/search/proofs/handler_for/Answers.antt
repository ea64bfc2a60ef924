-- `search::handler_for` meets its contract. The loop's invariant: found is the highest number so far that fits. Assumes nothing.
use mathlib.Core.Path.{◌≡◌, sym, ap, ◌∙◌}
use Prim.Native.Nat.{ℕ, suc}
use Rattle.std.proofs.Common.{add-one}
use native.Mathlib.Omega.{arith}
use Rattle.program.specs.Lists.{last}
use Rattle.program.specs.Program.{handler_count}
use Rattle.program.specs.Tables.{program_in}
use Rattle.search.specs.Search.{catches, handler_for}
use Rattle.search.proofs.Searches.{handler_fits, handler_passed}
use Rattle.search.proofs.handler_for.Goals.{then-catches, else-catches}
use Rattle.search.proofs.handler_for.Goals as goal

pub loop-h-preserved : goal.loop-h-preserved
loop-h-preserved c =
    let a = c.args in
    let p = program_in a.t.now in
    let next : c.if-catches.found ≡ last (suc c.loop-h.h) (catches p a.m a.pc a.c) =
    elim c.if-catches.branch [
      | then-catches w ↦ w.found-is ∙ sym (handler_fits p a.m a.pc a.c c.loop-h.h (rw c.catches.ensures.value at w.if-catches.true))
      | else-catches w ↦
          w.found-is ∙ c.loop-h.invariant
          ∙ sym (handler_passed p a.m a.pc a.c c.loop-h.h (rw c.catches.ensures.value at w.if-catches.false))
    ] in
    next ∙ ap (λ (k : ℕ). last k (catches p a.m a.pc a.c)) (sym (add-one c.loop-h.h))

pub returns : goal.returns
unfolding handler_for
returns c =
    let a = c.args in
    let p = program_in a.t.now in
    let all : c.loop-h.h ≡ handler_count p a.m = omega (arith, c.handler_count-h-end.ensures.value) in
    record { value = c.loop-h.invariant ∙ ap (λ (k : ℕ). last k (catches p a.m a.pc a.c)) all }
