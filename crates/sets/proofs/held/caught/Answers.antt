-- `sets::caught` meets its contract: a handler that does not cover the address catches none. Assumes nothing.
use Rattle.std.proofs.Common.{◌≡◌, sym, ap, ◌∙◌, Bool, false, ◌&&◌, ℕ, ltb, arith}
use Rattle.mask.specs.Mask.{has}
use Rattle.mask.proofs.Laws.{and_false}
use Rattle.program.specs.Program.{class_count}
use Rattle.program.specs.Tables.{program_in}
use Rattle.program.proofs.Read.{classes_limit}
use Rattle.search.specs.Search.{below, catches}
use Rattle.search.proofs.Searches.{starts_later, ends_before, class_decides}
use Rattle.sets.proofs.Words.{below_read}
use Rattle.sets.proofs.held.caught.Goals as goal
use Rattle.sets.proofs.held.caught.Goals.{else-handler_from-pc-via-then-handler_from-pc+else-pc-handler_to, else-handler_from-pc-via-else-handler_from-pc}

none : (a b t : Bool) → t ≡ false → false ≡ a && (b && t)
none a b t e = sym (rw (e, and_false b) (and_false a))

pub returns-then-pc-handler_to : goal.returns-then-pc-handler_to
returns-then-pc-handler_to c = record {
  bits = λ made k.
      let a = c.args in
      let p = program_in a.t.now in
      c.common.ensures.bits k
      ∙ ap (◌&&◌ (has a.mask k))
      (below_read p (classes_limit a.t.now) a.s.now made c.below.result c.handler_class.result k c.below.ensures.value
      ∙ ap (λ (i : ℕ). ltb k (class_count p) && below p k i) c.handler_class.ensures.value
      ∙ ap (◌&&◌ (ltb k (class_count p)))
      (sym
      (class_decides p a.m a.pc k a.h (omega (arith, c.handler_from.ensures.value)) (omega (arith, c.handler_to.ensures.value)))));
}

pub returns-else-handler_from-pc : goal.returns-else-handler_from-pc
returns-else-handler_from-pc c = record {
  bits = λ made k.
      let a = c.args in
      let p = program_in a.t.now in
      let missed : catches p a.m a.pc k a.h ≡ false =
      elim c.else-handler_from-pc.branch [
        | else-handler_from-pc-via-then-handler_from-pc+else-pc-handler_to w ↦
            ends_before p a.m a.pc k a.h (omega (arith, c.handler_from.ensures.value, w.if-handler_from-pc.true))
            (omega (arith, w.handler_to.ensures.value, w.if-pc-handler_to.false))
        | else-handler_from-pc-via-else-handler_from-pc w ↦
            starts_later p a.m a.pc k a.h (omega (arith, c.handler_from.ensures.value, w.if-handler_from-pc.false))
      ] in
      c.empty.ensures.bits k ∙ none (has a.mask k) (ltb k (class_count p)) _ missed;
}
