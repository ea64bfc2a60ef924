-- `sets::Sets::leading` meets its contract: only methods of the program with the name and the argument count are led to. Assumes nothing.
use Rattle.std.proofs.Common.{◌≡◌, sym, ap, ◌∙◌, Bool, false, ◌&&◌, ℕ, ◌+◌, ◌-◌, ltb, arith}
use Rattle.mask.specs.Mask.{has}
use Rattle.mask.proofs.Laws.{and_false}
use Rattle.program.specs.Program.{class_count}
use Rattle.program.specs.Tables.{program_in}
use Rattle.program.proofs.Read.{classes_limit, methods_limit}
use Rattle.search.specs.Search.{virtual_callee}
use Rattle.flow.specs.Flows.{is_found}
use Rattle.sets.specs.Sets.{leads}
use Rattle.sets.proofs.Words.{leading_in, word_bits, named_leads, unnamed_leads, none_leads}
use Rattle.sets.proofs.Receivers.{swap_first}
use Rattle.sets.proofs.Sets.leading.Goals as goal
use Rattle.sets.proofs.Sets.leading.Goals.{else-q-lt16-via-then-q-lt16+else-is_named, else-q-lt16-via-else-q-lt16}

none : (a b t : Bool) → t ≡ false → false ≡ a && (b && t)
none a b t e = sym (rw (e, and_false b) (and_false a))

pub returns-then-is_named : goal.returns-then-is_named
returns-then-is_named c = record {
  bits = λ k.
      let a = c.args in
      let s = a.self.now in
      let p = program_in s.tables.now in
      let few = classes_limit s.tables.now in
      let same : 64 + a.q - 64 ≡ a.q = omega arith in
      let is-named = sym c.is_named.ensures.value ∙ c.if-is_named.true in
      c.common.ensures.bits k
      ∙ ap (◌&&◌ (has a.mask k))
      (word_bits p few s.words.now s.made (64 + a.q) k (omega arith)
      ∙ sym (leading_in p (64 + a.q) k (omega arith))
      ∙ ap (λ (i : ℕ). ltb k (class_count p) && leads p i k) same
      ∙ ap (◌&&◌ (ltb k (class_count p))) (named_leads p few a.name a.count a.q k is-named))
      ∙ swap_first (has a.mask k) (ltb k (class_count p)) (is_found (virtual_callee p k a.name a.count) a.q);
}

pub returns-else-q-lt16 : goal.returns-else-q-lt16
returns-else-q-lt16 c = record {
  bits = λ k.
      let a = c.args in
      let t = a.self.now.tables.now in
      let p = program_in t in
      let missing : is_found (virtual_callee p k a.name a.count) a.q ≡ false =
      elim c.else-q-lt16.branch [
        | else-q-lt16-via-then-q-lt16+else-is_named w ↦
            unnamed_leads p (classes_limit t) a.name a.count a.q k (sym w.is_named.ensures.value ∙ w.if-is_named.false)
        | else-q-lt16-via-else-q-lt16 w ↦ none_leads p (classes_limit t) (methods_limit t) a.name a.count a.q k (omega (arith, w.if-q-lt16.false))
      ] in
      c.empty.ensures.bits k ∙ none (ltb k (class_count p)) (has a.mask k) _ missing;
}
