-- `text::line_at` meets its contract: the laws of a run at a place say each answer. Assumes nothing.
use mathlib.Core.Path.{sym, ◌∙◌}
use mathlib.Core.Bool.{and-false}
use native.Mathlib.Omega.{arith}
use lib.ListN.{length-drop}
use borrow.Author.Tests.{lt-ltb, le-ltb, eq-eqb, ne_eqb}
use Rattle.text.proofs.Lines.{no_text, ended_at, spoiled_at, end_inside}
use Rattle.text.proofs.line_at.Goals.{else-n-text-via-then-n-text+then-text-at-eq10+then-n-ne0+else-n-eq0, else-n-text-via-then-n-text+then-text-at-eq10+else-n-ne0, else-n-text-via-then-n-text+else-text-at-eq10, else-n-text-via-else-n-text}
use Rattle.text.proofs.line_at.Goals as goal

pub returns-then-at-text : goal.returns-then-at-text
returns-then-at-text c = record { line = sym (no_text _ (simp length-drop (omega arith))) }

pub returns-then-n-eq0 : goal.returns-then-n-eq0
returns-then-n-eq0 c =
    let a = c.args in
    record {
      line = sym
          (ended_at a.text.now a.at _ c.run-n.ensures.digits c.if-text-at-eq10.true
          ∙ simp (lt-ltb 0 c.run-n.result (omega arith), eq-eqb _ _ c.if-n-eq0.true));
    }

pub returns-else-n-text : goal.returns-else-n-text
returns-else-n-text c =
    let a = c.args in
    let text = a.text.now in
    elim c.else-n-text.branch [
      | else-n-text-via-then-n-text+then-text-at-eq10+then-n-ne0+else-n-eq0 w ↦ record { line = sym (ended_at text a.at _ c.run-n.ensures.digits w.if-text-at-eq10.true ∙ simp (ne_eqb _ _ w.if-n-eq0.false, and-false)) }
      | else-n-text-via-then-n-text+then-text-at-eq10+else-n-ne0 w ↦ record { line = sym (ended_at text a.at _ c.run-n.ensures.digits w.if-text-at-eq10.true ∙ simp (le-ltb 0 c.run-n.result (omega arith))) }
      | else-n-text-via-then-n-text+else-text-at-eq10 w ↦ record { line = sym (spoiled_at _ _ _ c.run-n.ensures.digits c.if-at-text.false w.if-text-at-eq10.false) }
      | else-n-text-via-else-n-text w ↦ record { line = sym (spoiled_at _ _ _ c.run-n.ensures.digits c.if-at-text.false (λ e. omega (arith, end_inside text _ e))) }
    ]
