-- `response::written::of_panel` meets its contract. Assumes nothing.
use Rattle.std.proofs.Common.{sym, ◌∙◌}
use Rattle.response.proofs.Panels.{text_responded, refusal_responded, short_responded}
use Rattle.response.proofs.written.of_panel.Goals as goal

pub returns-in-Written : goal.returns-in-Written
returns-in-Written c =
    let start = c.args in
    let w = c.write_claim.ensures in
    let is = c.in-Written.is in
    let there =
    text_responded start.panel.now start.table.now start.out.now start.line.now _ _ (sym is ∙ w.answer) w.memory (w.least _ is) in
    record {
      count = there.0;
      bytes = there.1.0;
      whole = there.1.1.0;
      words = there.1.1.1.0;
      all_words = there.1.1.1.1.0;
      least = there.1.1.1.1.1;
    }

pub returns-in-Refused : goal.returns-in-Refused
returns-in-Refused c =
    let start = c.args in
    let w = c.write_claim.ensures in
    let is = c.in-Refused.is in
    let r = c.refuse.ensures in
    let there =
    refusal_responded start.panel.now start.table.now start.out.now start.line.now _ _ _ (sym is ∙ w.answer) w.memory _ _ _ _
    (r.count, (r.bytes, r.words)) in
    record {
      count = there.0;
      bytes = there.1.0;
      whole = there.1.1.0;
      words = there.1.1.1.0;
      all_words = there.1.1.1.1.0;
      least = there.1.1.1.1.1;
    }

pub returns-in-Short : goal.returns-in-Short
returns-in-Short c =
    let start = c.args in
    let w = c.write_claim.ensures in
    let is = c.in-Short.is in
    let r = c.refuse-in-Short.ensures in
    let there =
    short_responded start.panel.now start.table.now start.out.now start.line.now _ (sym is ∙ w.answer) w.memory _ _ _ _
    (r.count, (r.bytes, r.words)) in
    record {
      count = there.0;
      bytes = there.1.0;
      whole = there.1.1.0;
      words = there.1.1.1.0;
      all_words = there.1.1.1.1.0;
      least = there.1.1.1.1.1;
    }
