-- `command::count_of` meets its contract. Assumes nothing.
use mathlib.Core.Path.{sym, ◌∙◌}
use Rattle.std.proofs.Common.{rules}
use Rattle.command.proofs.Counts.{digit_more, digit_none, digits_end, count_is}
use Rattle.command.proofs.count_of.Goals as goal

pub returns-then-not-is_ascii_digit : goal.returns-then-not-is_ascii_digit
returns-then-not-is_ascii_digit c =
    let word = c.args.word.now in
    record {
      value = sym (digit_none word c.loop-b.b-index c.loop-b.n (search rules) (sym c.is_ascii_digit.ensures.value ∙ c.if-not-is_ascii_digit.true))
          ∙ c.loop-b.invariant.1
          ∙ count_is word (search rules);
    }

pub loop-b-preserved : goal.loop-b-preserved
loop-b-preserved c =
    let word = c.args.word.now in (
      search rules,
      rw c.min-n.ensures
          (sym (digit_more word c.loop-b.b-index c.loop-b.n (search rules) (sym c.is_ascii_digit.ensures.value ∙ c.if-not-is_ascii_digit.false)) ∙ c.loop-b.invariant.1),
    )

pub returns : goal.returns
returns c =
    let word = c.args.word.now in
    record {
      value = sym (digits_end word c.loop-b.b-index c.loop-b.n c.loop-b.invariant.0 (search rules))
          ∙ c.loop-b.invariant.1
          ∙ count_is word (search rules);
    }
