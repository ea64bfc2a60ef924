-- `rows::put_value` meets its contract. Assumes nothing.
use Rattle.page.proofs.OnPages.{◌⨾◌}
use Rattle.rows.proofs.Values.{number_word, object_word_lem}
use Rattle.rows.proofs.put_value.Goals as goal

pub returns-then-word-lt4294967296 : goal.returns-then-word-lt4294967296
returns-then-word-lt4294967296 c = record {
  put = c.byte.ensures.put ⨾ rw (number_word _ c.if-word-lt4294967296.true) c.eight.ensures.put;
}

pub returns-else-word-lt4294967296 : goal.returns-else-word-lt4294967296
returns-else-word-lt4294967296 c = record {
  put = c.byte.ensures.put
      ⨾ rw (object_word_lem _ c.if-word-lt4294967296.false) (c.byte-else-word-lt4294967296.ensures.put ⨾ c.two.ensures.put);
}
