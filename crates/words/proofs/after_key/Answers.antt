-- `words::after_key` meets its contract. Assumes nothing.
use Rattle.std.proofs.Common.{◌≡◌, ◌∙◌, List, ℕ, ◌-◌, take, drop, length, length-drop, arith}
use lib.Seq.{take_all}
use Rattle.words.proofs.Entries.{entry_here, entry_later, entry_none}
use Rattle.words.proofs.after_key.Goals as goal

-- a slice to the end of a table
rest : (table : List ℕ) (i : ℕ) → take (length table - i) (drop i table) ≡ drop i table
rest table i = take_all (length table - i) (drop i table) (omega (arith, length-drop i table))

pub returns-in-Some : goal.returns-in-Some
returns-in-Some c =
    let found = rw (rest c.args.table.now c.loop-i.i) at c.in-Some.ensures.cases in
    record { value = found.1 ∙ entry_here _ _ _ found.0 ∙ c.loop-i.invariant }

pub loop-i-preserved : goal.loop-i-preserved
loop-i-preserved c =
    let missed = rw (rest c.args.table.now c.loop-i.i) at c.in_default.ensures.cases in
    entry_later _ _ c.args.table.now c.loop-i.i missed ∙ c.loop-i.invariant

pub returns : goal.returns
returns c = record { value = entry_none _ _ c.args.table.now c.loop-i.i c.loop-i-test.false ∙ c.loop-i.invariant }
