-- `translator::put::put_frames` meets its contract. Assumes nothing.
use Rattle.std.proofs.Common.{rules}
use mathlib.Core.Path.{sym, ap}
use native.Mathlib.Omega.{arith}
use borrow.Author.Tests.{lt-ltb, le-ltb}
use Rattle.output.specs.declared.Output.TheVariants.{Written}
use Rattle.page.proofs.Puts.{whole}
use Rattle.page.proofs.OnPages.{lent_back}
use Rattle.translator.proofs.FrameText.{first_length}
use Rattle.translator.proofs.put.put_frames.Goals as goal

pub returns-then-memory-count : goal.returns-then-memory-count
returns-then-memory-count c =
    let a = c.args in
    let size = first_length a.words.now a.count
    (omega (arith, c.requires.0, c.requires.1)) in
    let short = lt-ltb _ _ (rw (← size) at c.if-memory-count.true) in
    record { answer = rw short; memory = rw short }

pub returns : goal.returns
returns c =
    let a = c.args in
    let size = first_length a.words.now a.count
    (omega (arith, c.requires.0, c.requires.1)) in
    let room = rw (← size) at c.if-memory-count.false in
    let fits = le-ltb _ _ room in
    let all = whole (lent_back c.put_lines.ensures.put (search rules)) room in
    record { answer = rw fits (ap Written (sym size)); memory = rw fits all.1 }
