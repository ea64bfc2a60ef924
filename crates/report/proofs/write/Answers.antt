-- `report::write` meets its contract. Assumes nothing.
use Rattle.std.proofs.Common.{rules, ◌≤◌, length}
use native.Mathlib.Omega.{arith}
use Rattle.page.proofs.Puts.{front, past_end}
use Rattle.page.proofs.OnPages.{lent_back}
use Rattle.report.specs.Printed.{printed}
use Rattle.report.proofs.write.Goals as goal

pub returns-then-out-size_of : goal.returns-then-out-size_of
returns-then-out-size_of c =
    let a = c.args in
    let past = past_end (printed a.v a.memory.now) a.out.now (omega (arith, c.size_of.ensures.value a.memory.now)) in
    record { count = past.0; memory = past.1 }

pub returns : goal.returns
returns c =
    let fits : length (printed c.args.v c.args.memory.now) ≤ length c.args.out.now = omega (arith, c.size_of.ensures.value c.args.memory.now) in
    let all = front (lent_back c.put_verdict.ensures.put (search rules)) fits in
    record { count = all.0; memory = all.1 }
