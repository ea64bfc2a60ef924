-- `search::method_in` meets its contract: `find` answers the first method that fits. Assumes nothing.
use mathlib.Core.Path.{◌≡◌}
use mathlib.Core.Bool.{true, false}
use Rattle.std.proofs.Common.{rules}
use Rattle.std.proofs.lemmas.Iterator.{first_from_Range}
use Rattle.program.specs.Program.{method_count}
use Rattle.program.specs.Tables.{program_in}
use Rattle.program.proofs.Lists.{first_found}
use Rattle.search.specs.Search.{answers, method_in}
use Rattle.search.proofs.method_in.Goals as goal

pub returns : goal.returns
unfolding method_in
returns c =
    let a = c.args in
    let p = program_in a.t.now in
    let test = answers p a.c a.name a.count in
    record {
      value = first_found (method_count p) test c.find.result
          (rw c.method_count.ensures.value at
          (first_from_Range _ _ _ c.find.result (λ k. test k ≡ true) (λ k. test k ≡ false) c.find.ensures.ran
          (λ x q k. search rules)
          (λ x q k. search rules)));
    }
