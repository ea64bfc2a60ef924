-- `translator::walk::known` meets its contract. Assumes nothing.
use mathlib.Core.Path.{◌≡◌, sym, ◌∙◌}
use lib.ListN.{take}
use Rattle.std.specs.Prelude.{position}
use Rattle.std.proofs.Common.{rules, tests}
use Rattle.std.proofs.lemmas.Iterator.{YieldsList-from_slice}
use Rattle.std.proofs.lemmas.Iterator.Search.{position_from_yields_List}
use Rattle.translator.proofs.KnownStarts.{is_there, found_start, no_start}
use Rattle.translator.proofs.walk.known.Goals as goal

pub returns-in-Some : goal.returns-in-Some
returns-in-Some c =
    let a = c.args in
    let xs = take a.here.address a.starts.now in
    let found : c.position.result ≡ position (is_there a.here a.place) xs =
    position_from_yields_List (is_there a.here a.place) _ _ c.position.result c.position.ensures.ran
    (YieldsList-from_slice _ c.iter.ensures.rest) (λ x b q k. search (rules, tests)) in
    record { value = found_start a.here a.place xs c.in-Some.address (sym found ∙ c.in-Some.is) }

pub returns-in-None : goal.returns-in-None
returns-in-None c =
    let a = c.args in
    let xs = take a.here.address a.starts.now in
    let found : c.position.result ≡ position (is_there a.here a.place) xs =
    position_from_yields_List (is_there a.here a.place) _ _ c.position.result c.position.ensures.ran
    (YieldsList-from_slice _ c.iter.ensures.rest) (λ x b q k. search (rules, tests)) in
    record { value = no_start a.here a.place xs (sym found ∙ c.in-None.is) }
