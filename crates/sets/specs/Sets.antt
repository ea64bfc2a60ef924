-- Sets of a program's classes, a mask each, in 80 words. Left free by document 01. Definitions only, and none that a reader of the
-- checker's promises has to believe.
--     0 to 59     of each class those at or below it
--     60 to 63    all classes
--     64 to 79    of each method those that lead to it, called by its own name and argument count
use Rattle.std.specs.Prelude.{Bool, true, not, ◌&&◌, List, ℕ, ◌-◌, ltb}
use Rattle.instruction.specs.Word.{pick}
use Rattle.mask.specs.declared.Mask.{Mask}
use Rattle.mask.specs.Mask.{has, bits_where}
use Rattle.program.specs.Lists.{tab}
use Rattle.program.specs.Program.{Program, class_count, method_name, arguments}
use Rattle.search.specs.Search.{below, virtual_callee}
use Rattle.flow.specs.Flows.{some, is_found}

-- class k leads to method q, called by q's own name and argument count
abbrev pub leads : Program → ℕ → ℕ → Bool
leads p q k = is_found (virtual_callee p k (method_name p q) (arguments p q)) q

-- a class in the mask leads to method q, called by this name and argument count
unfoldable pub leads_to : Program → Mask → ℕ → ℕ → ℕ → Bool
leads_to p mask name count q = some (class_count p) (λ k. has mask k && is_found (virtual_callee p k name count) q)

-- a class in the mask is not at or below class k
unfoldable pub fails_cast : Program → Mask → ℕ → Bool
fails_cast p mask k = some (class_count p) (λ j. has mask j && not (below p j k))

-- class k of the program is in set j
unfoldable pub is_in : Program → ℕ → ℕ → Bool
is_in p j k = ltb k (class_count p) && pick (ltb j 60) (below p k j) (pick (ltb j 64) true (leads p (j - 64) k))

-- word j
unfoldable pub set_word : Program → ℕ → ℕ
set_word p j = bits_where 64 (is_in p j)

-- the sets of a program
unfoldable pub sets_of : Program → List ℕ
sets_of p = tab 80 (set_word p)
