-- `phrases::table` meets its contract: the table is complete by computation. Assumes nothing.
use mathlib.Core.Path.{refl}
use Rattle.words.specs.Words.{has_key, after_key, line_by}
use Rattle.phrases.specs.Complete.{all_fitting, complete}
use Rattle.phrases.proofs.table.Goals as goal

pub returns : goal.returns
unfolding has_key after_key line_by all_fitting complete
returns c = record { complete = refl; length = refl }
