-- Counters of frames and their places in the tables, which the functions of this crate promise one another. Definitions only,
-- and none that a reader of the public promise has to believe.
use Rattle.std.specs.Prelude.{List, ℕ, ◌+◌, ◌*◌, ◌-◌, set}
use Rattle.instruction.specs.Test.{passes}
use Rattle.instruction.specs.Word.{pick}
use Rattle.frame.specs.declared.Kind.{Kind}
use Rattle.frame.specs.declared.Kind.TheVariants.{Class, Field, Static, Header, Handler, Code, Unknown}
use Rattle.frame.specs.declared.Counts.{Counts}
use Rattle.frame.specs.declared.Place.{Place}
use Rattle.frame.specs.declared.Step.{Step}
use Rattle.frame.specs.Frame.{may_stand}

abbrev pub counts : ℕ → ℕ → ℕ → ℕ → ℕ → ℕ → Counts
counts classes fields statics methods code handlers =
    record { classes = classes; fields = fields; statics = statics; methods = methods; code = code; handlers = handlers }

-- the counts with one frame more
abbrev pub counted : Counts → Kind → Counts
counted n Class = counts (n.classes + 1) n.fields n.statics n.methods n.code n.handlers
counted n Field = counts n.classes (n.fields + 1) n.statics n.methods n.code n.handlers
counted n Static = counts n.classes n.fields (n.statics + 1) n.methods n.code n.handlers
counted n Header = counts n.classes n.fields n.statics (n.methods + 1) 0 0
counted n Handler = counts n.classes n.fields n.statics n.methods n.code (n.handlers + 1)
counted n Code = counts n.classes n.fields n.statics n.methods (n.code + 1) n.handlers
counted n Unknown = n

abbrev pub place : ℕ → ℕ → ℕ → Place
place word count value = record { word = word; count = count; value = value }

-- where a frame's fields go, where its count stands, and the new count
abbrev pub place_of : Counts → Kind → Place
place_of n Class = place (4 + n.classes) 0 (n.classes + 1)
place_of n Field = place (64 + n.fields) 1 (n.fields + 1)
place_of n Static = place 2 2 (n.statics + 1)
place_of n Header = place (80 + 3 * n.methods) 3 (n.methods + 1)
place_of n Handler = place (640 + 8 * (n.methods - 1) + n.handlers) (82 + 3 * (n.methods - 1)) (n.handlers + 1)
place_of n Code = place (128 + 32 * (n.methods - 1) + n.code) (81 + 3 * (n.methods - 1)) (n.code + 1)
place_of n Unknown = place 768 768 0

-- the tables with a frame's fields and count written
abbrev pub stored : List ℕ → Place → ℕ → List ℕ
stored ws at w = set (set ws at.word w) at.count at.value

abbrev pub step : ℕ → Counts → Step
step number counts = record { number = number; counts = counts }

-- what a frame of a kind brings after so many: refusal 4, or one frame more, and the tables after it
abbrev pub step_of : Counts → Kind → Step
step_of n k = pick (passes (may_stand n k)) (step 0 (counted n k)) (step 4 n)

abbrev pub tables_with : Counts → Kind → ℕ → List ℕ → List ℕ
tables_with n k w ws = pick (passes (may_stand n k)) (stored ws (place_of n k) w) ws
