-- The lent slices have as many elements as before. A definition only.
use mathlib.Core.Path.{◌≡◌}
use lib.ListN.{length}
use Rattle.drive.specs.Models.{Lent}

pub record Same (m n : Lent) : Type 0 where
  pub frames : length n.frames ≡ length m.frames
  pub objects : length n.objects ≡ length m.objects
  pub statics : length n.statics ≡ length m.statics
