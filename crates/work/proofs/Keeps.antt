-- What an instruction that stays in its frame does keeps the lent slices' lengths. Assumes nothing.
use mathlib.Core.Path.{◌∙◌}
use mathlib.Core.List.{List}
use Prim.Native.Nat.{ℕ}
use lib.Dec.{eqb}
use lib.ListN.{length-set}
use Rattle.site.specs.declared.Site.{Site}
use Rattle.site.specs.Site.{is_class, leaves_of}
use Rattle.site.specs.Work.{binop_of, branch_of, iget_of, iput_of, sget_of, sput_of, classed_of, plain_of}
use Rattle.drive.specs.Models.{Lent}
use Rattle.drive.proofs.Driver.{Same}
use Rattle.drive.proofs.Keeps.{same_self, pick_keeps}
use Rattle.work.specs.Work.{Working, worked, work_in, wrote_frames, work_on, leave_done, performed}

pub worked_keeps : (w : Working) (t : List ℕ) (m : Lent) (s : Site) → Same m (worked w t m s).memory
unfolding worked
worked_keeps w t m s =
    record {
      frames = length-set (wrote_frames m.frames s.top (work_in w t m s)) s.top _ ∙ length-set m.frames s.top _;
      objects = length-set m.objects (work_in w t m s).object _;
      statics = length-set m.statics (work_in w t m s).fixed _;
    }

pub leave_keeps : (t : List ℕ) (m : Lent) (s : Site) → Same m (leave_done t m s).memory
leave_keeps t m s = same_self m

pub perform_keeps : (t : List ℕ) (m : Lent) (s : Site) → Same m (performed t m s).memory
perform_keeps t m s =
    pick_keeps (eqb s.opcode 5) m _ _ (worked_keeps (work_on binop_of) t m s)
    (pick_keeps (eqb s.opcode 4) m _ _ (worked_keeps (work_on branch_of) t m s)
    (pick_keeps (eqb s.opcode 8) m _ _ (worked_keeps (work_on iget_of) t m s)
    (pick_keeps (eqb s.opcode 9) m _ _ (worked_keeps (work_on iput_of) t m s)
    (pick_keeps (eqb s.opcode 10) m _ _ (worked_keeps (work_on sget_of) t m s)
    (pick_keeps (eqb s.opcode 11) m _ _ (worked_keeps (work_on sput_of) t m s)
    (pick_keeps (leaves_of s) m _ _ (leave_keeps t m s)
    (pick_keeps (is_class s) m _ _ (worked_keeps (work_on classed_of) t m s) (worked_keeps (work_on plain_of) t m s))))))))
