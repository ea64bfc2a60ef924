-- What `Coverage` says, taken apart to single values, for the program and the masks that the texts are read to and for every n: a record
-- that says less refuses these. Assumes nothing.
use mathlib.Core.Path.{◌≡◌, sym, ◌∙◌}
use mathlib.Core.Bool.{true}
use mathlib.Core.List.{List, Memᴰ}
use Prim.Native.Nat.{ℕ, ◌<◌}
use lib.ListN.{length, get_or}
use Rattle.program.specs.Program.{Program, registers}
use Rattle.search.specs.Search.{has_field}
use Rattle.reader.specs.Read.{taken, read_program}
use Rattle.machine.specs.declared.Value.TheVariants.{Reference}
use Rattle.machine.specs.State.{Frame, no_frame, register, object_at, cell, static}
use Rattle.machine.specs.Run.{run}
use Rattle.machine.specs.History.{Made, Left, calls, leavings}
use Rattle.flow.specs.Claim.{register_at, result_at, field_of, static_of, leaving, LiesIn}
use Rattle.flow.specs.Covered.{Covered}
use Rattle.flow.proofs.Says as flow
use Rattle.slots.specs.Layout.{claim_in}
use Rattle.claim.specs.ReadClaim.{taken as claim_taken, read_claim}
use Rattle.checker.specs.Coverage.{Coverage}

module _ (program claim : List ℕ) (list : List Made) (p : Program) (masks : List ℕ) (read : read_program program ≡ taken p)
    (claimed : read_claim p claim ≡ claim_taken masks) (h : Coverage program claim list) (n : ℕ) where
  -- the program and the masks are those that the texts are read to
  pub same_run : Covered p (claim_in masks) list n
  same_run =
      let e : taken h.p ≡ taken p = sym h.program_read ∙ read in
      let q : h.p ≡ p = cc in
      let c : read_claim p claim ≡ claim_taken h.masks = rw q at h.claim_read in
      let d : claim_taken h.masks ≡ claim_taken masks = sym c ∙ claimed in
      let m : h.masks ≡ masks = cc in
      rw (q, m) at (h.covered n)

  -- frame i from the top, after n steps
  abbrev frame : ℕ → Frame
  frame i = get_or (run p n).frames i no_frame

  pub each_register : (i r : ℕ) → i < length (run p n).frames → r < registers p (frame i).method
      → LiesIn (run p n).objects (register (frame i) r) (claim_in masks (register_at (frame i).method (frame i).address r))
  each_register = flow.each_register p n (claim_in masks) list same_run

  pub each_result : (i : ℕ) → i < length (run p n).frames
      → LiesIn (run p n).objects (frame i).result (claim_in masks (result_at (frame i).method (frame i).address))
  each_result = flow.each_result p n (claim_in masks) list same_run

  pub each_field : (o x : ℕ) → o < length (run p n).objects → has_field p (object_at (run p n) o).class x ≡ true
      → LiesIn (run p n).objects (cell (run p n) o x) (claim_in masks (field_of (object_at (run p n) o).class x))
  each_field = flow.each_field p n (claim_in masks) list same_run

  pub each_static : (x : ℕ) → x < p.statics → LiesIn (run p n).objects (static (run p n) x) (claim_in masks (static_of x))
  each_static = flow.each_static p n (claim_in masks) list same_run

  pub each_call : (i : ℕ) (none : Made) → i < length (calls p n) → Memᴰ (get_or (calls p n) i none) list
  each_call = flow.each_call p n (claim_in masks) list same_run

  pub each_leaving : (i : ℕ) (none : Left) → i < length (leavings p n)
      → LiesIn (run p n).objects (Reference (get_or (leavings p n) i none).object)
      (claim_in masks (leaving (get_or (leavings p n) i none).method))
  each_leaving = flow.each_leaving p n (claim_in masks) list same_run
