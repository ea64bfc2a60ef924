-- How long the frames are that inner functions add up, and how many there are at most. Assumes nothing.
use mathlib.Core.Path.{◌≡◌, sym, ap, ◌∙◌}
use mathlib.Core.Bool.{true, false}
use mathlib.Core.List.{List, [], ◌∷◌}
use Prim.Native.Nat.{ℕ, ◌+◌, ◌*◌, ◌≤◌}
use native.Mathlib.Numerals.{add-one}
use native.Mathlib.Omega.{arith}
use lib.ListN.{length}
use Rattle.program.specs.Lists.{joined}
use Rattle.program.specs.Program.{Program, registers}
use Rattle.program.specs.Tables.{program_in}
use Rattle.program.proofs.Joined.{joined_more}
use Rattle.flow.specs.Claim.{field_of, static_of, returned_by, leaving, Claim}
use Rattle.calls.proofs.Limits.{in_limits}
use Rattle.claim.specs.declared.Part.{Part}
use Rattle.claim.specs.declared.Part.TheVariants.{Address, Field, Static, Returned, Leaving}
use Rattle.claim.specs.Frames.{Due, outer, inner, frame_at, part_due}
use Rattle.claim.specs.Inside.{present, due_at, frame_of}
use Rattle.claim.proofs.DueFrames.{frame_present}
use Rattle.wording.specs.ClaimText.{claim_text}
use Rattle.wording.specs.Inside.{row_due}
use Rattle.wording.proofs.Sizes.{size, size_append, address_length, one-length, parts_length}
use Rattle.wording.proofs.Texts.{part_line}

-- ---- one frame
abbrev frame_size : Program → Part → ℕ → ℕ → ℕ
frame_size p k a b = (frame_of p k a b).head + 16 * ((frame_of p k a b).registers + 1) + 1

due_size : (c : Claim) (p : Program) (k : Part) (a b : ℕ) → size c (due_at p k a b ∷ []) ≡ frame_size p k a b
due_size c p Address m pc = address_length c p m pc ∙ omega arith
due_size c p Field k x = one-length c (18 ∷ k ∷ x ∷ []) (field_of k x)
due_size c p Static x i = one-length c (19 ∷ x ∷ []) (static_of x)
due_size c p Returned m i = one-length c (20 ∷ m ∷ []) (returned_by m)
due_size c p Leaving m i = one-length c (21 ∷ m ∷ []) (leaving m)

pub frame_size_lem : (c : Claim) (p : Program) (k : Part) (a b : ℕ) → present p k a b ≡ true
    → frame_size p k a b ≡ size c (frame_at p k a b)
frame_size_lem c p k a b e = sym (rw (frame_present p k a b, e) (due_size c p k a b))

pub no_frame_lem : (c : Claim) (p : Program) (k : Part) (a b : ℕ) → present p k a b ≡ false → 0 ≡ size c (frame_at p k a b)
no_frame_lem c p k a b e = sym (rw (frame_present p k a b, e))

registers_few : (p : Program) (m : ℕ) → registers p m ≤ 255
registers_few p m = omega arith

pub frame_few : (p : Program) (k : Part) (a b : ℕ) → ((frame_of p k a b).head ≤ 6) × ((frame_of p k a b).registers ≤ 255)
frame_few p Address m pc = (omega arith, registers_few p m)
frame_few p Field k x = (omega arith, omega arith)
frame_few p Static x i = (omega arith, omega arith)
frame_few p Returned m i = (omega arith, omega arith)
frame_few p Leaving m i = (omega arith, omega arith)

-- ---- one more
pub size_more : (c : Claim) (f : ℕ → List Due) (n s r : ℕ) → s ≡ size c (joined n f) → r ≡ size c (f n) → s + r ≡ size c (joined (n + 1) f)
size_more c f n s r e g =
    rw (add-one n) (rw (e, g) (sym (ap (size c) (joined_more n f) ∙ size_append c (joined n f) (f n))))

-- ---- how far numbers go
pub inner_few : (t : List ℕ) (k : Part) (a : ℕ) → inner (program_in t) k a ≤ 32
inner_few t Address a = (in_limits t).code a
inner_few t Field a = omega (arith, (in_limits t).fields)
inner_few t Static a = omega arith
inner_few t Returned a = omega arith
inner_few t Leaving a = omega arith

pub outer_few : (t : List ℕ) (k : Part) → outer (program_in t) k ≤ 60
outer_few t Address = omega (arith, (in_limits t).methods)
outer_few t Field = (in_limits t).classes
outer_few t Static = omega (arith, (in_limits t).statics)
outer_few t Returned = omega (arith, (in_limits t).methods)
outer_few t Leaving = omega (arith, (in_limits t).methods)

-- ---- a part by its rows
pub part_rows : (c : Claim) (p : Program) (k : Part) (n : ℕ) → n ≡ outer p k → size c (joined n (row_due p k)) ≡ size c (part_due p k)
part_rows c p k n e = ap length (part_line c p k n e)

-- ---- all parts
pub parts_size : (c : Claim) (p : Program) (a b d e f : ℕ) → a ≡ size c (part_due p Address) → b ≡ size c (part_due p Field)
    → d ≡ size c (part_due p Static)
    → e ≡ size c (part_due p Returned)
    → f ≡ size c (part_due p Leaving)
    → a + b + d + e + f ≡ length (claim_text p c)
parts_size c p a b d e f qa qb qd qe qf = omega (arith, qa, qb, qd, qe, qf, parts_length c p)
