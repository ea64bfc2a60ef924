-- How long a claim's text is, frame by frame, and how long it is at most. Assumes nothing.
use mathlib.Core.Path.{◌≡◌, ◌∙◌}
use mathlib.Core.List.{List, [], ◌∷◌, ◌++◌}
use Prim.Native.Nat.{ℕ, zero, suc, ◌+◌, ◌*◌, ◌<◌, ◌≤◌}
use native.Mathlib.Nat.{mul-le-mul_left}
use native.Mathlib.Omega.{arith}
use lib.ListN.{length, length-append}
use Rattle.instruction.proofs.Flags.{pick_cases}
use Rattle.program.specs.Lists.{joined, tab}
use Rattle.program.specs.Program.{Program, registers}
use Rattle.program.proofs.Lists.{length_tab}
use Rattle.reader.specs.Formed.{Formed}
use Rattle.search.specs.Search.{has_field}
use Rattle.flow.specs.Claim.{Slot, register_at, result_at, field_of, static_of, returned_by, leaving, Claim}
use Rattle.claim.specs.declared.Part.{Part}
use Rattle.claim.specs.declared.Part.TheVariants.{Address, Field, Static, Returned, Leaving}
use Rattle.claim.specs.Frames.{Due, due, outer, inner, frame_at, part_due, frames_due}
use Rattle.wording.specs.ClaimText.{numbers_text, masks_text, frame_text, frames_text, claim_text}
use Rattle.wording.proofs.Lines.{numbers_length, masks_length}

-- ---- frames, one after another
module _ (c : Claim) where
  abbrev pub size : List Due → ℕ
  size ds = length (frames_text c ds)

  pub size_append : (xs ys : List Due) → size (xs ++ ys) ≡ size xs + size ys
  size_append [] ys = omega arith
  size_append (x ∷ xs) ys =
      length-append (frame_text c x) (frames_text c (xs ++ ys))
      ∙ omega (arith, size_append xs ys, length-append (frame_text c x) (frames_text c xs))

  size_joined : (n b : ℕ) (f : ℕ → List Due) → ((i : ℕ) → i < n → size (f i) ≤ b) → size (joined n f) ≤ b * n
  size_joined zero b f h = omega arith
  size_joined (suc n) b f h =
      let rest = size_joined n b (λ i. f (suc i)) (λ i l. h (suc i) (omega arith)) in
      let more : b * suc n ≡ b + b * n = omega arith in
      omega (arith, size_append (f zero) (joined n (λ i. f (suc i))), h zero (omega arith), rest, more)

  -- ---- one frame: its numbers, its masks and the line's end
  pub frame_length : (ns : List ℕ) (ss : List Slot) → size (due ns ss ∷ []) ≡ 2 * length ns + 16 * length ss + 1
  frame_length ns ss =
      length-append (frame_text c (due ns ss)) []
      ∙ omega (
        arith,
        length-append (numbers_text ns ++ masks_text c ss) (10 ∷ []),
        length-append (numbers_text ns) (masks_text c ss),
        numbers_length ns,
        masks_length c ss,
      )

  -- of an address: the masks of its registers and its result
  pub address_length : (p : Program) (m pc : ℕ) → size (frame_at p Address m pc) ≡ 23 + 16 * registers p m
  address_length p m pc =
      let ss = tab (registers p m) (register_at m pc) in
      frame_length (17 ∷ m ∷ pc ∷ []) (ss ++ (result_at m pc ∷ []))
      ∙ omega (arith, length-append ss (result_at m pc ∷ []), length_tab (registers p m) (register_at m pc))

  -- with one mask
  pub one-length : (ns : List ℕ) (s : Slot) → size (due ns (s ∷ []) ∷ []) ≡ 2 * length ns + 17
  one-length ns s = frame_length ns (s ∷ []) ∙ omega arith

  -- ---- the parts
  pub parts_length : (p : Program) → length (claim_text p c)
      ≡ size (part_due p Address) + size (part_due p Field) + size (part_due p Static) + size (part_due p Returned) + size (part_due p Leaving)
  unfolding claim_text frames_due
  parts_length p =
      let fields = part_due p Field in
      let statics = part_due p Static in
      let returned = part_due p Returned in
      let left = part_due p Leaving in
      omega (
        arith,
        size_append (part_due p Address) (fields ++ (statics ++ (returned ++ left))),
        size_append fields (statics ++ (returned ++ left)),
        size_append statics (returned ++ left),
        size_append returned left,
      )

-- ---- of a well-formed program, part by part
module _ (p : Program) (formed : Formed p) (c : Claim) where
  part_size : (k : Part) (b n : ℕ) → ((a i : ℕ) → a < outer p k → i < inner p k a → size c (frame_at p k a i) ≤ b)
      → ((a : ℕ) → a < outer p k → inner p k a ≤ n)
      → size c (part_due p k) ≤ (b * n) * outer p k
  unfolding part_due
  part_size k b n h few =
      size_joined c (outer p k) (b * n) _
      (λ a la. le_then (size_joined c (inner p k a) b (frame_at p k a) (λ i li. h a i la li)) (mul-le-mul_left b (few a la)))
    where
      le_then : {x y z : ℕ} → x ≤ y → y ≤ z → x ≤ z
      le_then e f = omega arith

  address_size : size c (part_due p Address) ≤ 142848
  address_size =
      omega (
        arith,
        formed.limited.methods,
        part_size Address 279 32
            (λ m pc la lb. omega (arith, address_length c p m pc, (formed.methods m la).registers_to))
            (λ m la. formed.limited.code m),
      )

  field_size : size c (part_due p Field) ≤ 22080
  field_size =
      omega (
        arith,
        formed.limited.classes,
        part_size Field 23 16
            (λ k x la lb.
            pick_cases (λ ds. size c ds ≤ 23) (has_field p k x) (due (18 ∷ k ∷ x ∷ []) (field_of k x ∷ []) ∷ []) []
            (λ _. omega (arith, one-length c (18 ∷ k ∷ x ∷ []) (field_of k x))) (λ _. omega arith))
            (λ k la. formed.limited.fields),
      )

  small_size : (k : Part) → outer p k ≤ 16 → ((a i : ℕ) → size c (frame_at p k a i) ≤ 21) → ((a : ℕ) → inner p k a ≤ 1)
      → size c (part_due p k) ≤ 336
  small_size k few h one = omega (arith, part_size k 21 1 (λ a i la li. h a i) (λ a la. one a))

  -- the whole text: 279 bytes of 512 addresses, 23 of 960 fields, 21 of 16 statics and twice of 16 methods
  pub text_most : length (claim_text p c) ≤ 165936
  text_most =
      omega (
        arith,
        address_size,
        field_size,
        small_size Static formed.limited.statics (λ a i. omega (arith, one-length c (19 ∷ a ∷ []) (static_of a))) (λ a. omega arith),
        small_size Returned formed.limited.methods (λ a i. omega (arith, one-length c (20 ∷ a ∷ []) (returned_by a))) (λ a. omega arith),
        small_size Leaving formed.limited.methods (λ a i. omega (arith, one-length c (21 ∷ a ∷ []) (leaving a))) (λ a. omega arith),
        parts_length c p,
      )
