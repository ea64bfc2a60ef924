-- What is put into a buffer: nothing, one text after another, and a text that fits. Assumes nothing.
use mathlib.Core.Path.{◌≡◌, refl, sym, ap, ◌∙◌}
use mathlib.Core.Bool.{Bool, true, false, cond as pick}
use mathlib.Core.List.{List, [], ◌∷◌, ◌++◌, append_assoc}
use Prim.Native.Nat.{ℕ, suc, ◌+◌, ◌-◌, ◌≤◌, ◌<◌}
use native.Mathlib.Numerals.{add-one}
use native.Mathlib.Nat.{zero-add}
use native.Mathlib.Omega.{arith}
use borrow.Author.Tests.{lt-ltb, le-ltb, le-leb, lt-leb, leb-true}
use borrow.Rule.Slice.PartMut.{put_mid, Post-is}
use lib.Dec.{leb}
use lib.ListN.{length, take, drop, get_or, set, length-set}
use lib.Seq.{sets, sets-eq, set_out, take-suc}
use Rattle.page.specs.Page.{onward, place_after, bytes_after, Put, filled, filled_count}

-- nothing is put
pub put_none : (out : List ℕ) (at : ℕ) → Put out at [] out at
unfolding place_after bytes_after
put_none out at = record { place = refl; bytes = refl }

-- one byte, inside the buffer and past its end
pub put_inside : (out : List ℕ) (at byte : ℕ) → at < length out → Put out at (byte ∷ []) (set out at byte) (at + 1)
unfolding place_after bytes_after
put_inside out at byte h = record { place = rw (lt-ltb at (length out) h); bytes = refl }

pub put_outside : (out : List ℕ) (at byte : ℕ) → length out ≤ at → Put out at (byte ∷ []) out at
unfolding place_after bytes_after
put_outside out at byte h = record { place = rw (le-ltb at (length out) h); bytes = sym (set_out out at byte h) }

-- the buffer keeps its length
bytes_length : (text out : List ℕ) (at : ℕ) → length (bytes_after out at text) ≡ length out
unfolding bytes_after
bytes_length [] out at = refl
bytes_length (b ∷ bs) out at = bytes_length bs (set out at b) (onward (length out) at) ∙ length-set out at b

pub put_length : {out : List ℕ} {at : ℕ} {text after : List ℕ} {next : ℕ} → Put out at text after next → length after ≡ length out
put_length {out} {at} {text} p = ap length p.bytes ∙ bytes_length text out at

-- a text just after another
place_more : (n at : ℕ) (x y : List ℕ) → place_after n (place_after n at x) y ≡ place_after n at (x ++ y)
unfolding place_after
place_more n at [] y = refl
place_more n at (b ∷ bs) y = place_more n (onward n at) bs y

bytes_more : (x y out : List ℕ) (at : ℕ)
    → bytes_after (bytes_after out at x) (place_after (length out) at x) y ≡ bytes_after out at (x ++ y)
unfolding place_after bytes_after
bytes_more [] y out at = refl
bytes_more (b ∷ bs) y out at =
    ap (λ (n : ℕ). bytes_after (bytes_after (set out at b) (onward (length out) at) bs) (place_after n (onward (length out) at) bs) y) (sym (length-set out at b))
    ∙ bytes_more bs y (set out at b) (onward (length out) at)

pub put_then : {out : List ℕ} {at : ℕ} {x a : List ℕ} {i : ℕ} {y b : List ℕ} {j : ℕ} → Put out at x a i → Put a i y b j
    → Put out at (x ++ y) b j
put_then {out} {at} {x} {a} {i} {y} {b} {j} p q =
    record {
      place =
          q.place
          ∙ ap (λ (n : ℕ). place_after n i y) (put_length p)
          ∙ ap (λ (k : ℕ). place_after (length out) k y) p.place
          ∙ place_more (length out) at x y;
      bytes =
          q.bytes
          ∙ ap (λ (l : List ℕ). bytes_after l i y) p.bytes
          ∙ ap (λ (k : ℕ). bytes_after (bytes_after out at x) k y) p.place
          ∙ bytes_more x y out at;
    }

-- a text that is said in another way
pub put_as : {out : List ℕ} {at : ℕ} {x y after : List ℕ} {next : ℕ} → Put out at x after next → x ≡ y → Put out at y after next
put_as p e = rw e at p

-- a next place that is said in another way
pub put_at : {out : List ℕ} {at : ℕ} {text after : List ℕ} {next other : ℕ} → Put out at text after next → next ≡ other
    → Put out at text after other
put_at p e = rw e at p

-- one byte more of a byte string
pub take_more : (bytes : List ℕ) (i : ℕ) → i < length bytes → take i bytes ++ (get_or bytes i 0 ∷ []) ≡ take (i + 1) bytes
take_more bytes i h = sym (ap (λ (n : ℕ). take n bytes) (add-one i) ∙ take-suc bytes i 0 h)

-- a text that fits
fits_place : (n : ℕ) (text : List ℕ) (at : ℕ) → at + length text ≤ n → place_after n at text ≡ at + length text
unfolding place_after
fits_place n [] at h = omega arith
fits_place n (b ∷ bs) at h =
    let inside : at < n = omega arith in
    let next : at + 1 + length bs ≤ n = omega arith in
    rw (lt-ltb at n inside) (fits_place n bs (at + 1) next ∙ omega arith)

fits_sets : (text out : List ℕ) (at : ℕ) → at + length text ≤ length out → bytes_after out at text ≡ sets out at text
unfolding bytes_after
fits_sets [] out at h = refl
fits_sets (b ∷ bs) out at h =
    let inside : at < length out = omega arith in
    let next : suc at + length bs ≤ length (set out at b) = omega (arith, length-set out at b) in
    rw (lt-ltb at (length out) inside, add-one) (fits_sets bs (set out at b) (suc at) next)

-- the same, put in at once
pub put_room : (text out : List ℕ) (at : ℕ) → at + length text ≤ length out
    → Put out at text (put_mid at (at + length text - at) out text) (at + length text)
put_room text out at h =
    record {
      place = sym (fits_place (length out) text at h);
      bytes =
          rw (Post-is at (at + length text) out (omega arith)) (sym (fits_sets text out at h ∙ sets-eq text out at h ∙ append_assoc (take at out) text (drop (at + length text) out)));
    }

-- a text put at the front, whole
module _ {text out after : List ℕ} {n : ℕ} (p : Put out 0 text after n) (h : length text ≤ length out) where
  pub whole : (n ≡ length text) × (after ≡ text ++ drop (length text) out)
  whole =
      let room : 0 + length text ≤ length out = omega arith in (
        p.place ∙ fits_place (length out) text 0 room ∙ zero-add (length text),
        p.bytes ∙ fits_sets text out 0 room ∙ sets-eq text out 0 room ∙ rw zero-add,
      )

  pub front : (n ≡ filled_count text out) × (after ≡ filled text out)
  front = rw (le-leb (length text) (length out) h) whole

-- bytes that do not fit
pub past_end : (text out : List ℕ) → length out < length text → (0 ≡ filled_count text out) × (out ≡ filled text out)
past_end text out h =
    let past : leb (length text) (length out) ≡ false = lt-leb (length text) (length out) h in
    (rw past, rw past)

-- what is filled lies in the buffer
fewer : (t : Bool) (n m : ℕ) → (t ≡ true → n ≤ m) → pick t n 0 ≤ m
fewer true n m h = h refl
fewer false n m h = omega arith

pub count_within : (out text : List ℕ) → filled_count text out ≤ length out
count_within out text = fewer (leb (length text) (length out)) (length text) (length out) (leb-true (length text) (length out))
