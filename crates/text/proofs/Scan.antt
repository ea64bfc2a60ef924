-- The run of digits at a place of a text, one byte at a time. Assumes nothing.
use mathlib.Core.Path.{◌≡◌}
use mathlib.Core.List.{List}
use Prim.Native.Nat.{ℕ, ◌+◌, ◌≤◌, ◌<◌}
use native.Mathlib.Numerals.{add-one}
use native.Mathlib.Omega.{arith}
use lib.ListN.{length, drop, get_or, drop_of_length-le}
use lib.Seq.{drop-cons}
use borrow.Author.Tests.{lt-ltb, le-ltb}
use Rattle.text.specs.Hex.{digit_of}
use Rattle.text.specs.Run.{digit_run}

-- a digit at i: the run at i ends where the one after it does
pub run_more : (s : List ℕ) (i : ℕ) → i < length s → digit_of (get_or s i 0) < 16
    → i + digit_run (drop i s) ≡ i + 1 + digit_run (drop (i + 1) s)
unfolding digit_run
run_more s i l h = rw (drop-cons s i 0 l, lt-ltb _ _ h, add-one i) (omega arith)

-- another byte at i: no run
pub run_stop : (s : List ℕ) (i : ℕ) → i < length s → 16 ≤ digit_of (get_or s i 0) → digit_run (drop i s) ≡ 0
unfolding digit_run
run_stop s i l h = rw (drop-cons s i 0 l, le-ltb _ _ h)

-- the end: no run
pub run_end : (s : List ℕ) (i : ℕ) → length s ≤ i → digit_run (drop i s) ≡ 0
unfolding digit_run
run_end s i h = rw (drop_of_length-le s h)
