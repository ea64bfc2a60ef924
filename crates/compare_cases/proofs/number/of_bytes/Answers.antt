-- `compare_cases::number::of_bytes` meets its contract. The invariant: what is left says, after n, what all bytes say. Assumes nothing.
use Rattle.std.proofs.Common.{◌≡◌, ℕ, ◌+◌, ◌*◌, ◌%◌, ◌<◌, ◌≤◌, List, length, get_or, drop, sym, ◌∙◌, add-one, rules, drop_of_length-le, drop-cons}
use Rattle.compare_cases.specs.Records.{bytes_from}
use Rattle.compare_cases.proofs.number.of_bytes.Goals as goal

-- one byte more, and none
one_more_lem : (bytes : List ℕ) (n i : ℕ) → i < length bytes
    → bytes_from n (drop i bytes) ≡ bytes_from (n % 72057594037927936 * 256 + get_or bytes i 0) (drop (i + 1) bytes)
unfolding bytes_from
one_more_lem bytes n i l = rw (drop-cons bytes i 0 l, add-one i)

at_end : (bytes : List ℕ) (n i : ℕ) → length bytes ≤ i → bytes_from n (drop i bytes) ≡ n
unfolding bytes_from
at_end bytes n i l = rw (drop_of_length-le bytes {i = i} l)

pub loop-b-preserved : goal.loop-b-preserved
loop-b-preserved c =
    let bytes = c.args.bytes.now in
    c.loop-b.invariant ∙ one_more_lem bytes c.loop-b.n c.loop-b.b-index (search rules)

pub returns : goal.returns
returns c = record { value = sym (c.loop-b.invariant ∙ at_end c.args.bytes.now c.loop-b.n c.loop-b.b-index (search rules)) }
