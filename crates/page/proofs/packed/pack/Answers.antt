-- `page::packed::pack` meets its contract: each mask bounds what it leaves, so that no sum wraps. Assumes nothing.
use native.Mathlib.Omega.{arith}
use lib.Bits.{and_le_r}
use Prim.Native.Nat.{◌+◌}
use Rattle.page.proofs.Letters.{nibbles_of, eight_made}
use Rattle.page.proofs.packed.pack.Goals as goal

pub overflow_mul-result : goal.overflow_mul-result
overflow_mul-result c = omega (arith, and_le_r (nibbles_of c.args.n + 434041037028460038) 1157442765409226768)

pub overflow_add-result-2 : goal.overflow_add-result-2
overflow_add-result-2 c = omega (arith, and_le_r (nibbles_of c.args.n + 434041037028460038) 1157442765409226768)

pub returns : goal.returns
returns c = record { value = eight_made c.args.n }
