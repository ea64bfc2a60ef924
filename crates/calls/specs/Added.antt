-- Calls that are added to those at the front of lent memory. Definitions only.
use Rattle.std.specs.Prelude.{◌≡◌, List, ◌+◌, ◌*◌, length}
use Rattle.machine.specs.History.{Made}
use Rattle.calls.specs.declared.CallList.{CallList}
use Rattle.calls.specs.Bytes.{put_calls}

-- the same memory, with the calls written after those before
pub record Adds (before : CallList) (calls : List Made) (after : CallList) : Type 0 where
  pub buffer : after.memory.ghost_name ≡ before.memory.ghost_name
  pub count : after.count ≡ before.count + length calls
  pub bytes : after.memory.now ≡ put_calls calls (3 * before.count) before.memory.now
