-- What a step comes to in lent slices that does not stay in its frame. Nothing here needs to be believed to read a promise of
-- the stepper. Definitions only.
use Rattle.std.specs.Prelude.{Bool, ℕ, ◌+◌, ◌-◌, ◌%◌, eqb, ltb, leb, Option, Some, None}
use Rattle.instruction.specs.Word.{pick}
use Rattle.program.specs.Program.{Program, registers, arguments, code_length, handler_target}
use Rattle.search.specs.Search.{handler_for}
use Rattle.machine.specs.declared.Effect.{Effect}
use Rattle.machine.specs.declared.Effect.TheVariants as effect
use Rattle.machine.specs.declared.Value as machine
use Rattle.machine.specs.State.{null}
use Rattle.cells.specs.declared.Value.{Value}
use Rattle.cells.specs.Cells.{value_of, zero_value}
use Rattle.cells.specs.Reads.{reference_of, cell_in}
use Rattle.site.specs.Work.{nowhere}
use Rattle.turn.specs.declared.Status.{Status}
use Rattle.turn.specs.declared.Status.TheVariants.{Running, Raised, Done, Uncaught, Failed}
use Rattle.turn.specs.declared.Tally.{Tally}
use Rattle.shift.specs.declared.At.{At}
use Rattle.shift.specs.declared.Pass.{Pass}
use Rattle.shift.specs.declared.Run.{Run}
use Rattle.shift.specs.declared.Shift.{Shift}
use Rattle.shift.specs.declared.Stop.{Stop}
use Rattle.shift.specs.declared.Stop.TheVariants as stop
use Rattle.shift.specs.Places.{top_of, below_of, next_left}

-- ---- runs: a step is made, or cannot be

abbrev pub tallied : ℕ → ℕ → Status → Tally
tallied depth made status = record { depth = depth; made = made; status = status }

abbrev pub counted : Run → Tally → Run
counted k t = record { left = next_left k.left; tally = t; stop = k.stop }

abbrev pub stopped : Run → Stop → Run
stopped k e = record { left = k.left; tally = k.tally; stop = Some e }

abbrev pub with_status : Run → Status → Run
with_status k e = counted k (tallied k.tally.depth k.tally.made e)

-- the top frame is left, with one status if it was the last and another if not
abbrev pub leaving : Run → Status → Status → Run
leaving k last other =
    counted k
    (pick (ltb 1 k.tally.depth) (tallied (k.tally.depth - 1) k.tally.made other)
    (tallied 0 k.tally.made last))

-- ---- what is written

abbrev pub no_pass : Pass
no_pass = record { from = 0; to = 0; count = 0; top = 0; above = 0 }

-- nothing
abbrev pub only : Run → Shift
only k =
    record {
      popped = nowhere;
      resumed = nowhere;
      value = zero_value;
      moved = nowhere;
      next = 0;
      made = nowhere;
      class = 0;
      wrote = nowhere;
      to = 16;
      pass = no_pass;
      entered = nowhere;
      method = 0;
      run = k;
    }

-- one object more, of class k: the frame at a place goes one on, and its register `to` refers to the object
abbrev pub one_more : At → ℕ → ℕ → ℕ → Status → Shift
one_more h k place to status =
    record {
      popped = nowhere;
      resumed = nowhere;
      value = reference_of h.run.tally.made;
      moved = place;
      next = h.pc + 1;
      made = h.run.tally.made;
      class = k;
      wrote = place;
      to = to;
      pass = no_pass;
      entered = nowhere;
      method = 0;
      run = counted h.run (tallied h.run.tally.depth (h.run.tally.made + 1) status);
    }

-- unless 256 are
abbrev pub grown_by : At → ℕ → ℕ → ℕ → Status → Shift
grown_by h k place to status =
    pick (ltb h.run.tally.made 256) (one_more h k place to status) (only (stopped h.run stop.Store))

-- new-instance: register a of the top frame refers to it
abbrev pub made_by : At → ℕ → ℕ → Shift
made_by h a k = grown_by h k (top_of h.run.tally.depth) a h.run.tally.status

-- it is pending, and no frame changes
abbrev pub raised_new_by : At → ℕ → Shift
raised_new_by h k = grown_by h k nowhere 16 (Raised h.run.tally.made)

-- a frame of method m is opened, unless 32 are; its arguments stand in registers from c on
abbrev pub skipped_of : Program → ℕ → ℕ
skipped_of p m = registers p m - arguments p m

abbrev pub pass_to : Program → At → ℕ → ℕ → Pass
pass_to p h m c =
    record {
      from = c;
      to = skipped_of p m;
      count = arguments p m;
      top = top_of h.run.tally.depth;
      above = h.run.tally.depth;
    }

abbrev pub called_by : Program → At → ℕ → ℕ → Shift
called_by p h m c =
    pick (ltb h.run.tally.depth 32)
    (record {
      popped = nowhere;
      resumed = nowhere;
      value = zero_value;
      moved = nowhere;
      next = 0;
      made = nowhere;
      class = 0;
      wrote = nowhere;
      to = 16;
      pass = pass_to p h m c;
      entered = h.run.tally.depth;
      method = m % 4294967296;
      run = counted h.run (tallied (h.run.tally.depth + 1) h.run.tally.made h.run.tally.status);
    })
    (only (stopped h.run stop.Stack))

-- the address after a call's, which lies below 32
abbrev pub following_of : ℕ → ℕ
following_of a = pick (ltb a 4294967295) (a + 1) 0

-- the top frame returns a value to the one below, which is at address b
abbrev pub exited_by : At → ℕ → machine.Value → Shift
exited_by h b v =
    record {
      popped = top_of h.run.tally.depth;
      resumed = below_of h.run.tally.depth;
      value = cell_in v;
      moved = below_of h.run.tally.depth;
      next = following_of b;
      made = nowhere;
      class = 0;
      wrote = nowhere;
      to = 16;
      pass = no_pass;
      entered = nowhere;
      method = 0;
      run = leaving h.run Done Running;
    }

-- an effect; one that stays in its frame is not done here
abbrev pub shifted : Program → At → ℕ → Effect → Shift
shifted p h b effect.Next = only h.run
shifted p h b (effect.Jump to) = only h.run
shifted p h b (effect.Write a v) = only h.run
shifted p h b (effect.Load a o x) = only h.run
shifted p h b (effect.LoadStatic a x) = only h.run
shifted p h b (effect.Make a k) = made_by h a k
shifted p h b (effect.Store o x v) = only h.run
shifted p h b (effect.StoreStatic x v) = only h.run
shifted p h b (effect.Call m c) = called_by p h m c
shifted p h b (effect.Exit v) = exited_by h b v
shifted p h b (effect.Raise o) = only (with_status h.run (Raised o))
shifted p h b (effect.RaiseNew k) = raised_new_by h k
shifted p h b (effect.Fail e) = only (with_status h.run (Failed e))

-- what a return gives: a register's value, or null
abbrev pub returned_in : ℕ → Value → machine.Value
returned_in o x = pick (eqb o 16) (value_of x) null

-- ---- a pending object

abbrev pub pending_of : Status → ℕ
pending_of Running = 0
pending_of (Raised o) = o
pending_of Done = 0
pending_of (Uncaught o) = 0
pending_of (Failed e) = 0

-- the top frame's handler at its address takes it, or the frame is dropped
abbrev pub unwound_by : Program → At → ℕ → ℕ → Option ℕ → Shift
unwound_by p h o m (Some j) =
    record {
      popped = nowhere;
      resumed = top_of h.run.tally.depth;
      value = reference_of o;
      moved = top_of h.run.tally.depth;
      next = handler_target p m j % 4294967296;
      made = nowhere;
      class = 0;
      wrote = nowhere;
      to = 16;
      pass = no_pass;
      entered = nowhere;
      method = 0;
      run = with_status h.run Running;
    }
unwound_by p h o m None =
    record {
      popped = top_of h.run.tally.depth;
      resumed = nowhere;
      value = zero_value;
      moved = nowhere;
      next = 0;
      made = nowhere;
      class = 0;
      wrote = nowhere;
      to = 16;
      pass = no_pass;
      entered = nowhere;
      method = 0;
      run = leaving h.run (Uncaught o) (Raised o);
    }

abbrev pub handled : Program → At → ℕ → ℕ → ℕ → Shift
handled p h m a c = unwound_by p h (pending_of h.run.tally.status) m (handler_for p m a c)

-- unless it is at an address outside its method; where there is none, what is read is an address of no method
abbrev pub unwound : Program → At → ℕ → ℕ → ℕ → Shift
unwound p h m a c =
    pick (leb (code_length p m) a) (only (stopped h.run stop.Outside)) (handled p h m a c)

-- ---- arguments

abbrev pub passes_of : Pass → Bool
passes_of p = ltb 0 p.count

abbrev pub up_of : ℕ → ℕ
up_of n = pick (ltb n 18446744073709551615) (n + 1) 0

abbrev pub passed_of : Pass → Pass
passed_of p =
    record { from = up_of p.from; to = up_of p.to; count = p.count - 1; top = p.top; above = p.above }
