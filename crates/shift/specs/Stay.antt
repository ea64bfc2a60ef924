-- Runs that stay in their frame, and what is asked of a run. Nothing here needs to be believed to read a promise of the stepper.
-- Definitions only.
use Rattle.std.specs.Prelude.{Bool, true, false, ◌&&◌, ◌||◌, ℕ, ◌+◌, ◌%◌, eqb, ltb, is_none}
use Rattle.instruction.specs.Word.{pick}
use Rattle.program.specs.Program.{Program, code_length, word_at}
use Rattle.site.specs.declared.Gone.{Gone}
use Rattle.site.specs.declared.How.{How}
use Rattle.site.specs.declared.How.TheVariants as how
use Rattle.site.specs.declared.Site.{Site}
use Rattle.site.specs.Site.{opcode_of}
use Rattle.turn.specs.declared.Status.{Status}
use Rattle.turn.specs.declared.Status.TheVariants.{Running, Raised, Done, Uncaught, Failed}
use Rattle.shift.specs.declared.At.{At}
use Rattle.shift.specs.declared.Run.{Run}
use Rattle.shift.specs.declared.Stay.{Stay}
use Rattle.shift.specs.declared.Stop.TheVariants as stop
use Rattle.shift.specs.Places.{preceding_of, top_of}
use Rattle.shift.specs.Shift.{stopped, with_status}

-- ---- how an instruction ended

abbrev pub is_went : How → Bool
is_went how.Went = true
is_went how.Leaves = false
is_went (how.Raises c) = false
is_went (how.Failed e) = false

abbrev pub is_leaves : How → Bool
is_leaves how.Went = false
is_leaves how.Leaves = true
is_leaves (how.Raises c) = false
is_leaves (how.Failed e) = false

-- an instruction raises a new object, and its class
abbrev pub is_raises : How → Bool
is_raises how.Went = false
is_raises how.Leaves = false
is_raises (how.Raises c) = true
is_raises (how.Failed e) = false

abbrev pub raised_class : How → ℕ
raised_class how.Went = 0
raised_class how.Leaves = 0
raised_class (how.Raises c) = c
raised_class (how.Failed e) = 0

-- ---- a run that stays in its frame

-- it begins where the top frame is; where there is none, what is read is an address of no method
abbrev pub stay_of : Run → ℕ → ℕ → Stay
stay_of k m a =
    record {
      left = k.left;
      top = top_of k.tally.depth;
      method = m;
      pc = a;
      how = how.Went;
    }

-- where it stands; an address lies below 32
abbrev pub site_of : Program → Stay → Site
site_of p k =
    record {
      top = k.top;
      pc = k.pc % 256;
      word = word_at p k.method k.pc;
      opcode = opcode_of (word_at p k.method k.pc);
    }

-- it goes on while the last instruction went to an address of the method and a step may still be made
abbrev pub goes_on : Program → Stay → Bool
goes_on p k = is_went k.how && ltb 0 k.left && ltb k.pc (code_length p k.method)

-- one instruction further; it went on, so that there was a step left
abbrev pub went_to : Stay → Gone → Stay
went_to k g =
    record { left = preceding_of k.left; top = k.top; method = k.method; pc = g.next; how = g.how }

-- an instruction that did not go to another address was counted and is no step
abbrev pub again_left : ℕ → How → ℕ
again_left n e = pick (is_went e) n (pick (ltb n 18446744073709551615) (n + 1) 0)

-- its word; 0 where the last instruction went to another address
abbrev pub left_word : Program → How → ℕ → ℕ → ℕ
left_word p e m pc = pick (is_went e) 0 (word_at p m pc)

-- where it has come to
abbrev pub at_of : Program → Run → Stay → At
at_of p k j =
    record {
      run = record { left = again_left j.left j.how; tally = k.tally; stop = k.stop };
      pc = j.pc % 256;
      opcode = opcode_of (left_word p j.how j.method j.pc);
      word = left_word p j.how j.method j.pc;
      how = j.how;
    }

-- ---- what is asked of a run

-- an object is pending: the run is looked at as a throw is
abbrev pub raised_at : Run → At
raised_at k = record { run = k; pc = 0; opcode = 18; word = 0; how = how.Went }

abbrev pub is_running : Status → Bool
is_running Running = true
is_running (Raised o) = false
is_running Done = false
is_running (Uncaught o) = false
is_running (Failed e) = false

abbrev pub is_open : Status → Bool
is_open Running = true
is_open (Raised o) = true
is_open Done = false
is_open (Uncaught o) = false
is_open (Failed e) = false

-- a further step is to be made: nothing stopped the run, a step may still be made, and the run has not ended
abbrev pub runs_on : Run → Bool
runs_on k = is_none k.stop && ltb 0 k.left && is_open k.tally.status

-- return and return-void
abbrev pub exits_of : At → Bool
exits_of h = eqb h.opcode 16 || eqb h.opcode 17

-- a run that comes to no instruction that leaves its frame: to a fault, to an address outside its method, or to its last step
abbrev pub others_by : Run → How → Run
others_by k how.Went = pick (ltb 0 k.left) (stopped k stop.Outside) k
others_by k how.Leaves = pick (ltb 0 k.left) (stopped k stop.Outside) k
others_by k (how.Raises c) = pick (ltb 0 k.left) (stopped k stop.Outside) k
others_by k (how.Failed e) = with_status k (Failed e)

abbrev pub others_of : At → Run
others_of h = others_by h.run h.how
