-- `raise::exceptions::by_handler`: what its loops keep.
use Prim.Native.Nat.{◌<◌}
use Rattle.program.specs.Program.{method_count}
use Rattle.program.specs.Tables.{program_in}
use Rattle.reader.specs.Formed.{Formed}
use Rattle.slots.specs.Layout.{claim_in}
use Rattle.sets.proofs.Handlers.{Rest}
use Rattle.raise.proofs.ByHandler.{Partial}
use Rattle.raise.proofs.exceptions.by_handler.Given as goal

-- the rest is what the handlers from number h on do not catch, and rule 9 is met for what they do
abbrev pub invariant-loop-h : goal.invariant-loop-h
invariant-loop-h l =
    let p = program_in l.sets.tables.now in
    record {
      rest : Rest p l.m l.pc l.initial.rest l.h l.rest;
      partly : Formed p → l.m < method_count p → Partial p l.m l.pc l.initial.rest l.h (claim_in l.initial.w) (claim_in l.w);
    }
