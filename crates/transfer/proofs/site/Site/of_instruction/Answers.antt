-- `transfer::site::Site::of_instruction` meets its contract. One case an instruction. Assumes nothing.
use mathlib.Core.Path.{refl}
use mir.Syntax.{w32}
use mir.ValLaws.{to_z-of_z}
use native.Mathlib.Omega.{arith}
use Rattle.transfer.proofs.Written.{goes_on_lem, one_operand}
use Rattle.transfer.proofs.site.Site.of_instruction.Goals as goal

pub returns-in-Nop : goal.returns-in-Nop
returns-in-Nop c =
    record {
      raised = rw c.in-Nop.is (λ r. goes_on_lem r refl c.to_next.ensures.raised);
    }

pub returns-in-Move : goal.returns-in-Move
returns-in-Move c =
    record {
      raised = rw c.in-Move.is (λ r. goes_on_lem r refl c.moved.ensures.raised r.names.0);
    }

pub returns-in-Const : goal.returns-in-Const
returns-in-Const c =
    record {
      raised =
          let written = rw (to_z-of_z w32 c.in-Const.value (record { sfits = omega arith })) at c.constant.ensures.raised in
          rw c.in-Const.is (λ r. goes_on_lem r refl written r.names);
    }

pub returns-in-Goto : goal.returns-in-Goto
returns-in-Goto c =
    record {
      raised = rw c.in-Goto.is (λ r. c.to_target.ensures.raised r.formed r.method r.names);
    }

pub returns-in-If : goal.returns-in-If
returns-in-If c =
    record {
      raised = rw c.in-If.is (λ r. goes_on_lem r refl (c.to_both.ensures.raised r.names.1.1));
    }

pub returns-in-IfZero : goal.returns-in-IfZero
returns-in-IfZero c =
    record {
      raised = rw c.in-IfZero.is (λ r. goes_on_lem r refl (c.to_both-in-IfZero.ensures.raised r.names.1));
    }

pub returns-in-Binop : goal.returns-in-Binop
returns-in-Binop c =
    record {
      raised = rw c.in-Binop.is (λ r. goes_on_lem r refl (c.binary.ensures.raised r.names.0));
    }

pub returns-in-Unop : goal.returns-in-Unop
returns-in-Unop c =
    record {
      raised = rw c.in-Unop.is (λ r. one_operand _ _ _ _ _ (goes_on_lem r refl c.of_both.ensures.raised r.names.0));
    }

pub returns-in-NewInstance : goal.returns-in-NewInstance
returns-in-NewInstance c =
    record {
      raised = rw c.in-NewInstance.is
          (λ r. goes_on_lem r refl (c.made.ensures.raised (omega (arith, r.names.1, r.formed.limited.classes))) r.names.0);
    }

pub returns-in-Iget : goal.returns-in-Iget
returns-in-Iget c =
    record {
      raised = rw c.in-Iget.is (λ r. goes_on_lem r refl (c.field_read.ensures.raised r.names.0));
    }

pub returns-in-Iput : goal.returns-in-Iput
returns-in-Iput c =
    record {
      raised = rw c.in-Iput.is (λ r. goes_on_lem r refl (c.field_written.ensures.raised));
    }

pub returns-in-Sget : goal.returns-in-Sget
returns-in-Sget c =
    record {
      raised = rw c.in-Sget.is (λ r. goes_on_lem r refl c.static_read.ensures.raised r.names.0);
    }

pub returns-in-Sput : goal.returns-in-Sput
returns-in-Sput c =
    record {
      raised = rw c.in-Sput.is (λ r. goes_on_lem r refl (c.static_written.ensures.raised r.names.1));
    }

pub returns-in-InvokeVirtual : goal.returns-in-InvokeVirtual
returns-in-InvokeVirtual c =
    record {
      raised = rw c.in-InvokeVirtual.is (λ r. goes_on_lem r refl (c.by_receiver.ensures.raised r.names.0));
    }

pub returns-in-InvokeStatic : goal.returns-in-InvokeStatic
returns-in-InvokeStatic c =
    record {
      raised = rw c.in-InvokeStatic.is (λ r. goes_on_lem r refl (c.by_method.ensures.raised r.names.0 r.calls.1.0));
    }

pub returns-in-MoveResult : goal.returns-in-MoveResult
returns-in-MoveResult c =
    record {
      raised = rw c.in-MoveResult.is (λ r. goes_on_lem r refl c.result_read.ensures.raised r.names);
    }

pub returns-in-MoveException : goal.returns-in-MoveException
returns-in-MoveException c =
    record {
      raised = rw c.in-MoveException.is (λ r. goes_on_lem r refl c.result_read-in-MoveException.ensures.raised r.names);
    }

pub returns-in-Return : goal.returns-in-Return
returns-in-Return c =
    record {
      raised = rw c.in-Return.is (λ r. c.returned.ensures.raised r.formed r.method);
    }

pub returns-in-ReturnVoid : goal.returns-in-ReturnVoid
returns-in-ReturnVoid c =
    record {
      raised = rw c.in-ReturnVoid.is (λ r. c.returned_void.ensures.raised r.formed r.method);
    }

pub returns-in-Throw : goal.returns-in-Throw
returns-in-Throw c =
    record {
      raised = rw c.in-Throw.is (λ r. c.thrown.ensures.raised r.formed r.method);
    }

pub returns-in-InstanceOf : goal.returns-in-InstanceOf
returns-in-InstanceOf c =
    record {
      raised = rw c.in-InstanceOf.is (λ r. goes_on_lem r refl c.numbers.ensures.raised r.names.0);
    }

pub returns-in-CheckCast : goal.returns-in-CheckCast
returns-in-CheckCast c =
    record {
      raised = rw c.in-CheckCast.is (λ r. goes_on_lem r refl (c.cast.ensures.raised r.names.0));
    }
