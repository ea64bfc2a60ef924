-- `transfer::site::Site::binary` meets its contract. Assumes nothing.
use Rattle.transfer.proofs.Raising.{raised_after}
use Rattle.transfer.proofs.site.Site.binary.Goals as goal

pub returns : goal.returns
returns c =
    record {
      raised = λ la formed lm lp.
          raised_after _ _ _ _ _ _ _ (c.of_both-new.ensures.raised formed lm lp la) (c.divided_by_zero.ensures.raised formed lm);
    }
