-- `page::Page::decimal` meets its contract. Assumes nothing.
use Rattle.page.proofs.Decimals.{digits_last, digits_more}
use Rattle.page.proofs.OnPages.{◌⨾◌, on_as}
use Rattle.page.proofs.Page.+decimal.Goals.{then-n-ge10, else-n-ge10}
use Rattle.page.proofs.Page.+decimal.Goals as goal

pub returns : goal.returns
returns t c =
    elim c.if-n-ge10.branch [
      | then-n-ge10 w ↦ record {
        put = on_as (w.decimal.ensures.put ⨾ (rw w.self-is at c.byte.ensures.put)) (digits_more c.args.n w.if-n-ge10.true c.ranges.n.fits);
      }
      | else-n-ge10 w ↦ record {
        put = on_as (rw w.self-is at c.byte.ensures.put) (digits_last c.args.n w.if-n-ge10.false);
      }
    ]
