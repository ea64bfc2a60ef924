-- `page::Page::decimal`: the measure is the number, of which each call has fewer digits.
use Rattle.page.proofs.Page.+decimal.Given as goal

abbrev pub decreases-decimal : goal.decreases-decimal
decreases-decimal l = l.n
