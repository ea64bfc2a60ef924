-- Texts on a page: nothing, one text after another, and what a page leaves in the buffer that it was made of. Assumes nothing.
use Rattle.std.proofs.Common.{◌≡◌, ◌∙◌, refl, sym, List, [], ◌++◌, ℕ}
use Rattle.page.specs.declared.Page.{Page}
use Rattle.page.specs.Page.{Put}
use Rattle.page.specs.OnPage.{PutOn}
use Rattle.page.proofs.Puts.{put_none, put_then}

-- nothing is put
pub on_none : (p : Page) → PutOn p [] p
on_none p = record { buffer = refl; put = put_none _ _ }

-- a text just after another
infixl 5 ◌⨾◌
pub ◌⨾◌ : {a b c : Page} {x y : List ℕ} → PutOn a x b → PutOn b y c → PutOn a (x ++ y) c
p ⨾ q = record { buffer = q.buffer ∙ p.buffer; put = put_then p.put q.put }

-- a text that is said in another way
pub on_as : {a b : Page} {x y : List ℕ} → PutOn a x b → x ≡ y → PutOn a y b
on_as p e = rw e at p

-- the buffer of a page whose loan has ended
pub lent_back : {a b : Page} {x out : List ℕ} → PutOn a x b → (a.out.ghost_name ≡ b.out.ghost_name → out ≡ b.out.now)
    → Put a.out.now a.at x out b.at
lent_back p last = rw (last (sym p.buffer)) p.put
