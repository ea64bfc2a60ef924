-- What a loop puts: one text more with each turn. Assumes nothing.
use mathlib.Core.Path.{sym, ap, ◌∙◌}
use mathlib.Core.List.{List, ◌++◌, append_assoc}
use Prim.Native.Nat.{ℕ, ◌+◌}
use native.Mathlib.Numerals.{add-one}
use Rattle.page.specs.declared.Page.{Page}
use Rattle.page.specs.OnPage.{PutOn}
use Rattle.page.proofs.OnPages.{◌⨾◌, on_as}
use Rattle.program.specs.Lists.{joined}
use Rattle.program.proofs.Joined.{joined_more}

-- the text of turn i, after a text and those of the turns before it
pub put_joined : {a b c : Page} (x : List ℕ) (f : ℕ → List ℕ) (i : ℕ)
    → PutOn a (x ++ joined i f) b
    → PutOn b (f i) c
    → PutOn a (x ++ joined (i + 1) f) c
put_joined x f i p q =
    on_as (p ⨾ q)
    (append_assoc x (joined i f) (f i)
    ∙ ap (λ (t : List ℕ). x ++ t) (sym (ap (λ (n : ℕ). joined n f) (add-one i) ∙ joined_more i f)))
