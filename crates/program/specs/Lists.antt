-- Lists by index, lists put together, what holds of every element, the first and the last number that pass a test. Definitions
-- only.
use Rattle.std.specs.Prelude.{Bool, List, [], ◌∷◌, ◌++◌, ℕ, zero, suc, Option, Some, None}
use Rattle.instruction.specs.Word.{pick}

-- f 0, f 1, .., f (n - 1)
abbrev pub tab : {A : Type 0} → ℕ → (ℕ → A) → List A
tab zero f = []
tab (suc n) f = f zero ∷ tab n (λ k. f (suc k))

-- the elements of f 0, then of f 1, .., then of f (n - 1)
abbrev pub joined : {A : Type 0} → ℕ → (ℕ → List A) → List A
joined zero f = []
joined (suc n) f = f zero ++ joined n (λ k. f (suc k))

-- P holds of every element
abbrev pub Every : {A : Type 0} → (A → Type 0) → List A → Type 0
Every P [] = Unit {0}
Every P (x ∷ xs) = P x × Every P xs

abbrev pub one_more : Option ℕ → Option ℕ
one_more None = None
one_more (Some i) = Some (suc i)

-- the first of 0, 1, .., n - 1 that passes the test
abbrev pub first : ℕ → (ℕ → Bool) → Option ℕ
first zero test = None
first (suc n) test = pick (test zero) (Some zero) (one_more (first n (λ k. test (suc k))))

-- the last of them, by rising number: what is found when 0, 1, .., n - 1 have been asked, the latest that passes being kept
abbrev pub last : ℕ → (ℕ → Bool) → Option ℕ
last zero test = None
last (suc n) test = pick (test n) (Some n) (last n test)
