-- Digits of some numbers, and texts in small buffers, by computation. Bytes: 48 is '0', 97 'a'. Assumes nothing.
use mathlib.Core.Path.{◌≡◌, refl}
use mathlib.Core.List.{[], ◌∷◌}
use Rattle.page.specs.Digits.{digit_of, two, eight, decimal_by, decimal}
use Rattle.page.specs.Page.{place_after, bytes_after}

-- `ff`, the low byte of 511; `00012a3f`
low_byte : two 511 ≡ 102 ∷ 102 ∷ []
unfolding digit_of
low_byte = refl

four_bytes : eight 76351 ≡ 48 ∷ 48 ∷ 48 ∷ 49 ∷ 50 ∷ 97 ∷ 51 ∷ 102 ∷ []
unfolding digit_of
four_bytes = refl

-- `0`; `9`; `10`; `65537`
zero : decimal 0 ≡ 48 ∷ []
unfolding decimal_by
zero = refl

nine : decimal 9 ≡ 57 ∷ []
unfolding decimal_by
nine = refl

ten : decimal 10 ≡ 49 ∷ 48 ∷ []
unfolding decimal_by
ten = refl

five_digits : decimal 65537 ≡ 54 ∷ 53 ∷ 53 ∷ 51 ∷ 55 ∷ []
unfolding decimal_by
five_digits = refl

-- the greatest number of 64 bits has 20 digits
greatest : decimal 18446744073709551615 ≡ 49 ∷ 56 ∷ 52 ∷ 52 ∷ 54 ∷ 55 ∷ 52 ∷ 52 ∷ 48 ∷ 55 ∷ 51 ∷ 55 ∷ 48 ∷ 57 ∷ 53 ∷ 53 ∷ 49 ∷ 54 ∷ 49 ∷ 53 ∷ []
unfolding decimal_by
greatest = refl

-- two bytes from place 1 of three; two from place 2, where one goes in
inside : bytes_after (7 ∷ 7 ∷ 7 ∷ []) 1 (1 ∷ 2 ∷ []) ≡ 7 ∷ 1 ∷ 2 ∷ []
unfolding bytes_after
inside = refl

cut : bytes_after (7 ∷ 7 ∷ 7 ∷ []) 2 (1 ∷ 2 ∷ []) ≡ 7 ∷ 7 ∷ 1 ∷ []
unfolding bytes_after
cut = refl

cut_place : place_after 3 2 (1 ∷ 2 ∷ []) ≡ 3
unfolding place_after
cut_place = refl
