-- The common part of masks and of claims, by computation. Assumes nothing.
use mathlib.Core.Path.{◌≡◌, refl}
use Rattle.mask.specs.Mask.{has}
use Rattle.flow.specs.Claim.{register_at, result_at, field_of, static_of, returned_by, leaving, Claim}
use Rattle.order.specs.Order.{meet, common}

-- classes 0 and 1 with zero, and classes 1 and 2 with zero and other numbers: class 1 and zero
both : meet (record { bits = 4611686018427387907 }) (record { bits = 13835058055282163718 }) ≡ record { bits = 4611686018427387906 }
unfolding meet has
both = refl

none : meet (record { bits = 5 }) (record { bits = 10 }) ≡ record { bits = 0 }
unfolding meet has
none = refl

-- two claims, and three masks of their common part
abbrev one : Claim
one (register_at m pc r) = record { bits = 0 }
one (result_at m pc) = record { bits = 0 }
one (field_of k x) = record { bits = 0 }
one (static_of x) = record { bits = 3 }
one (returned_by m) = record { bits = 1 }
one (leaving m) = record { bits = 0 }

abbrev another : Claim
another (register_at m pc r) = record { bits = 8 }
another (result_at m pc) = record { bits = 8 }
another (field_of k x) = record { bits = 8 }
another (static_of x) = record { bits = 6 }
another (returned_by m) = record { bits = 5 }
another (leaving m) = record { bits = 8 }

in_static : common one another (static_of 3) ≡ record { bits = 2 }
unfolding meet has
in_static = refl

in_returned : common one another (returned_by 2) ≡ record { bits = 1 }
unfolding meet has
in_returned = refl

in_register : common one another (register_at 0 0 0) ≡ record { bits = 0 }
unfolding meet has
in_register = refl
