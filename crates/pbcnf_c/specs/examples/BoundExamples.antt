-- Worked examples of rows in numbers.
use Rattle.std.specs.Prelude.{◌≡◌, ◌^◌, ◌-◌, ℕ, true, false, pos, negsuc, refl}
use Rattle.pbcnf_c.specs.Bounds.{numbers_of, told_by}

-- the greatest word
abbrev ones : ℕ
ones = 2 ^ 64 - 1

pub below_five : told_by (record { low = 5; high = 0; literal = negsuc 1; unused = pos 0 }) ≡ numbers_of (pos 5, record { var = 2; positive = false })
below_five = refl

pub below_minus_one : told_by (record { low = ones; high = ones; literal = pos 4; unused = pos 0 }) ≡ numbers_of (negsuc 0, record { var = 4; positive = true })
below_minus_one = refl

pub below_a_wide_one : told_by (record { low = 0; high = 1; literal = pos 4; unused = pos 0 }) ≡ numbers_of (pos (2 ^ 64), record { var = 4; positive = true })
below_a_wide_one = refl
