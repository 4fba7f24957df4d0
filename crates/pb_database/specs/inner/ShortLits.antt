-- Literals as numbers.
use Rattle.std.specs.Prelude.{ℕ, ◌/◌, ◌%◌, ◌==◌}
use Rattle.pb_base.specs.declared.literal.Lit.{Lit}

-- half of the number is the variable, and an odd one is positive
abbrev pub lit_of : ℕ → Lit
lit_of code = record { var = code / 2; positive = code % 2 == 1 }
