-- A literal as a number with a sign, as in CNF texts.
use Rattle.std.specs.Prelude.{ℤ, pos, negsuc, Bool, true, false}
use Rattle.std.specs.Int.RustNames.{unsigned_abs}
use Rattle.pb_base.specs.declared.literal.Lit.{Lit}

abbrev pub is_unsigned : ℤ → Bool
is_unsigned (pos n) = true
is_unsigned (negsuc n) = false

abbrev pub lit_of_signed : ℤ → Lit
lit_of_signed n = record { var = unsigned_abs n; positive = is_unsigned n }
