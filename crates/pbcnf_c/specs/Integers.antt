-- Integers of clauses as text: each with a blank behind it, and 0 with the line's end (the DIMACS format).
use Rattle.std.specs.Prelude.{ℕ, zero, suc, List, ◌∷◌, ◌++◌, ◌<◌, ◌^◌, decimal, codes, flat_map, ℤ, pos, negsuc, nat_abs}

abbrev pub integer_text : ℤ → List ℕ
integer_text (pos zero) = codes "0\n"
integer_text (pos (suc n)) = decimal (suc n) ++ codes " "
integer_text (negsuc n) = (45 ∷ decimal (suc n)) ++ codes " "

abbrev pub integers_text : List ℤ → List ℕ
integers_text zs = flat_map integer_text zs

-- fits 64 bits, as each 32-bit integer does
abbrev pub IsSmall : ℤ → Type 0
IsSmall z = nat_abs z < 2 ^ 64
