-- Variables by name, as words of an OPB text name them (a number behind `x` is the format's; free names are our own).
use Rattle.std.specs.Prelude.{ℕ, ◌==◌, ◌&&◌, ◌||◌, nat_lt, List, [], ◌∷◌, Option, Some, None, Bool, false, if◌then◌else◌}
use Rattle.std.specs.List.{list_all}
use Rattle.pb_base.specs.Numbers.{natural_of}

-- what a word names
pub data Name : Type 0 where
  index : ℕ → Name
  free : List ℕ → Name

-- `A` to `Z`, `a` to `z`, and `_`
abbrev pub begins_name : ℕ → Bool
begins_name b = (nat_lt 64 b && nat_lt b 91) || (nat_lt 96 b && nat_lt b 123) || b == 95

-- also `0` to `9`, `[`, `]`, `{`, `}`, `^` and `-`
abbrev pub continues_name : ℕ → Bool
continues_name b = begins_name b || (nat_lt 47 b && nat_lt b 58) || b == 91 || b == 93 || b == 123 || b == 125 || b == 94 || b == 45

abbrev pub is_name : List ℕ → Bool
is_name [] = false
is_name (b ∷ bs) = begins_name b && list_all continues_name bs

-- the number of `x` and digits alone
abbrev pub number_of : List ℕ → Option ℕ
number_of [] = None
number_of (b ∷ ds) = if b == 120 then natural_of ds else None

-- an index is at least 1, and each other name is free
abbrev pub named : Option ℕ → List ℕ → Option Name
named (Some n) word = if n == 0 then None else Some (index n)
named None word = if is_name word then Some (free word) else None

abbrev pub name_of : List ℕ → Option Name
name_of word = named (number_of word) word
