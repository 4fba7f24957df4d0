-- The text that gives the numbers of the free names (our own).
use Rattle.std.specs.Prelude.{ℕ, ◌+◌, List, ◌++◌, length, codes, decimal}
use Rattle.std.specs.List.{flat_map, range_with_len}
use Rattle.pb_base.specs.declared.problem.Problem.{Problem}
use Rattle.pb_model.specs.VariableNames.{name_at}

-- the number of a variable, and its name
abbrev pub map_line : Problem → ℕ → List ℕ
map_line p v = decimal v ++ codes " " ++ name_at p v ++ codes "\n"

-- a line for each variable behind those that are named by their numbers
abbrev pub map_text : Problem → List ℕ
map_text p = flat_map (map_line p) (range_with_len (p.numbered + 1) (length p.names))
