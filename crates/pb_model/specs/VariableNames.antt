-- What the variables of a problem are named (our own).
use Rattle.std.specs.Prelude.{ℕ, ◌+◌, ◌-◌, nat_le, if◌then◌else◌, List, [], ◌++◌, slice_index_or, codes, decimal}
use Rattle.pb_base.specs.declared.problem.Problem.{Problem}

-- the name of a variable: `x` and its number, or behind those its own
abbrev pub name_at : Problem → ℕ → List ℕ
name_at p v = if nat_le v p.numbered then codes "x" ++ decimal v else slice_index_or p.names (v - (p.numbered + 1)) []
