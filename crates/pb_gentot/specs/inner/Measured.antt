-- The values and numbers of a part, if it has no more fresh variables than a budget.
use Rattle.std.specs.Prelude.{◌≡◌, ◌≤◌, ◌<◌, ◌+◌, ◌*◌, ℕ, Option, Some, None, length}
use Rattle.pb_tree.specs.Tree.{Tree}
use Rattle.pb_tree.specs.Scheme.{values, fresh_of, clause_count_of}
use Rattle.pb_gentot.specs.declared.measure.Part.{Part}
use Rattle.pb_gentot.specs.Generalized.{ascending, sums, generalized}

pub record IsPartMeasured (bound budget : ℕ) (t : Tree) (part : Part) : Type 0 where
  pub values_are : part.values.items ≡ values (generalized bound) t
  pub fresh_is : part.fresh ≡ fresh_of (generalized bound) t
  pub clauses_are : part.clauses ≡ clause_count_of (generalized bound) t
  pub fits : fresh_of (generalized bound) t ≤ budget

abbrev pub IsMeasured : ℕ → ℕ → Tree → Option Part → Type 0
IsMeasured bound budget t None = budget < fresh_of (generalized bound) t
IsMeasured bound budget t (Some part) = IsPartMeasured bound budget t part

-- the clauses of two parts and of a node over them
abbrev pub clauses_with : Part → Part → ℕ
clauses_with left right = left.clauses + right.clauses + (length left.values.items * length right.values.items + length left.values.items + length right.values.items)

-- the values and numbers of a node over two parts
pub record IsOverMeasured (bound room : ℕ) (left right part : Part) : Type 0 where
  pub values_are : part.values.items ≡ ascending (bound + 1) (sums (bound + 1) left.values.items right.values.items)
  pub fresh_is : part.fresh ≡ left.fresh + right.fresh + length part.values.items
  pub clauses_are : part.clauses ≡ clauses_with left right
  pub within : length part.values.items ≤ room

abbrev pub IsNodeMeasured : ℕ → ℕ → Part → Part → Option Part → Type 0
IsNodeMeasured bound room left right None = room < length (ascending (bound + 1) (sums (bound + 1) left.values.items right.values.items))
IsNodeMeasured bound room left right (Some part) = IsOverMeasured bound room left right part
