-- Where the constraints of a part's outputs stand.
use Rattle.std.specs.Prelude.{ℕ, ◌+◌, ◌*◌, ◌^◌, ◌<◌, List, [], ◌∷◌}
use Rattle.pb_gentot.specs.declared.node_ids.Source.{Source}
use Rattle.pb_gentot.specs.declared.node_ids.Source.TheVariants.{Leaf, Fresh}

-- a leaf has no constraints; the ids of the first one of an output go up by two from place to place
abbrev pub ids_at : Source → ℕ → List ℕ
ids_at Leaf place = []
ids_at (Fresh id) place = (id + 2 * place) ∷ []

-- so many outputs have their ids below 2 ^ 62
abbrev pub HasIds : Source → ℕ → Type 0
HasIds Leaf n = Unit {0}
HasIds (Fresh id) n = id + 2 * n < 2 ^ 62
