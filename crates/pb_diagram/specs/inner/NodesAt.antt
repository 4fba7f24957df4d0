-- The justifications of a node at a place of its level, by the next level's nodes and its first id; no step depends on the variables' numbers.
use Rattle.std.specs.Prelude.{ℕ, ◌+◌, ◌*◌, List, [], ◌∷◌}
use Rattle.pb_norm.specs.Constraints.{Weighted}
use Rattle.pb_derive.specs.Justifications.{Justification}
use Rattle.pb_diagram.specs.declared.interval.Interval.{Interval}
use Rattle.pb_diagram.specs.DiagramSteps.{Below, false_justifications, true_justification, level_justifications}

abbrev pub below_at : List Interval → ℕ → Below
below_at nodes id = record { nodes = nodes; first = 0; id = id }

abbrev pub false_at : Weighted → ℕ → List Interval → ℕ → ℕ → ℕ → Interval → List Justification
false_at t whole nodes next id place g = false_justifications t whole (below_at nodes next) place (id + 2 * place) g

abbrev pub true_at : Weighted → List Weighted → List Interval → ℕ → ℕ → ℕ → Interval → List Justification
true_at t rest nodes next id place g = true_justification t rest (below_at nodes next) place (id + 2 * place) g ∷ []

abbrev pub level_at : Weighted → List Weighted → List Interval → ℕ → ℕ → List Interval → List Justification
level_at t rest nodes next id gs = level_justifications t rest (below_at nodes next) 0 id gs
