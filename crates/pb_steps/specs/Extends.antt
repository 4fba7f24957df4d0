-- What it means that clauses say no more than constraints: solutions extend to models (our own).
use Rattle.std.specs.Prelude.{◌+◌, ℕ, List}
use Rattle.pb_base.specs.declared.literal.Lit.{Lit}
use Rattle.pb_base.specs.Literals.{Assignment, AgreeBelow, IsModel}
use Rattle.pb_norm.specs.Constraints.{Constraint, Solves}

-- every solution of the constraints extends to a model of the clauses, with its values of the first variables
abbrev pub Extends : ℕ → List Constraint → List (List Lit) → Type 0
Extends original loaded cs = (a : Assignment) → Solves a loaded → (b : Assignment) × AgreeBelow (original + 1) a b × IsModel b cs
