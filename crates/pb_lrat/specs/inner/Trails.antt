-- Literals that are true, as the code keeps them.
use Rattle.std.specs.Prelude.{◌≡◌, ℕ, Bool, List, Option}
use Rattle.pb_base.specs.declared.literal.Lit.{Lit}
use Rattle.pb_base.specs.Literals.{is_among}
use Rattle.pb_unit.specs.Trails.{is_value, AreDifferent}

-- the values by variable tell the literals, none of which stands twice
pub record IsTrail (values : ℕ → Option Bool) (lits : List Lit) : Type 0 where
  pub told : (l : Lit) → is_among lits l ≡ is_value (values l.var) l.positive
  pub different : AreDifferent lits
