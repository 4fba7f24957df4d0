-- Constraints that are shown one after the other.
use Rattle.std.specs.Prelude.{◌≡◌, ◌<◌, Bool, List, Contains}
use Rattle.std.specs.Bool.{OnTrue, OnFalse}
use Rattle.pb_base.specs.declared.literal.Lit.{Lit}
use Rattle.pb_norm.specs.Constraints.{Constraint}
use Rattle.pb_norm.specs.Propagation.{room}
use Rattle.pb_norm.specs.PropagationLaws.{AreAmong}
use Rattle.pb_unit.specs.Steps.{Advances, IsCalm}

-- the literals that they need join; each has room enough, and is calm where none joined, or one of them has too little room
pub record Shows (enough : Bool) (cs : List Constraint) (before after : List Lit) : Type 0 where
  pub advances : (ds : List Constraint) (given : List Lit) → AreAmong cs ds → Advances ds given before after
  pub calm : OnTrue enough (after ≡ before → (c : Constraint) → Contains cs c → IsCalm (room before c.terms) before c)
  pub short : OnFalse enough ((c : Constraint) × Contains cs c × (room after c.terms < c.degree))
