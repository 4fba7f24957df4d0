use Rattle.std.proofs.Common.{◌≡◌, Option, Some, None, false, refl}
use Rattle.std.specs.Prelude.{is_some}
use Rattle.pb_norm.specs.Constraints.{Constraint}
use Rattle.pb_unit.proofs.garbage.next_free.Goals as goal

none_of : (o : Option Constraint) → false ≡ is_some o → o ≡ None
none_of None e = refl
none_of (Some c) e = cc

pub returns-then-room_of-eq0-clause-empty : goal.returns-then-room_of-eq0-clause-empty
returns-then-room_of-eq0-clause-empty c = none_of _ c.if-not-stands.ensures
