use Rattle.std.proofs.Common.{Option, subst}
use Rattle.pb_norm.specs.Constraints.{Constraint}
use Rattle.pb_unit.specs.inner.Filling.{IsKeptOf}
use Rattle.pb_unit.proofs.Slotting.{at_read}
use Rattle.pb_unit.proofs.places.Places.kept.Goals as goal

pub returns : goal.returns
returns c = subst (λ (o : Option Constraint). IsKeptOf o c.kept_in.result) (at_read c.deref-2.ensures.value c.deref.ensures.value c.self.view_is c.args.place) c.kept_in.ensures
