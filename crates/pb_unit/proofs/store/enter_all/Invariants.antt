use Rattle.std.proofs.Common.{◌≡◌, ℕ, take}
use Rattle.pb_norm.specs.Constraints.{weights}
use Rattle.pb_unit.specs.Index.{IsEntered, alert_at}
use Rattle.pb_unit.proofs.store.enter_all.Given as goal

abbrev pub invariant-loop-term : goal.invariant-loop-term
invariant-loop-term l = record {
  entered : IsEntered l.spot.vars l.spot.places.now l.lists l.kept l.spot.place (weights (take l.term-index l.terms));
  alerts : (p : ℕ) → alert_at l.kept p ≡ alert_at l.initial.kept p;
}
