use Rattle.std.proofs.Common.{◌≡◌, ℕ, []}
use Rattle.pb_unit.specs.Index.{IsCounted, alert_at}
use Rattle.pb_unit.proofs.store.unlist.Given as goal

abbrev pub invariant-loop-term : goal.invariant-loop-term
invariant-loop-term l = record {
  counts : IsCounted l.spot.vars l.spot.places.now l.lists l.kept [];
  alerts : (p : ℕ) → alert_at l.kept p ≡ alert_at l.initial.kept p;
}
