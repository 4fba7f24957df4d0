use Rattle.std.proofs.Common.{◌≡◌, ◌<◌, ℕ, None}
use Rattle.pb_norm.specs.Constraints.{Constraint}
use Rattle.pb_unit.specs.States.{at_place, Stands}
use Rattle.pb_unit.specs.Index.{room_at, alert_at}
use Rattle.pb_unit.proofs.store.sweep_rooms.Given as goal

abbrev pub invariant-loop-place : goal.invariant-loop-place
invariant-loop-place l = record {
  clean : (p : ℕ) → p < l.place → at_place l.places p ≡ None → room_at l.kept p ≡ 0;
  others : (p : ℕ) (c : Constraint) → Stands l.places p c → room_at l.kept p ≡ room_at l.initial.kept p;
  alerts : (p : ℕ) → alert_at l.kept p ≡ alert_at l.initial.kept p;
}
