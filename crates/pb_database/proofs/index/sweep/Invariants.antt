use Rattle.std.proofs.Common.{◌≡◌, ◌≤◌, ◌<◌, ℕ}
use Rattle.std.specs.Prelude.{filter, is_some}
use Rattle.pb_database.specs.inner.Slots.{slot_of}
use Rattle.pb_database.specs.inner.Indexed.{ids_at}
use Rattle.pb_database.proofs.index.sweep.Given as goal

abbrev pub invariant-loop-var : goal.invariant-loop-var
invariant-loop-var l = record {
  before : (v : ℕ) → v < l.var → ids_at l.lists v ≡ filter (λ (id : ℕ). is_some (slot_of l.slots id).constraint) (ids_at l.initial.lists v);
  rest : (v : ℕ) → l.var ≤ v → ids_at l.lists v ≡ ids_at l.initial.lists v;
}
