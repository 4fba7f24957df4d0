use Rattle.std.proofs.Common.{◌≡◌, ℕ, ◌<◌}
use Rattle.std.specs.Prelude.{slice_index_or}
use Rattle.pb_rules.specs.inner.Obligations.{SlotIsMet}
use Rattle.pb_rules.proofs.red.first_unmet.Given as goal

abbrev pub invariant-loop-id : goal.invariant-loop-id
invariant-loop-id l = record {
  same : l.db ≡ l.initial.db;
  met : (k d : ℕ) → k < l.id-index → SlotIsMet l.initial.db l.claim l.sets (slice_index_or l.id-items k d);
}
