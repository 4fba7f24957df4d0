use Rattle.std.proofs.Common.{◌≡◌, ◌≤◌, ◌<◌, [], ℕ}
use Rattle.std.specs.Prelude.{slice_index_or, filter, is_some}
use Rattle.pb_unit.specs.declared.index.Occurrence.{Occurrence}
use Rattle.pb_unit.specs.States.{at_place}
use Rattle.pb_unit.proofs.index.sweep_lists.Given as goal

abbrev pub invariant-loop-index : goal.invariant-loop-index
invariant-loop-index l = record {
  before : (k : ℕ) → k < l.index → slice_index_or l.lists k [] ≡ filter (λ (o : Occurrence). is_some (at_place l.places o.place)) (slice_index_or l.initial.lists k []);
  rest : (k : ℕ) → l.index ≤ k → slice_index_or l.lists k [] ≡ slice_index_or l.initial.lists k [];
}
