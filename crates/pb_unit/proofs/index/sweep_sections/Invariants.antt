use Rattle.std.proofs.Common.{◌≡◌, ◌≤◌, ◌<◌, ℕ}
use Rattle.std.specs.Prelude.{filter, is_some}
use Rattle.pb_unit.specs.States.{at_place}
use Rattle.pb_unit.specs.Index.{section, IsSectioned}
use Rattle.pb_unit.proofs.index.sweep_sections.Given as goal

abbrev pub invariant-loop-number : goal.invariant-loop-number
invariant-loop-number l = record {
  sections : IsSectioned l.starts l.ends l.units;
  before : (k : ℕ) → k < l.number → section l.starts l.ends l.units k ≡ filter (λ (p : ℕ). is_some (at_place l.places p)) (section l.starts l.initial.ends l.initial.units k);
  rest : (k : ℕ) → l.number ≤ k → section l.starts l.ends l.units k ≡ section l.starts l.initial.ends l.initial.units k;
}
