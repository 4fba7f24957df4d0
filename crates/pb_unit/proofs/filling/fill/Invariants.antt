use Rattle.std.proofs.Common.{◌≡◌, ◌≤◌, ◌<◌, ◌-◌, [], map, length}
use Rattle.std.specs.Prelude.{All}
use Rattle.pb_base.specs.declared.literal.Lit.{Lit}
use Rattle.pb_unit.specs.Index.{code, list_at, size_of}
use Rattle.pb_unit.specs.inner.Filling.{terms_in, IsFilledAt}
use Rattle.pb_unit.proofs.filling.fill.Given as goal

abbrev pub invariant-loop-low : goal.invariant-loop-low
invariant-loop-low l = record {
  size : size_of l.lists ≡ size_of l.initial.lists;
  filled : (m : Lit) → code m < l.low → IsFilledAt l.lists (map terms_in l.places) m;
  known : (m : Lit) → code m < l.low → All (λ o. o.place < length (map terms_in l.places)) (list_at l.lists m);
  rest : (m : Lit) → l.low ≤ code m → list_at l.lists m ≡ [];
}

abbrev pub decreases-loop-low : goal.decreases-loop-low
decreases-loop-low l = l.size - l.low
