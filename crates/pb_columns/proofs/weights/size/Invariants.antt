use Rattle.std.proofs.Common.{◌≡◌, ◌≤◌, ◌+◌, ◌-◌, ◌^◌, min}
use Rattle.std.specs.Int.RustNames.{unsigned_abs}
use Rattle.pb_base.specs.Problems.{magnitude}
use Rattle.pb_columns.proofs.weights.size.Given as goal

abbrev pub invariant-loop-term : goal.invariant-loop-term
invariant-loop-term l = record {
  fits : l.sum ≤ 2 ^ 128 - 1;
  whole : min (l.sum + magnitude l.term-iterator) (2 ^ 128 - 1) ≡ min (magnitude l.fn.terms + unsigned_abs l.right) (2 ^ 128 - 1);
}
