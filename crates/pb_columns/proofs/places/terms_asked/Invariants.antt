use Rattle.std.proofs.Common.{◌≡◌, ◌≤◌, ◌*◌, take}
use Rattle.pb_columns.specs.Columns.{terms_asked}
use Rattle.pb_columns.proofs.places.terms_asked.Given as goal

abbrev pub invariant-loop-sum : goal.invariant-loop-sum
invariant-loop-sum l = record {
  counted : l.count ≡ terms_asked (take l.sum-index l.sums);
  few : l.count ≤ 18446744073709551615 * l.sum-index;
}
