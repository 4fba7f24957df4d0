use Rattle.std.proofs.Common.{◌≡◌, ◌++◌, map}
use Rattle.std.specs.List.{range_with_len}
use Rattle.pb_family.specs.Fresh.{fresh_at}
use Rattle.pb_totalizer.specs.laws.UnitTerms.{unit_term}
use Rattle.pb_totalizer.proofs.side.push_row.Given as goal

abbrev pub invariant-loop-place : goal.invariant-loop-place
invariant-loop-place l = l.terms.items ≡ l.fn.terms.items ++ map unit_term (map (fresh_at l.row.first) (range_with_len 0 l.place))
