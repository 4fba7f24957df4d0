use Rattle.std.proofs.Common.{◌≤◌, ◌+◌, ◌^◌, length}
use Rattle.std.specs.Prelude.{All}
use Rattle.pb_family.proofs.Deriving.{Deriving}
use Rattle.pb_adder.specs.Comparator.{comparator, end_needs}
use Rattle.pb_adder.proofs.RowHanding.{by_last}
use Rattle.pb_adder.proofs.claims.derive_rows.Given as goal

abbrev pub invariant-loop-end : goal.invariant-loop-end
invariant-loop-end g l =
    let old = g.T.StepSink.state l.fn.sink in
    let now = g.T.StepSink.state l.sink in
    record {
      steps : Deriving (by_last l.id old.next (comparator l.first l.fn.bound l.ends)) (by_last l.id now.next (comparator l.first l.bound l.rest)) old now;
      next : now.next + length l.rest ≤ old.next + 128;
      few : length l.rest ≤ 128;
      fits : All (λ e. l.first + end_needs e ≤ 2 ^ 31) l.rest;
    }

abbrev pub decreases-loop-end : goal.decreases-loop-end
decreases-loop-end g l = length l.rest
