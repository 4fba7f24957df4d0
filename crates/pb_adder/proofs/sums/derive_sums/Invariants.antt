use Rattle.std.proofs.Common.{◌≡◌, ◌≤◌, ◌<◌, ◌+◌, ◌^◌, length}
use Rattle.pb_family.proofs.Deriving.{Deriving}
use Rattle.pb_adder.specs.AdderSteps.{blocks, last_sum, sum_steps}
use Rattle.pb_adder.proofs.SumSteps.{left_sums}
use Rattle.pb_adder.proofs.sums.derive_sums.Given as goal

abbrev pub invariant-loop-rest : goal.invariant-loop-rest
invariant-loop-rest g l =
    let old = g.T.StepSink.state l.fn.sink in
    let now = g.T.StepSink.state l.sink in
    record {
      steps : Deriving (sum_steps l.fn.of.id l.fn.running old.next (blocks l.fn.of.levels.now)) (left_sums l.is_later l.rest.id l.running now.next (blocks l.rest.levels.now)) old now;
      last : last_sum l.fn.running old.next (blocks l.fn.of.levels.now) ≡ last_sum l.running now.next (blocks l.rest.levels.now);
      next : now.next + length l.rest.levels.now ≤ old.next + length l.fn.of.levels.now;
      given : l.running < 2 ^ 62;
    }

abbrev pub decreases-loop-rest : goal.decreases-loop-rest
decreases-loop-rest g l = length l.rest.levels.now
