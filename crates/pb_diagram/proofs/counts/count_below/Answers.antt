use Rattle.std.proofs.Common.{take, arith}
use Rattle.std.specs.Prelude.{nat_lt}
use Rattle.std.proofs.lemmas.List.{length-take-le}
use Rattle.std.proofs.lemmas.List.Sums.{count_by-le-length}
use Rattle.pb_diagram.specs.declared.interval.Interval.{Interval}
use Rattle.pb_diagram.proofs.counts.count_below.Goals as goal

pub overflow_add-count : goal.overflow_add-count
overflow_add-count c =
    let i = c.loop-node.node-index in
    let few = count_by-le-length (λ (g : Interval). nat_lt g.low c.args.whole) (take i c.args.nodes.now) in
    let long = length-take-le i c.args.nodes.now (omega (arith, c.loop-node-test.true)) in
    omega (arith, c.loop-node.invariant, few, long, c.loop-node-test.true)
