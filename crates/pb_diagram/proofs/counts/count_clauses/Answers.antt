use Rattle.std.proofs.Common.{ap, arith, ◌∙◌}
use Rattle.pb_norm.specs.Constraints.{weight, weights}
use Rattle.pb_norm.specs.BoundedSums.{sum_within}
use Rattle.pb_diagram.specs.Levels.{levels_of}
use Rattle.pb_diagram.specs.laws.LinkedCounts.{inner-le}
use Rattle.pb_diagram.proofs.DiagramSteps.{read_layer, read_inner}
use Rattle.pb_diagram.proofs.counts.count_clauses.Goals as goal

pub overflow_add-count-in-loop-i : goal.overflow_add-count-in-loop-i
overflow_add-count-in-loop-i c =
    let shape = c.args.shape in
    let told = c.layer-layer.ensures in
    let read = read_layer shape c.loop-i.i c.layer-layer.result c.loop-i-test.true told.term told.rest told.nodes told.next in
    let inner = read_inner _ _ _ _ _ _ _ read in
    let few = inner-le (weights shape.terms.now) (levels_of (sum_within shape.terms.now shape.bound)) in
    omega (arith, c.count_below-count.ensures, c.loop-i.invariant.counted, shape.count, shape.small)

pub loop-i-preserved : goal.loop-i-preserved
loop-i-preserved c =
    let layer = c.layer-layer.result in
    let told = c.layer-layer.ensures in
    let left = layer.left ∙ ap weight told.rest in
    let read = read_layer c.args.shape c.loop-i.i layer c.loop-i-test.true told.term told.rest told.nodes told.next in
    let inner = read_inner _ _ _ _ _ _ _ read in
    record { left = left; counted = omega (arith, c.count_below-count.ensures, c.loop-i.invariant.counted) }

pub layer-layer-requires-clause-left : goal.layer-layer-requires-clause-left
layer-layer-requires-clause-left c = c.loop-i.invariant.left
