use Rattle.std.proofs.Common.{◌+◌, ◌∙◌, length, sym, take, ap, arith}
use Rattle.std.proofs.lemmas.List.{take_all}
use Rattle.std.proofs.lemmas.List.Sums.{sum_by_more, sum_by_more_le}
use Rattle.pb_diagram.specs.declared.interval.Interval.{Interval}
use Rattle.pb_diagram.specs.Clauses.{node_count}
use Rattle.pb_diagram.proofs.counts.count_nodes.Goals as goal

pub loop-level-preserved : goal.loop-level-preserved
loop-level-preserved c =
    ap (λ n. n + length c.nodes.result.now) c.loop-level.invariant
    ∙ ap (λ n. node_count (take c.loop-level.level-index c.args.levels.now) + n) (ap length (c.nodes.ensures ∙ c.level-item.is))
    ∙ sym (sum_by_more (length {A = Interval}) c.args.levels.now c.loop-level.level-index c.level-item.result c.loop-level-test.true)

pub overflow_add-count : goal.overflow_add-count
overflow_add-count c =
    let within = sum_by_more_le (length {A = Interval}) c.args.levels.now c.loop-level.level-index c.level-item.result c.loop-level-test.true in
    omega (arith, within, c.loop-level.invariant, ap length (c.nodes.ensures ∙ c.level-item.is), c.requires)

pub returns : goal.returns
returns c = c.loop-level.invariant ∙ ap node_count (take_all c.loop-level.level-index c.args.levels.now c.loop-level-test.false)
