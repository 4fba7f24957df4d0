use Rattle.std.proofs.Common.{◌∙◌, ap, sym, arith}
use Rattle.pb_diagram.specs.GuardedSteps.{is_narrow}
use Rattle.pb_diagram.proofs.GuardedNodes.{narrow_done, narrow_left, not_narrow}
use Rattle.pb_diagram.proofs.nodes.are_narrow.Goals as goal

pub loop-level-preserved : goal.loop-level-preserved
loop-level-preserved c =
    let most = c.args.most in
    c.loop-level.invariant
    ∙ narrow_left most c.args.levels.now c.loop-level.level-index c.level-item.result (omega arith) c.level-item.is
    (ap (is_narrow most) (sym c.as_slice.ensures) ∙ (sym c.is_narrow.ensures ∙ c.if-not-is_narrow.false))

pub returns-then-not-is_narrow : goal.returns-then-not-is_narrow
returns-then-not-is_narrow c =
    let most = c.args.most in
    sym
    (c.loop-level.invariant
    ∙ not_narrow most c.args.levels.now c.loop-level.level-index c.level-item.result (omega arith) c.level-item.is
    (ap (is_narrow most) (sym c.as_slice.ensures) ∙ (sym c.is_narrow.ensures ∙ c.if-not-is_narrow.true)))

pub returns : goal.returns
returns c = sym (narrow_done c.args.most c.args.levels.now c.loop-level.level-index (omega arith) c.loop-level.invariant)
