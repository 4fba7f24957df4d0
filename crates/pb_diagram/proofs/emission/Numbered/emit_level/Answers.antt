use Rattle.pb_norm.specs.Constraints.{weighted}
use Rattle.pb_diagram.proofs.LevelSteps.{level_ends, level_starts, false_fault, true_fault, node_taken}
use Rattle.pb_diagram.proofs.emission.Numbered.emit_level.Goals as goal

pub loop-place-init : goal.loop-place-init
loop-place-init g c = level_starts (weighted c.args.self.now.layer.term.now) c.args.self.now.layer.whole c.args.self.now.after c.args.self.now.layer.next.now c.args.self.now.first c.args.self.now.layer.nodes.now _

pub returns-in_err-emit_false : goal.returns-in_err-emit_false
returns-in_err-emit_false g c = false_fault _ _ _ _ _ _ c.from_residual.result _ c.from_residual.ensures.1 c.loop-place.place _ _ c.loop-place-test.true c.loop-place.invariant c.in_err-emit_false.ensures

pub returns-in_err-emit_true : goal.returns-in_err-emit_true
returns-in_err-emit_true g c =
    true_fault _ _ _ _ _ _ c.from_residual-in_err-emit_true.result _ c.from_residual-in_err-emit_true.ensures.1 c.loop-place.place _ _ _ c.loop-place-test.true c.loop-place.invariant c.in_ok-emit_false.ensures c.in_err-emit_true.ensures

pub loop-place-preserved : goal.loop-place-preserved
loop-place-preserved g c = node_taken _ _ _ _ _ _ c.loop-place.place _ _ _ c.loop-place-test.true c.loop-place.invariant c.in_ok-emit_false.ensures c.in_ok-emit_true.ensures

pub emit_false-requires-clause-held : goal.emit_false-requires-clause-held
emit_false-requires-clause-held g c = (c.args.self.now.layer.linked c.loop-place.place _ c.loop-place-test.true).0

pub emit_true-requires-clause-held : goal.emit_true-requires-clause-held
emit_true-requires-clause-held g c = (c.args.self.now.layer.linked c.loop-place.place _ c.loop-place-test.true).1

pub returns : goal.returns
returns g c = level_ends _ _ _ _ _ _ c.loop-place.place c.loop-place-test.false c.loop-place.invariant

pub emit_false-requires-clause-within : goal.emit_false-requires-clause-within
emit_false-requires-clause-within g c = c.loop-place-test.true

pub emit_true-requires-clause-within : goal.emit_true-requires-clause-within
emit_true-requires-clause-within g c = c.loop-place-test.true
