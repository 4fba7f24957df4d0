use Rattle.pb_base.specs.Pieces.{chunk}
use Rattle.pb_steps.specs.LineSteps.{sets_in}
use Rattle.pb_steps.proofs.ReadLemmas.{set_more}
use Rattle.pb_steps.proofs.constraint.read_sets.Goals as goal

pub sets-preserved : goal.sets-preserved
sets-preserved c = set_more c.args.end c.sets.above c.index-above.result (sets_in c.args.end 0 c.args.words) c.sets.sets c.push.new.self c.sets.words c.next.new.self c.read_value.new.words (chunk c.in-Some.word) c.variable_in.result (record { var = c.in_ok-var.var; value = c.in_ok-value.value }) c.sets.invariant c.in-Some.ensures.steps c.variable_in.ensures c.in_ok-var.was (c.in_ok-value.ensures.ok c.in_ok-var.var) c.in_ok-push.ensures.ok c.index-above.ensures.value
