use Rattle.pb_family.proofs.Deriving.{steps_lack_first, takes_no_steps}
use Rattle.pb_tree.proofs.meanings.MeaningsWalk.leaf.Goals as goal

pub returns-in_err-part-clause-hands : goal.returns-in_err-part-clause-hands
returns-in_err-part-clause-hands g c sink = steps_lack_first _ (g.T.StepSink.state sink) c.from_residual.result c.from_residual.ensures.1

pub returns-clause-hands : goal.returns-clause-hands
returns-clause-hands g c sink = takes_no_steps (g.T.StepSink.state sink)
