use Rattle.std.proofs.Common.{List, sym, subst}
use Rattle.pb_steps.specs.declared.step.Step.{Step}
use Rattle.pb_family.specs.StepSinks.{TakesSteps}
use Rattle.pb_family.proofs.Deriving.{takes_no_steps}
use Rattle.pb_adder.proofs.Walks.{no_last}
use Rattle.pb_adder.proofs.sums.derive_last_deletion.Goals as goal

pub returns-in-None : goal.returns-in-None
returns-in-None g c =
    let old = g.T.StepSink.state c.args.sink.now in
    subst (λ (ss : List Step). TakesSteps ss old old) (sym (no_last c.args.last c.args.levels.now c.in-None.ensures.cases)) (takes_no_steps old)
