use Rattle.pb_family.proofs.Deriving.{steps_same}
use Rattle.pb_amo.specs.LadderSteps.{ladder_steps}
use Rattle.pb_amo.proofs.ladder.LadderDeriveImpl.derive.Goals as goal

pub returns : goal.returns
returns g c =
    let old = g.T.StepSink.state c.args.sink.now in
    steps_same c.derive_ladder.result _ _ old (g.T.StepSink.state c.derive_ladder.new.sink) (λ x. ladder_steps (c.rungs.ensures.terms x) (c.rungs.ensures.first x) c.args.id old.next) c.derive_ladder.ensures
