use Rattle.std.proofs.Common.{◌∙◌, [], ◌∷◌, ap}
use Rattle.pb_norm.specs.Constraints.{weights}
use Rattle.pb_family.specs.inner.Parts.{reification_of, second_line}
use Rattle.pb_family.proofs.Deriving.{steps_lack_first, steps_same}
use Rattle.pb_family.proofs.reification.derive_reification.Goals as goal

pub returns-in_err-forward : goal.returns-in_err-forward
returns-in_err-forward g c = steps_lack_first _ (g.T.StepSink.state c.args.sink.now) c.from_residual.result c.from_residual.ensures.1

pub returns-in_err-reverse : goal.returns-in_err-reverse
returns-in_err-reverse g c = steps_lack_first _ (g.T.StepSink.state c.args.sink.now) c.from_residual-in_err-reverse.result c.from_residual-in_err-reverse.ensures.1

pub returns : goal.returns
returns g c =
    let second = c.in_ok-reverse.ensures ∙ ap (λ id. second_line id (reification_of c.args.var (weights c.args.terms.now) c.args.least)) c.next_id-id.ensures in
    steps_same c.derive_steps.result _ _ (g.T.StepSink.state c.args.sink.now) (g.T.StepSink.state c.derive_steps.new.sink) (λ i. c.in_ok-forward.ensures i ∷ second i ∷ []) c.derive_steps.ensures
