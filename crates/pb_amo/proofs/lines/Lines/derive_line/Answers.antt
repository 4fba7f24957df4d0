use Rattle.std.proofs.Common.{ap, arith}
use Rattle.pb_norm.specs.Constraints.{weight, weights}
use Rattle.pb_family.proofs.Deriving.{steps_lack_first}
use Rattle.pb_amo.proofs.lines.Lines.derive_line.Goals as goal

pub returns-in_err-terms : goal.returns-in_err-terms
returns-in_err-terms g c = λ p v. steps_lack_first _ (g.T.StepSink.state c.args.sink.now) c.from_residual.result c.from_residual.ensures.1

pub derive_reification-requires-clause-light : goal.derive_reification-requires-clause-light
derive_reification-requires-clause-light g c = omega (arith, ap weight (ap weights c.deref.ensures.value), c.in_ok-terms.ensures.light)
