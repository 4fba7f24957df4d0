use Rattle.std.proofs.Common.{◌∷◌, ◌∙◌, List, ap}
use Rattle.pb_steps.specs.declared.op.PolOp.{PolOp}
use Rattle.pb_steps.specs.declared.op.PolOp.TheVariants.{Push}
use Rattle.pb_steps.specs.declared.step.Step.TheVariants.{Pol}
use Rattle.pb_counter.proofs.RowsHanding.{weakens_same}
use Rattle.pb_counter.proofs.halves.narrow_step.Goals as goal

pub returns : goal.returns
returns c = ap Pol (c.from_vec.ensures ∙ c.in_ok-ops.ensures ∙ ap (λ (os : List PolOp). Push c.args.whole ∷ os) (weakens_same c.args.terms.now))
