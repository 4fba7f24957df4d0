use Rattle.std.proofs.Common.{[], ◌∷◌, List}
use Rattle.pb_steps.specs.declared.step.Step.{Step}
use Rattle.pb_family.proofs.Deriving.{deriving_starts, deriving_step, steps_fault, steps_last}
use Rattle.pb_family.proofs.step_sink.derive_steps.Goals as goal

pub returns-in_err-step : goal.returns-in_err-step
returns-in_err-step g c =
    let all : List Step = c.args.one.now ∷ c.args.other.now ∷ [] in
    steps_fault {all = all} c.from_residual.result _ (c.args.one.now ∷ []) (c.args.other.now ∷ []) _ c.from_residual.ensures.1 (deriving_starts all _) c.in_err-step.ensures.hands

pub returns : goal.returns
returns g c =
    let all : List Step = c.args.one.now ∷ c.args.other.now ∷ [] in
    steps_last {all = all} c.step-2.result (c.args.other.now ∷ []) _ (deriving_step {left = c.args.other.now ∷ []} (c.args.one.now ∷ []) _ (deriving_starts all _) c.in_ok-step.ensures.hands) c.step-2.ensures.hands
