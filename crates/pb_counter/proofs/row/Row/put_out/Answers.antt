use Rattle.std.proofs.Common.{◌+◌, [], ◌∷◌, List}
use Rattle.pb_steps.specs.declared.step.Step.{Step}
use Rattle.pb_steps.specs.declared.step.Step.TheVariants.{Out}
use Rattle.pb_family.proofs.Deriving.{deriving_starts, deriving_step, steps_fault, steps_last}
use Rattle.pb_counter.proofs.row.Row.put_out.Goals as goal

pub returns-in_err-step : goal.returns-in_err-step
returns-in_err-step g c =
    let ids = c.args.self.now.ids in
    let all : List Step = Out (ids.mores + c.args.place) ∷ Out (ids.keeps + c.args.place) ∷ [] in
    steps_fault {all = all} c.from_residual.result _ (Out (ids.mores + c.args.place) ∷ []) (Out (ids.keeps + c.args.place) ∷ []) _ c.from_residual.ensures.1 (deriving_starts all _) c.in_err-step.ensures.hands

pub returns : goal.returns
returns g c =
    let ids = c.args.self.now.ids in
    let all : List Step = Out (ids.mores + c.args.place) ∷ Out (ids.keeps + c.args.place) ∷ [] in
    steps_last {all = all} c.step-2.result (Out (ids.keeps + c.args.place) ∷ []) _ (deriving_step {left = Out (ids.keeps + c.args.place) ∷ []} (Out (ids.mores + c.args.place) ∷ []) _ (deriving_starts all _) c.in_ok-step.ensures.hands) c.step-2.ensures.hands
