use Rattle.std.proofs.Common.{[], ◌∷◌, List}
use Rattle.pb_steps.specs.declared.step.Step.{Step}
use Rattle.pb_steps.specs.declared.step.Step.TheVariants.{Del}
use Rattle.pb_family.proofs.Deriving.{deriving_starts, deriving_step, steps_fault, steps_last}
use Rattle.pb_counter.specs.CounterHalves.{both_line}
use Rattle.pb_counter.proofs.halves.derive_joined.Goals as goal

pub returns-in_err-derive_both : goal.returns-in_err-derive_both
returns-in_err-derive_both g c =
    let gone : Step = Del (c.args.narrowed ∷ c.args.one ∷ c.args.middle ∷ c.args.other ∷ []) in
    let all : List Step = both_line c.args.one c.args.other ∷ gone ∷ [] in
    steps_fault {all = all} c.from_residual.result _ (both_line c.args.one c.args.other ∷ []) (gone ∷ []) _ c.from_residual.ensures.1 (deriving_starts all _) c.in_err-derive_both.ensures

pub returns : goal.returns
returns g c =
    let gone : Step = Del (c.args.narrowed ∷ c.args.one ∷ c.args.middle ∷ c.args.other ∷ []) in
    let all : List Step = both_line c.args.one c.args.other ∷ gone ∷ [] in
    steps_last {all = all} c.derive_gone.result (gone ∷ []) _ (deriving_step {left = gone ∷ []} (both_line c.args.one c.args.other ∷ []) _ (deriving_starts all _) c.in_ok-derive_both.ensures) c.derive_gone.ensures
