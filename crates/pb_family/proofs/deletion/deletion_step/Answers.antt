use Rattle.std.proofs.Common.{◌++◌, ◌∙◌, ℕ, List, ap}
use Rattle.std.specs.List.{range_with_len}
use Rattle.std.proofs.lemmas.Result.{IfOk-from_err}
use Rattle.pb_steps.specs.declared.step.Step.TheVariants.{Del}
use Rattle.pb_family.proofs.deletion.deletion_step.Goals as goal

pub returns-in_err-push_ids : goal.returns-in_err-push_ids
returns-in_err-push_ids c = IfOk-from_err _ _ c.from_residual.ensures.0

pub returns : goal.returns
returns c = ap Del (c.from_vec.ensures ∙ c.in_ok-push_ids.ensures ∙ ap (λ (is : List ℕ). is ++ range_with_len c.args.id c.args.width) c.new-ids.ensures.items)
