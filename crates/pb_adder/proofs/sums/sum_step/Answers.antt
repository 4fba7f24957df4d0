use Rattle.std.proofs.lemmas.Result.{IfOk-from_err}
use Rattle.pb_adder.proofs.sums.sum_step.Goals as goal

pub returns-in_err-push_tree : goal.returns-in_err-push_tree
returns-in_err-push_tree c = IfOk-from_err c.from_residual.result _ c.from_residual.ensures.0

pub returns-in_err-extend_from_slice : goal.returns-in_err-extend_from_slice
returns-in_err-extend_from_slice c = IfOk-from_err c.from_residual-in_err-extend_from_slice.result _ c.from_residual-in_err-extend_from_slice.ensures.0
