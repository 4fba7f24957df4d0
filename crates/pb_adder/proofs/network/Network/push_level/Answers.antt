use Rattle.std.proofs.Common.{◌++◌, ◌∷◌, [], ap}
use Rattle.std.proofs.lemmas.Result.{IfOk-equal, IfOk-from_err, IfOk-weaker}
use Rattle.pb_adder.proofs.LevelSteps.{grown}
use Rattle.pb_adder.proofs.network.Network.push_level.Goals as goal

pub returns-in_err-end : goal.returns-in_err-end
returns-in_err-end c = record { gates = IfOk-from_err _ _ c.from_residual.ensures.0; heights = IfOk-from_err _ _ c.from_residual.ensures.0; ends = IfOk-from_err _ _ c.from_residual.ensures.0 }

pub returns-in_err-resize : goal.returns-in_err-resize
returns-in_err-resize c = record { gates = IfOk-from_err _ _ c.from_residual-in_err-resize.ensures.0; heights = IfOk-from_err _ _ c.from_residual-in_err-resize.ensures.0; ends = IfOk-from_err _ _ c.from_residual-in_err-resize.ensures.0 }

pub returns-clause-gates : goal.returns-clause-gates
returns-clause-gates c = IfOk-weaker c.extend_from_slice.result _ _ (λ _ _. c.in_ok-end.ensures.gates) (grown c.extend_from_slice.result _ _ _ c.extend_from_slice.ensures.items)

pub returns-clause-ends : goal.returns-clause-ends
returns-clause-ends c =
    IfOk-equal c.extend_from_slice.result _ _ _ (grown c.extend_from_slice.result _ _ _ c.extend_from_slice.ensures.items) (ap (λ e. c.args.self.now.ends.items ++ e ∷ []) c.in_ok-end.ensures.end)
