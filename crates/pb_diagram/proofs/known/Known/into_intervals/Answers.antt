use Rattle.std.proofs.Common.{◌∙◌, ◌++◌, sym}
use Rattle.std.proofs.lemmas.Result.{IfOk-from_err}
use Rattle.pb_diagram.proofs.KnownFacts.{intervals_push}
use Rattle.pb_diagram.proofs.known.Known.into_intervals.Goals as goal

pub returns-in_err-extend_from_slice : goal.returns-in_err-extend_from_slice
returns-in_err-extend_from_slice c = IfOk-from_err _ _ c.from_residual.ensures.0

pub loop-run-preserved : goal.loop-run-preserved
loop-run-preserved c =
    c.in_ok-extend_from_slice.ensures.items ∙ (λ x. c.loop-run.invariant x ++ (c.as_slice.ensures.value ∙ c.into_intervals.ensures) x) ∙ sym (intervals_push c.loop-run.yielded c.in-Some.run')
