use Rattle.std.proofs.Common.{◌+◌, List}
use Rattle.pb_steps.specs.declared.step.Step.{Step}
use Rattle.pb_diagram.specs.GuardedSteps.{sums_steps}
use Rattle.pb_diagram.specs.inner.Ladders.{lower, lower_terms, orders_of, root_in, sums_of}
use Rattle.pb_diagram.proofs.GuardedHanding.{first_fault, then_others}
use Rattle.pb_diagram.proofs.guarded.Guarded.derive_core.Goals as goal

pub returns-in_err-derive_sums : goal.returns-in_err-derive_sums
returns-in_err-derive_sums g c =
    let s = c.args.self.now in
    let one : List Step = sums_steps s.first s.base (orders_of s) (s.first + 1) (lower_terms s) (lower s) (sums_of s) in
    first_fault c.from_residual.result one (root_in s) (g.T.StepSink.state c.args.sink.now) _ (g.T.StepSink.state c.derive_sums.new.sink) c.from_residual.ensures.1 c.in_err-derive_sums.ensures.hands

pub derive_root-requires : goal.derive_root-requires
derive_root-requires g c = record { is = c.requires.is; next = c.in_ok-derive_sums.ensures.next }

pub returns : goal.returns
returns g c =
    let s = c.args.self.now in
    let one : List Step = sums_steps s.first s.base (orders_of s) (s.first + 1) (lower_terms s) (lower s) (sums_of s) in
    then_others c.derive_root.result one (root_in s) (g.T.StepSink.state c.args.sink.now) (g.T.StepSink.state c.derive_sums.new.sink) (g.T.StepSink.state c.derive_root.new.sink) c.in_ok-derive_sums.ensures.hands c.derive_root.ensures
