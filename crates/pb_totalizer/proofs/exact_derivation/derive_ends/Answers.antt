use Rattle.std.proofs.Common.{◌+◌, ◌++◌, [], ◌∷◌, List, subst, arith}
use Rattle.pb_steps.specs.declared.step.Step.{Step}
use Rattle.pb_family.specs.Derivations.{claimed}
use Rattle.pb_family.specs.StepSinks.{TakesSteps}
use Rattle.pb_family.proofs.FlatPieces.{justifications_then, justifications_stopped, justifications_next}
use Rattle.pb_tree.proofs.TreeHanded.{stopped_as}
use Rattle.pb_totalizer.specs.inner.LimitSources.{least_given}
use Rattle.pb_totalizer.specs.inner.Sources.{root_given}
use Rattle.pb_totalizer.proofs.exact_derivation.derive_ends.Goals as goal

pub returns-in_err-derive_by : goal.returns-in_err-derive_by
returns-in_err-derive_by g c =
    let old = g.T.StepSink.state c.args.sink.now in
    justifications_stopped c.from_residual.result _ (least_given c.args.root c.args.number c.args.lower ∷ []) (root_given c.args.root (c.args.number + 1) c.args.upper ∷ []) old (g.T.StepSink.state c.derive_by.new.sink) c.from_residual.ensures.1
    (stopped_as (λ k. claimed old.next (c.second_id.ensures k ++ c.args.lower ∷ []) []) c.in_err-derive_by.ensures)

pub derive_root-requires-clause-few : goal.derive_root-requires-clause-few
derive_root-requires-clause-few g c =
    let old = g.T.StepSink.state c.args.sink.now in
    let mid = g.T.StepSink.state c.derive_by.new.sink in
    let taken = subst (λ (ss : List Step). TakesSteps ss old mid) (λ k. claimed old.next (c.second_id.ensures k ++ c.args.lower ∷ []) []) c.in_ok-derive_by.ensures in
    omega (arith, justifications_next (least_given c.args.root c.args.number c.args.lower ∷ []) old mid taken, c.requires.few)

pub returns : goal.returns
returns g c =
    let old = g.T.StepSink.state c.args.sink.now in
    let mid = g.T.StepSink.state c.derive_by.new.sink in
    let taken = subst (λ (ss : List Step). TakesSteps ss old mid) (λ k. claimed old.next (c.second_id.ensures k ++ c.args.lower ∷ []) []) c.in_ok-derive_by.ensures in
    justifications_then c.derive_root.result (least_given c.args.root c.args.number c.args.lower ∷ []) (root_given c.args.root (c.args.number + 1) c.args.upper ∷ []) old mid (g.T.StepSink.state c.derive_root.new.sink) taken c.derive_root.ensures
