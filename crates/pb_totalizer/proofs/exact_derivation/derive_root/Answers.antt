use Rattle.std.proofs.Common.{◌++◌, ◌∷◌, []}
use Rattle.pb_family.specs.Derivations.{claimed}
use Rattle.pb_family.proofs.Deriving.{steps_same}
use Rattle.pb_totalizer.proofs.exact_derivation.derive_root.Goals as goal

pub returns : goal.returns
returns g c =
    let old = g.T.StepSink.state c.args.sink.now in
    steps_same c.derive_by.result _ _ old (g.T.StepSink.state c.derive_by.new.sink) (λ k. claimed old.next (c.first_id.ensures k ++ c.args.own ∷ []) []) c.derive_by.ensures
