use Rattle.std.proofs.Common.{◌+◌, ◌*◌, ◌++◌, ◌∷◌, []}
use Rattle.pb_family.specs.Derivations.{claimed}
use Rattle.pb_family.proofs.Deriving.{steps_same}
use Rattle.pb_totalizer.proofs.limit_claims.derive_limit.Goals as goal

pub returns : goal.returns
returns g c =
    let old = g.T.StepSink.state c.args.sink.now in
    steps_same c.derive_by.result _ _ old (g.T.StepSink.state c.derive_by.new.sink) (λ k. claimed old.next (c.id_after-left.ensures k ++ (c.id_after-right.ensures k ++ (c.args.node.now.own + 2 * (c.args.i + c.args.j)) ∷ [])) (c.leaves_after.ensures k)) c.derive_by.ensures
