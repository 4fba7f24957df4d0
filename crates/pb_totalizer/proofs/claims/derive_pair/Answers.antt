use Rattle.std.proofs.Common.{◌+◌, ◌-◌, ◌*◌, ◌++◌, ◌∷◌, []}
use Rattle.pb_family.specs.Derivations.{claimed}
use Rattle.pb_family.proofs.Deriving.{steps_same}
use Rattle.pb_totalizer.proofs.claims.derive_pair.Goals as goal

pub returns : goal.returns
returns g c =
    let old = g.T.StepSink.state c.args.sink.now in
    steps_same c.derive_by.result _ _ old (g.T.StepSink.state c.derive_by.new.sink) (λ k. claimed old.next (c.first_id-left.ensures k ++ (c.first_id-right.ensures k ++ (c.args.node.now.own + 2 * (c.args.i + c.args.j - 1) + 1) ∷ [])) (c.leaves_beside.ensures k)) c.derive_by.ensures
