use Rattle.std.proofs.Common.{List, [], ◌∷◌, ap}
use Rattle.pb_base.specs.declared.literal.Lit.{Lit}
use Rattle.pb_family.proofs.Emission.{hands_same}
use Rattle.pb_amo.proofs.rungs.RungsNumberedClauses.emit_one.Goals as goal

pub returns : goal.returns
returns g c =
    let sink = g.S.ClauseSink in
    hands_same c.clause.result _ _ (sink.state c.args.sink.now) (sink.state c.clause.new.self) (ap (λ (d : List Lit). d ∷ []) c.pair-one.ensures) c.clause.ensures
