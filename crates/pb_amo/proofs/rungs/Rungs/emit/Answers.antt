use Rattle.pb_family.proofs.Emission.{hands_same}
use Rattle.pb_amo.proofs.LadderHanding.{clauses_by_number}
use Rattle.pb_amo.proofs.rungs.Rungs.emit.Goals as goal

pub returns : goal.returns
returns g c =
    let rungs = c.args.self.now in
    hands_same c.emit_all.result _ _ (g.S.ClauseSink.state c.args.sink.now) (g.S.ClauseSink.state c.emit_all.new.sink) (clauses_by_number rungs.terms.now rungs.first) c.emit_all.ensures
