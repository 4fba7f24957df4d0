use Rattle.pb_family.proofs.Emission.{hands_same}
use Rattle.pb_counter.proofs.CounterHanding.{clauses_by_number}
use Rattle.pb_counter.proofs.grid.Grid.emit.Goals as goal

pub returns : goal.returns
returns g c =
    let grid = c.args.self.now in
    hands_same c.emit_all.result _ _ (g.S.ClauseSink.state c.args.sink.now) (g.S.ClauseSink.state c.emit_all.new.sink) (clauses_by_number grid.terms.now grid.width grid.first grid.two grid.some) c.emit_all.ensures
