use Rattle.pb_family.proofs.Emission.{emitting_starts}
use Rattle.pb_family.proofs.Stopping.{stops_fault}
use Rattle.pb_gentot.specs.BoundTable.{table_clauses}
use Rattle.pb_encode.specs.Clauses.{loaded_clauses, problem_clauses, table_first}
use Rattle.pb_encode.specs.Tables.{table_terms}
use Rattle.pb_encode.proofs.TableStreams.{table_last}
use Rattle.pb_encode.proofs.whole.hand_told_clauses.Goals as goal

pub returns-in_err-first : goal.returns-in_err-first
returns-in_err-first g c =
    let o = c.args.input.now.options.now in
    let p = c.args.input.now.problem.now in
    stops_fault c.from_residual.result c.in_err-first.field-0.0 (loaded_clauses o p) (table_clauses (table_terms o p) (table_first o p)) (g.S.ClauseSink.state c.stream_loaded.new.sink) c.from_residual.ensures.1
    (emitting_starts (problem_clauses o p) (g.S.ClauseSink.state c.args.sink.now)) c.in_err-first.ensures.hands

pub returns : goal.returns
returns g c =
    table_last c.args.input.now.options.now c.args.input.now.problem.now (g.S.ClauseSink.state c.args.sink.now) (g.S.ClauseSink.state c.stream_loaded.new.sink) (g.S.ClauseSink.state c.stream_table.new.sink) c.in_ok-first.first c.in_ok-first.ensures.next c.in_ok-first.ensures.hands
    c.stream_table.result c.stream_table.ensures
