use Rattle.std.proofs.Common.{List, ap, sym, subst, arith}
use Rattle.pb_norm.specs.Constraints.{Weighted}
use Rattle.pb_family.specs.Families.{VarsBelow}
use Rattle.pb_family.specs.Handing.{HandsIfMemory}
use Rattle.pb_family.proofs.Emission.{emitting_starts}
use Rattle.pb_family.proofs.Stopping.{stops_between}
use Rattle.pb_gentot.specs.BoundTable.{table_clauses, table_fresh}
use Rattle.pb_encode.specs.Tables.{table_terms}
use Rattle.pb_encode.proofs.TableTerms.{table_below}
use Rattle.pb_encode.proofs.table.stream_table.Goals as goal

pub returns-in_err-table : goal.returns-in_err-table
returns-in_err-table g c =
    stops_between c.from_residual.result c.from_residual.ensures.1 (emitting_starts (table_clauses (table_terms c.args.input.now.options.now c.args.input.now.problem.now) c.args.first) _)

pub emit-requires : goal.emit-requires
emit-requires g c =
    let e = c.args.input.now in
    record {
      original = subst (VarsBelow c.args.first) (sym c.in_ok-table.ensures) (table_below e.problem.now e.within e.options.now c.args.first (omega (arith, c.requires.first)));
      low = omega (arith, c.requires.first);
      fits = omega (arith, c.requires.first, e.encodable.vars, ap table_fresh c.in_ok-table.ensures);
    }

pub returns : goal.returns
returns g c =
    subst (λ (ts : List Weighted). HandsIfMemory (table_clauses ts c.args.first) c.emit.result (g.S.ClauseSink.state c.args.sink.now) (g.S.ClauseSink.state c.emit.new.sink)) c.in_ok-table.ensures c.emit.ensures
