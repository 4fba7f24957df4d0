use Rattle.std.proofs.Common.{List, ap, sym, subst, arith}
use Rattle.pb_norm.specs.Constraints.{Weighted}
use Rattle.pb_family.specs.Families.{VarsBelow}
use Rattle.pb_family.specs.StepSinks.{HandsFrom}
use Rattle.pb_family.proofs.Deriving.{steps_lack_first}
use Rattle.pb_gentot.specs.BoundTable.{table_fresh}
use Rattle.pb_gentot.specs.BoundTableSteps.{table_steps}
use Rattle.pb_encode.proofs.TableTerms.{table_below}
use Rattle.pb_encode.proofs.table.derive_table.Goals as goal

pub returns-in_err-table : goal.returns-in_err-table
returns-in_err-table g c = steps_lack_first _ (g.T.StepSink.state c.args.sink.now) c.from_residual.result c.from_residual.ensures.1

pub derive-requires : goal.derive-requires
derive-requires g c =
    let e = c.args.input.now in
    record {
      original = subst (VarsBelow c.args.first) (sym c.in_ok-table.ensures) (table_below e.problem.now e.within e.options.now c.args.first (omega (arith, c.requires.first)));
      low = omega (arith, c.requires.first);
      fits = omega (arith, c.requires.first, e.encodable.vars, ap table_fresh c.in_ok-table.ensures);
      few = c.requires.few;
    }

pub returns : goal.returns
returns g c =
    subst (λ (ts : List Weighted). HandsFrom (table_steps ts c.args.first) c.derive.result (g.T.StepSink.state c.args.sink.now) (g.T.StepSink.state c.derive.new.sink)) c.in_ok-table.ensures c.derive.ensures
