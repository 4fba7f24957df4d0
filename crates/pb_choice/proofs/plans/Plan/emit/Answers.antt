use Rattle.std.proofs.Common.{List, map, sym, subst}
use Rattle.pb_norm.specs.Constraints.{Weighted}
use Rattle.pb_family.specs.Families.{VarsBelow}
use Rattle.pb_family.specs.declared.sink.SinkFault.TheVariants as fault
use Rattle.pb_family.proofs.Emission.{emitting_from, emitting_step}
use Rattle.pb_family.proofs.Stopping.{stops_fault, stops_last}
use Rattle.pb_choice.specs.Clauses.{unit_clause}
use Rattle.pb_choice.specs.Residual.{left_clauses}
use Rattle.pb_choice.proofs.PlanParts.{plan_clauses}
use Rattle.pb_choice.proofs.RestTerms.{rest_below}
use Rattle.pb_choice.proofs.plans.Plan.emit.Goals as goal

pub emit-requires-clause-original : goal.emit-requires-clause-original
emit-requires-clause-original g c =
    let p = c.args.self.now in
    subst (λ (ts : List Weighted). VarsBelow c.args.first ts) (sym p.left_is.terms_are) (rest_below p.constraint.now c.args.first c.requires.original)

pub returns-in_err-emit_units : goal.returns-in_err-emit_units
returns-in_err-emit_units g c =
    let p = c.args.self.now in
    let whole = plan_clauses p.options p.constraint.now p.units p.left c.args.first p.units_are p.left_is in
    stops_fault c.from_residual.result fault.Failed (map unit_clause p.units) (left_clauses p.left c.args.first) _ c.from_residual.ensures.1
    (emitting_from (g.S.ClauseSink.state c.args.sink.now) whole) c.in_err-emit_units.ensures

pub returns : goal.returns
returns g c =
    let p = c.args.self.now in
    let whole = plan_clauses p.options p.constraint.now p.units p.left c.args.first p.units_are p.left_is in
    stops_last c.emit.result (left_clauses p.left c.args.first) _
    (emitting_step (map unit_clause p.units) _ (emitting_from (g.S.ClauseSink.state c.args.sink.now) whole) c.in_ok-emit_units.ensures) c.emit.ensures
