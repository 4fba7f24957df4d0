use Rattle.std.proofs.Common.{[]}
use Rattle.pb_family.proofs.Emission.{emitting_from, emitting_starts, emitting_step, hands_fault, hands_last}
use Rattle.pb_totalizer.specs.declared.polarity.Polarity.TheVariants.{Both}
use Rattle.pb_totalizer.specs.declared.polarity.Direction.TheVariants as direction
use Rattle.pb_totalizer.specs.inner.NodeClauses.{rows_over}
use Rattle.pb_totalizer.specs.laws.Polarity.{by_ways, first_by_ways, own_over}
use Rattle.pb_totalizer.proofs.emission.emit_own.Goals as goal

pub returns-in_err-emit_rows : goal.returns-in_err-emit_rows
returns-in_err-emit_rows g c =
    let sums = rows_over direction.Up c.args.node.now in
    let limits = rows_over direction.Down c.args.node.now in
    hands_fault {all = own_over c.args.polarity c.args.node.now} c.from_residual.result _ sums (by_ways c.args.polarity [] limits) _ c.from_residual.ensures.1
    (emitting_from _ (first_by_ways c.args.polarity sums limits)) c.in_err-emit_rows.ensures

pub returns-in-Up : goal.returns-in-Up
returns-in-Up g c = rw c.in-Up.is c.in_ok-emit_rows.ensures

pub returns-in-Both : goal.returns-in-Both
returns-in-Both g c =
    let sums = rows_over direction.Up c.args.node.now in
    let limits = rows_over direction.Down c.args.node.now in
    rw c.in-Both.is
    (hands_last {all = own_over Both c.args.node.now} c.emit_rows-in-Both.result limits _ (emitting_step sums _ (emitting_starts _ _) c.in_ok-emit_rows.ensures) c.emit_rows-in-Both.ensures)
