use Rattle.std.proofs.Common.{◌≡◌, ◌-◌, ◌++◌, ℕ, [], length, map, subst, arith}
use Rattle.std.specs.List.{range_with_len}
use Rattle.pb_family.proofs.Emission.{Emitting, emitting_ends, emitting_from, emitting_map, hands_fault_map}
use Rattle.pb_gentot.specs.inner.Nodes.{part_output}
use Rattle.pb_gentot.proofs.Neighbours.{between_starts, clause_at, clauses_between}
use Rattle.pb_gentot.proofs.table_clauses.emit_neighbours.Goals as goal

pub loop-place-init : goal.loop-place-init
loop-place-init g c = emitting_from _ (between_starts (part_output c.args.root.now) c.args.root.now.values.items)

pub returns-in_err-clause : goal.returns-in_err-clause
returns-in_err-clause g c =
    let us = c.args.root.now.values.items in
    hands_fault_map c.from_residual.result _ (clause_at (part_output c.args.root.now) us) c.loop-place.place (length us - 1) [] _ _ c.from_residual.ensures.1 (omega (arith, c.loop-place-test.true, c.saturating_sub-place-end.ensures)) c.neighbour_literals-later.ensures c.loop-place.invariant c.in_err-clause.ensures

pub loop-place-preserved : goal.loop-place-preserved
loop-place-preserved g c =
    let us = c.args.root.now.values.items in
    emitting_map (clause_at (part_output c.args.root.now) us) c.loop-place.place (length us - 1) [] _ _ (omega (arith, c.loop-place-test.true, c.saturating_sub-place-end.ensures)) c.neighbour_literals-later.ensures c.loop-place.invariant c.in_ok-clause.ensures

pub returns : goal.returns
returns g c =
    let us = c.args.root.now.values.items in
    let f = part_output c.args.root.now in
    let k = c.loop-place.place in
    let none : length us - 1 - k ≡ 0 = omega (arith, c.loop-place-test.false, c.saturating_sub-place-end.ensures) in
    let sink = g.S.ClauseSink in
    emitting_ends (subst (λ (n : ℕ). Emitting (clauses_between f us) (map (clause_at f us) (range_with_len k n) ++ []) (sink.state c.args.sink.now) (sink.state c.loop-place.sink)) none c.loop-place.invariant)
