use Rattle.std.proofs.Common.{List, ◌∷◌, [], map, drop, ◌+◌, subst}
use Rattle.std.proofs.lemmas.List.{drop_all}
use Rattle.pb_base.specs.declared.literal.Lit.{Lit}
use Rattle.pb_family.specs.Handing.{Hands, TakesClauses}
use Rattle.pb_family.proofs.Emission.{Emitting, emitting_ends, emitting_starts, emitting_step, hands_fault}
use Rattle.pb_choice.specs.Clauses.{unit_clause}
use Rattle.pb_choice.proofs.UnitClauses.{units_left}
use Rattle.pb_choice.proofs.emission.emit_units.Given.{Over}
use Rattle.pb_choice.proofs.emission.emit_units.Goals.{After-clause}
use Rattle.pb_choice.proofs.emission.emit_units.Goals as goal

pub loop-unit-init : goal.loop-unit-init
loop-unit-init g c = emitting_starts _ _

-- the clause of a unit is next
here : (g : Over) (c : After-clause g) → (let us = c.as_slice-unit-items.result.now in
    Emitting (map unit_clause us) (unit_clause c.unit-item.result ∷ map unit_clause (drop (c.loop-unit.unit-index + 1) us)) (g.S.ClauseSink.state c.args.sink.now) (g.S.ClauseSink.state c.loop-unit.sink))
here g c =
    let us = c.as_slice-unit-items.result.now in
    subst (λ (ls : List Lit). Emitting (map unit_clause us) (map unit_clause ls) (g.S.ClauseSink.state c.args.sink.now) (g.S.ClauseSink.state c.loop-unit.sink)) (units_left us c.loop-unit.unit-index c.unit-item.result c.loop-unit-test.true c.unit-item.is) c.loop-unit.invariant

pub returns-in_err-clause : goal.returns-in_err-clause
returns-in_err-clause g c =
    let us = c.as_slice-unit-items.result.now in
    let d = g.S.ClauseSink.state c.clause.new.self in
    let r = c.from_residual.result in
    let failed = hands_fault {all = map unit_clause us} r _ (unit_clause c.unit-item.result ∷ []) (map unit_clause (drop (c.loop-unit.unit-index + 1) us)) d c.from_residual.ensures.1 (here g (goal.at.returns-in_err-clause g c).After-clause) c.in_err-clause.ensures in
    subst (λ (ls : List Lit). Hands (map unit_clause ls) r (g.S.ClauseSink.state c.args.sink.now) d) c.as_slice-unit-items.ensures failed

pub returns : goal.returns
returns g c =
    let us = c.as_slice-unit-items.result.now in
    let a = g.S.ClauseSink.state c.args.sink.now in
    let b = g.S.ClauseSink.state c.loop-unit.sink in
    let left = subst (λ (ls : List Lit). Emitting (map unit_clause us) (map unit_clause ls) a b) (drop_all c.loop-unit.unit-index us c.loop-unit-test.false) c.loop-unit.invariant in
    subst (λ (ls : List Lit). TakesClauses (map unit_clause ls) a b) c.as_slice-unit-items.ensures (emitting_ends left)

pub loop-unit-preserved : goal.loop-unit-preserved
loop-unit-preserved g c = emitting_step (unit_clause c.unit-item.result ∷ []) (g.S.ClauseSink.state c.clause.new.self) (here g (goal.at.loop-unit-preserved g c).After-clause) c.in_ok-clause.ensures
