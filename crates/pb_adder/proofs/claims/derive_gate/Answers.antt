use Rattle.std.proofs.Common.{List, ◌++◌, ◌∙◌, ap}
use Rattle.std.specs.Prelude.{map}
use Rattle.pb_base.specs.declared.literal.Lit.{Lit}
use Rattle.pb_derive.specs.Claims.{claim_steps}
use Rattle.pb_derive.specs.Rups.{by_rup}
use Rattle.pb_family.proofs.Deriving.{steps_same}
use Rattle.pb_adder.specs.AdderSteps.{gate_ids}
use Rattle.pb_adder.proofs.Adders.{same_clauses}
use Rattle.pb_adder.proofs.claims.derive_gate.Goals as goal

pub returns-in-Three : goal.returns-in-Three
returns-in-Three g c =
    let old = g.T.StepSink.state c.args.sink.now in
    let by_ids = λ (cs : List (List Lit)). claim_steps old.next (map (by_rup (gate_ids c.args.id)) cs) in
    steps_same c.derive_both.result _ _ old (g.T.StepSink.state c.derive_both.new.sink)
    (ap by_ids ((λ i. c.full_sums-sums.ensures i ++ c.full_carries-carries.ensures i) ∙ same_clauses c.args.first c.args.gate.now c.lits.result _ c.lits.ensures c.in-Three.is)) c.derive_both.ensures

pub returns-in-Two : goal.returns-in-Two
returns-in-Two g c =
    let old = g.T.StepSink.state c.args.sink.now in
    let by_ids = λ (cs : List (List Lit)). claim_steps old.next (map (by_rup (gate_ids c.args.id)) cs) in
    steps_same c.derive_both-in-Two.result _ _ old (g.T.StepSink.state c.derive_both-in-Two.new.sink)
    (ap by_ids ((λ i. c.half_threes-threes.ensures i ++ c.half_twos-twos.ensures i) ∙ same_clauses c.args.first c.args.gate.now c.lits.result _ c.lits.ensures c.in-Two.is)) c.derive_both-in-Two.ensures
