use Rattle.std.proofs.Common.{◌++◌, ◌∙◌}
use Rattle.pb_family.proofs.Emission.{hands_same}
use Rattle.pb_adder.proofs.Adders.{same_clauses}
use Rattle.pb_adder.proofs.emit.emit_gate.Goals as goal

pub returns-in-Three : goal.returns-in-Three
returns-in-Three g c =
    hands_same c.hand_over_both.result _ _ _ _ ((λ i. c.full_sums.ensures i ++ c.full_carries.ensures i) ∙ same_clauses c.args.first c.args.gate.now c.lits.result _ c.lits.ensures c.in-Three.is) c.hand_over_both.ensures

pub returns-in-Two : goal.returns-in-Two
returns-in-Two g c =
    hands_same c.hand_over_both-in-Two.result _ _ _ _ ((λ i. c.half_threes.ensures i ++ c.half_twos.ensures i) ∙ same_clauses c.args.first c.args.gate.now c.lits.result _ c.lits.ensures c.in-Two.is) c.hand_over_both-in-Two.ensures
