use Rattle.std.proofs.Common.{[], ◌∷◌, ◌∙◌, ap, arith}
use Rattle.pb_norm.specs.Constraints.{weight}
use Rattle.pb_derive.specs.Reifications.{reification_steps}
use Rattle.pb_family.proofs.Deriving.{steps_same}
use Rattle.pb_adder.proofs.Adders.{same_meanings}
use Rattle.pb_adder.proofs.reifications.derive_gate_reifications.Goals as goal

pub derive_meanings-requires : goal.derive_meanings-requires
derive_meanings-requires g c = record {
  some = omega arith;
  bits_light = omega (arith, ap weight (λ i. c.once.ensures i ∷ c.once-in-Three.ensures i ∷ c.once-in-Three-2.ensures i ∷ []));
  all_light = omega (arith, ap weight (λ i. c.once.ensures i ∷ c.once-in-Three.ensures i ∷ c.once-in-Three-2.ensures i ∷ c.twice_off.ensures i ∷ []));
  few = c.requires.few;
}

pub derive_meanings-requires-in-Two : goal.derive_meanings-requires-in-Two
derive_meanings-requires-in-Two g c = record {
  some = omega arith;
  bits_light = omega (arith, ap weight (λ i. c.once-in-Two.ensures i ∷ c.once-in-Two-2.ensures i ∷ []));
  all_light = omega (arith, ap weight (λ i. c.once-in-Two.ensures i ∷ c.once-in-Two-2.ensures i ∷ c.twice_off-in-Two.ensures i ∷ []));
  few = c.requires.few;
}

pub returns-in-Three : goal.returns-in-Three
returns-in-Three g c =
    let old = g.T.StepSink.state c.args.sink.now in
    let x = c.in-Three.x in
    steps_same c.derive_meanings.result _ _ old (g.T.StepSink.state c.derive_meanings.new.sink)
    (ap (reification_steps old.next)
    ((λ i. record { var = x.carry.var; sum = c.once.ensures i ∷ c.once-in-Three.ensures i ∷ c.once-in-Three-2.ensures i ∷ []; least = 2 } ∷ record { var = x.sum.var; sum = c.once.ensures i ∷ c.once-in-Three.ensures i ∷ c.once-in-Three-2.ensures i ∷ c.twice_off.ensures i ∷ []; least = 3 } ∷ [])
    ∙ same_meanings c.args.first c.args.gate.now c.lits.result _ c.lits.ensures c.in-Three.is)) c.derive_meanings.ensures

pub returns-in-Two : goal.returns-in-Two
returns-in-Two g c =
    let old = g.T.StepSink.state c.args.sink.now in
    let x = c.in-Two.x in
    steps_same c.derive_meanings-in-Two.result _ _ old (g.T.StepSink.state c.derive_meanings-in-Two.new.sink)
    (ap (reification_steps old.next)
    ((λ i. record { var = x.carry.var; sum = c.once-in-Two.ensures i ∷ c.once-in-Two-2.ensures i ∷ []; least = 2 } ∷ record { var = x.sum.var; sum = c.once-in-Two.ensures i ∷ c.once-in-Two-2.ensures i ∷ c.twice_off-in-Two.ensures i ∷ []; least = 3 } ∷ [])
    ∙ same_meanings c.args.first c.args.gate.now c.lits.result _ c.lits.ensures c.in-Two.is)) c.derive_meanings-in-Two.ensures
