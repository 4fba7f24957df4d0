use Rattle.std.proofs.Common.{◌≡◌, ◌+◌, drop, length}
use Rattle.pb_derive.specs.Claims.{claim_steps}
use Rattle.pb_family.proofs.Deriving.{Deriving}
use Rattle.pb_choice.specs.ConstraintSteps.{unit_claims}
use Rattle.pb_choice.proofs.derivation.derive_units.Given as goal

abbrev pub invariant-loop-unit : goal.invariant-loop-unit
invariant-loop-unit g l =
    let old = g.T.StepSink.state l.initial.sink in
    let now = g.T.StepSink.state l.sink in
    let left = drop l.unit-index l.unit-items in
    Deriving (claim_steps old.next (unit_claims l.id l.unit-items)) (claim_steps now.next (unit_claims l.id left)) old now × (now.next + length left ≡ old.next + length l.unit-items)
