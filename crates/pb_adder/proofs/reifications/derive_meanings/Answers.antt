use Rattle.std.proofs.Common.{◌≡◌, ◌+◌, ◌-◌, ◌∷◌, [], ℕ, length, take, refl, arith}
use Rattle.pb_norm.specs.Constraints.{weights}
use Rattle.pb_derive.specs.Reifications.{Reification, reification_steps}
use Rattle.pb_family.proofs.Deriving.{steps_same}
use Rattle.pb_family.proofs.Sequence.{reifications_ids}
use Rattle.pb_adder.proofs.Walking.{part_stopped, parts_handed}
use Rattle.pb_adder.proofs.reifications.derive_meanings.Goals as goal

pub returns-in_err-derive_reification : goal.returns-in_err-derive_reification
returns-in_err-derive_reification g c =
    let old = g.T.StepSink.state c.args.sink.now in
    let first : Reification = record { var = c.args.carry; sum = weights (take (length c.args.all.now - 1) c.args.all.now); least = 2 } in
    let second : Reification = record { var = c.args.sum; sum = weights c.args.all.now; least = 3 } in
    part_stopped c.from_residual.result _ (reification_steps old.next (first ∷ second ∷ [])) (reification_steps old.next (first ∷ [])) (reification_steps (old.next + 2) (second ∷ []))
    old (g.T.StepSink.state c.derive_reification.new.sink) c.from_residual.ensures.1 refl c.in_err-derive_reification.ensures

pub returns : goal.returns
returns g c =
    let old = g.T.StepSink.state c.args.sink.now in
    let mid = g.T.StepSink.state c.derive_reification.new.sink in
    let after = g.T.StepSink.state c.derive_reification-2.new.sink in
    let first : Reification = record { var = c.args.carry; sum = weights (take (length c.args.all.now - 1) c.args.all.now); least = 2 } in
    let second : Reification = record { var = c.args.sum; sum = weights c.args.all.now; least = 3 } in
    let two : mid.next ≡ old.next + 2 = omega (arith, c.in_ok-derive_reification.ensures.ids, reifications_ids old.next (first ∷ [])) in
    let steps = λ (n : ℕ). reification_steps n (second ∷ []) in
    parts_handed c.derive_reification-2.result (reification_steps old.next (first ∷ second ∷ [])) (reification_steps old.next (first ∷ [])) (steps (old.next + 2)) old mid after refl c.in_ok-derive_reification.ensures
    (steps_same c.derive_reification-2.result (steps mid.next) (steps (old.next + 2)) mid after (λ i. steps (two i)) c.derive_reification-2.ensures)
