use Rattle.std.proofs.Common.{◌+◌, ◌++◌, [], ◌∷◌, List, arith}
use Rattle.std.specs.List.{range_with_len}
use Rattle.pb_steps.specs.declared.op.PolOp.TheVariants.{Push}
use Rattle.pb_steps.specs.declared.step.Step.{Step}
use Rattle.pb_steps.specs.declared.step.Step.TheVariants.{Del}
use Rattle.pb_derive.specs.Reifications.{reification_steps}
use Rattle.pb_family.proofs.Deriving.{steps_same}
use Rattle.pb_family.proofs.Sequence.{reification_ids}
use Rattle.pb_diagram.specs.Guards.{climb_line, guard, guard_width, split_line}
use Rattle.pb_diagram.specs.inner.Tiers.{rung_in}
use Rattle.pb_diagram.proofs.GuardedHanding.{climb_same, first_fault, line_next, then_others}
use Rattle.pb_diagram.proofs.tier.Tier.derive_climb.Goals as goal

pub hand_line-requires : goal.hand_line-requires
hand_line-requires g c =
    let old = g.T.StepSink.state c.args.sink.now in
    record { few = omega (arith, c.requires.few, c.in_ok-derive_guard.ensures.ids, reification_ids old.next (guard c.args.guard (rung_in c.args.self.now))) }

pub hand_line-requires-2 : goal.hand_line-requires-2
hand_line-requires-2 g c =
    let old = g.T.StepSink.state c.args.sink.now in
    record { few = omega (arith, c.requires.few, c.in_ok-derive_guard.ensures.ids, line_next (c.in_ok-hand_line.ensures _ c.guarded.ensures), reification_ids old.next (guard c.args.guard (rung_in c.args.self.now))) }

pub derive_deletion-requires : goal.derive_deletion-requires
derive_deletion-requires g c =
    let old = g.T.StepSink.state c.args.sink.now in
    record {
      fits = omega (arith, c.requires.few, c.saturating_sub-before.ensures, c.next_id-next.ensures);
      few = omega (arith, c.requires.few, c.in_ok-derive_guard.ensures.ids, line_next (c.in_ok-hand_line.ensures _ c.guarded.ensures), line_next (c.in_ok-hand_line-2.ensures _ c.climbed.ensures), reification_ids old.next (guard c.args.guard (rung_in c.args.self.now)));
    }

pub returns-in_err-derive_guard : goal.returns-in_err-derive_guard
returns-in_err-derive_guard g c =
    let r = rung_in c.args.self.now in
    let old = g.T.StepSink.state c.args.sink.now in
    let id = c.next_id-next.result in
    let before = c.saturating_sub-before.result in
    let same = climb_same c.args.guard r old.next id before c.next_id-next.ensures c.saturating_sub-before.ensures in
    let one : List Step = reification_steps old.next (guard c.args.guard r ∷ []) in
    let two : List Step = split_line r (Push (id + 1) ∷ []) (guard_width r) ∷ [] in
    let three : List Step = climb_line r id (id + 2) before ∷ [] in
    let four : List Step = Del (range_with_len before 4) ∷ [] in
    steps_same c.from_residual.result _ _ old (g.T.StepSink.state c.derive_guard.new.sink) same (first_fault c.from_residual.result one (two ++ (three ++ four)) old _ (g.T.StepSink.state c.derive_guard.new.sink) c.from_residual.ensures.1 c.in_err-derive_guard.ensures)

pub returns-in_err-hand_line : goal.returns-in_err-hand_line
returns-in_err-hand_line g c =
    let r = rung_in c.args.self.now in
    let old = g.T.StepSink.state c.args.sink.now in
    let id = c.next_id-next.result in
    let before = c.saturating_sub-before.result in
    let same = climb_same c.args.guard r old.next id before c.next_id-next.ensures c.saturating_sub-before.ensures in
    let one : List Step = reification_steps old.next (guard c.args.guard r ∷ []) in
    let two : List Step = split_line r (Push (id + 1) ∷ []) (guard_width r) ∷ [] in
    let three : List Step = climb_line r id (id + 2) before ∷ [] in
    let four : List Step = Del (range_with_len before 4) ∷ [] in
    let e = c.from_residual-in_err-hand_line in
    steps_same e.result _ _ old (g.T.StepSink.state c.hand_line.new.sink) same (then_others e.result one (two ++ (three ++ four)) old (g.T.StepSink.state c.derive_guard.new.sink) (g.T.StepSink.state c.hand_line.new.sink) c.in_ok-derive_guard.ensures (first_fault e.result two (three ++ four) (g.T.StepSink.state c.derive_guard.new.sink) _ (g.T.StepSink.state c.hand_line.new.sink) e.ensures.1 (c.in_err-hand_line.ensures _ c.guarded.ensures)))

pub returns-in_err-hand_line-2 : goal.returns-in_err-hand_line-2
returns-in_err-hand_line-2 g c =
    let r = rung_in c.args.self.now in
    let old = g.T.StepSink.state c.args.sink.now in
    let id = c.next_id-next.result in
    let before = c.saturating_sub-before.result in
    let same = climb_same c.args.guard r old.next id before c.next_id-next.ensures c.saturating_sub-before.ensures in
    let one : List Step = reification_steps old.next (guard c.args.guard r ∷ []) in
    let two : List Step = split_line r (Push (id + 1) ∷ []) (guard_width r) ∷ [] in
    let three : List Step = climb_line r id (id + 2) before ∷ [] in
    let four : List Step = Del (range_with_len before 4) ∷ [] in
    let e = c.from_residual-in_err-hand_line-2 in
    steps_same e.result _ _ old (g.T.StepSink.state c.hand_line-2.new.sink) same
    (then_others e.result one (two ++ (three ++ four)) old (g.T.StepSink.state c.derive_guard.new.sink) (g.T.StepSink.state c.hand_line-2.new.sink) c.in_ok-derive_guard.ensures
    (then_others e.result two (three ++ four) (g.T.StepSink.state c.derive_guard.new.sink) (g.T.StepSink.state c.hand_line.new.sink) (g.T.StepSink.state c.hand_line-2.new.sink) (c.in_ok-hand_line.ensures _ c.guarded.ensures) (first_fault e.result three four (g.T.StepSink.state c.hand_line.new.sink) _ (g.T.StepSink.state c.hand_line-2.new.sink) e.ensures.1 (c.in_err-hand_line-2.ensures _ c.climbed.ensures))))

pub returns : goal.returns
returns g c =
    let r = rung_in c.args.self.now in
    let old = g.T.StepSink.state c.args.sink.now in
    let id = c.next_id-next.result in
    let before = c.saturating_sub-before.result in
    let same = climb_same c.args.guard r old.next id before c.next_id-next.ensures c.saturating_sub-before.ensures in
    let one : List Step = reification_steps old.next (guard c.args.guard r ∷ []) in
    let two : List Step = split_line r (Push (id + 1) ∷ []) (guard_width r) ∷ [] in
    let three : List Step = climb_line r id (id + 2) before ∷ [] in
    let four : List Step = Del (range_with_len before 4) ∷ [] in
    let r1 = c.derive_deletion.result in
    steps_same r1 _ _ old (g.T.StepSink.state c.derive_deletion.new.sink) same
    (then_others r1 one (two ++ (three ++ four)) old (g.T.StepSink.state c.derive_guard.new.sink) (g.T.StepSink.state c.derive_deletion.new.sink) c.in_ok-derive_guard.ensures
    (then_others r1 two (three ++ four) (g.T.StepSink.state c.derive_guard.new.sink) (g.T.StepSink.state c.hand_line.new.sink) (g.T.StepSink.state c.derive_deletion.new.sink) (c.in_ok-hand_line.ensures _ c.guarded.ensures) (then_others r1 three four (g.T.StepSink.state c.hand_line.new.sink) (g.T.StepSink.state c.hand_line-2.new.sink) (g.T.StepSink.state c.derive_deletion.new.sink) (c.in_ok-hand_line-2.ensures _ c.climbed.ensures) c.derive_deletion.ensures)))
