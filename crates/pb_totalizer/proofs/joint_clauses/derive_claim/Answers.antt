use Rattle.std.proofs.Common.{◌+◌, ◌-◌, ◌*◌, [], ◌∷◌, ℕ, List, ap}
use Rattle.pb_steps.specs.declared.op.PolOp.TheVariants.{Push, Add}
use Rattle.pb_steps.specs.declared.step.Step.{Step}
use Rattle.pb_steps.specs.declared.step.Step.TheVariants.{Pol, Out}
use Rattle.pb_family.proofs.Deriving.{deriving_starts, deriving_step, steps_fault, steps_last, steps_same}
use Rattle.pb_tree.proofs.TreeHanded.{stopped_as}
use Rattle.pb_totalizer.specs.inner.Joints.{joint_claim}
use Rattle.pb_totalizer.proofs.JointHanding.{taken_as}
use Rattle.pb_totalizer.proofs.joint_clauses.derive_claim.Goals as goal

pub returns-in_err-derive_line : goal.returns-in_err-derive_line
returns-in_err-derive_line g c =
    let of = c.args.of.now in
    let i : ℕ = c.args.i in
    let j : ℕ = c.args.j in
    let old = g.T.StepSink.state c.args.sink.now in
    let line : Step = (joint_claim of.node of.lefts of.rights i j).step in
    let all : List Step = line ∷ Out old.next ∷ [] in
    steps_fault {all = all} c.from_residual.result _ (line ∷ []) (Out old.next ∷ []) _ c.from_residual.ensures.1 (deriving_starts all old)
    (stopped_as (λ k. Pol (Push (of.node.row.id + 2 * (i + j - 1) + 1) ∷ Push (of.lefts + i) ∷ Add ∷ Push (of.rights + j) ∷ Add ∷ c.over.ensures k ∷ []) ∷ []) c.in_err-derive_line.ensures)

pub returns : goal.returns
returns g c =
    let of = c.args.of.now in
    let i : ℕ = c.args.i in
    let j : ℕ = c.args.j in
    let old = g.T.StepSink.state c.args.sink.now in
    let mid = g.T.StepSink.state c.derive_line.new.sink in
    let line : Step = (joint_claim of.node of.lefts of.rights i j).step in
    let all : List Step = line ∷ Out old.next ∷ [] in
    steps_last {all = all} c.step.result (Out old.next ∷ []) _
    (deriving_step {left = Out old.next ∷ []} (line ∷ []) mid (deriving_starts all old)
    (taken_as (λ k. Pol (Push (of.node.row.id + 2 * (i + j - 1) + 1) ∷ Push (of.lefts + i) ∷ Add ∷ Push (of.rights + j) ∷ Add ∷ c.over.ensures k ∷ []) ∷ []) c.in_ok-derive_line.ensures))
    (steps_same c.step.result _ _ mid (g.T.StepSink.state c.step.new.self) (ap (λ (n : ℕ). Out n ∷ []) c.next_id-id.ensures) c.step.ensures.hands)
