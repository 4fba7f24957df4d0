use Rattle.std.proofs.Common.{◌+◌, ◌-◌, ◌*◌, [], ◌∷◌, ℕ, List, ap}
use Rattle.pb_steps.specs.declared.op.PolOp.TheVariants.{Push, Add}
use Rattle.pb_steps.specs.declared.step.Step.{Step}
use Rattle.pb_steps.specs.declared.step.Step.TheVariants.{Pol, Out}
use Rattle.pb_family.proofs.Deriving.{deriving_starts, deriving_step, steps_fault, steps_last, steps_same}
use Rattle.pb_tree.proofs.TreeHanded.{stopped_as}
use Rattle.pb_totalizer.specs.inner.Larges.{large_of}
use Rattle.pb_totalizer.specs.inner.Windows.{claim_in}
use Rattle.pb_totalizer.proofs.JointHanding.{taken_as}
use Rattle.pb_totalizer.proofs.block_claims.derive_claim.Goals as goal

pub returns-in_err-derive_line : goal.returns-in_err-derive_line
returns-in_err-derive_line g c =
    let b = c.args.block.now in
    let n = b.of.now in
    let i : ℕ = c.args.i in
    let j : ℕ = c.args.j in
    let old = g.T.StepSink.state c.args.sink.now in
    let line : Step = (claim_in (large_of n) b.windows b.number i j).step in
    let all : List Step = line ∷ Out old.next ∷ [] in
    steps_fault {all = all} c.from_residual.result _ (line ∷ []) (Out old.next ∷ []) _ c.from_residual.ensures.1 (deriving_starts all old)
    (stopped_as
    (λ k. Pol (Push (b.windows + (65 * c.block_with-other.ensures k + (i + j - 32 * b.number - 32 * c.block_with-other.ensures k))) ∷ Push (n.left_others + i) ∷ Add ∷ Push (n.right_others + j) ∷ Add ∷ c.over.ensures k ∷ []) ∷ [])
    c.in_err-derive_line.ensures)

pub returns : goal.returns
returns g c =
    let b = c.args.block.now in
    let n = b.of.now in
    let i : ℕ = c.args.i in
    let j : ℕ = c.args.j in
    let old = g.T.StepSink.state c.args.sink.now in
    let mid = g.T.StepSink.state c.derive_line.new.sink in
    let line : Step = (claim_in (large_of n) b.windows b.number i j).step in
    let all : List Step = line ∷ Out old.next ∷ [] in
    steps_last {all = all} c.step.result (Out old.next ∷ []) _
    (deriving_step {left = Out old.next ∷ []} (line ∷ []) mid (deriving_starts all old)
    (taken_as
    (λ k. Pol (Push (b.windows + (65 * c.block_with-other.ensures k + (i + j - 32 * b.number - 32 * c.block_with-other.ensures k))) ∷ Push (n.left_others + i) ∷ Add ∷ Push (n.right_others + j) ∷ Add ∷ c.over.ensures k ∷ []) ∷ [])
    c.in_ok-derive_line.ensures))
    (steps_same c.step.result _ _ mid (g.T.StepSink.state c.step.new.self) (ap (λ (n : ℕ). Out n ∷ []) c.next_id-id.ensures) c.step.ensures.hands)
