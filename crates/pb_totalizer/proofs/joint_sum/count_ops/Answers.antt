use Rattle.std.proofs.Common.{◌≡◌, ◌+◌, ◌*◌, ◌∙◌, ◌++◌, [], ◌∷◌, ℕ, List, ap, arith}
use Rattle.pb_steps.specs.declared.op.PolOp.{PolOp}
use Rattle.pb_steps.specs.declared.op.PolOp.TheVariants.{Push, Add}
use Rattle.pb_totalizer.specs.TotalizerSteps.{count_ops}
use Rattle.pb_totalizer.proofs.JointHanding.{count_more}
use Rattle.pb_totalizer.proofs.joint_sum.count_ops.Goals as goal

pub loop-before-preserved : goal.loop-before-preserved
loop-before-preserved c =
    let k : ℕ = c.loop-before.before in
    c.in_ok-extend_from_slice.ensures.items ∙ ap (λ (os : List PolOp). os ++ (c.times.result ∷ Push (c.args.row + 2 * (1 + k)) ∷ Add ∷ c.over.result ∷ [])) c.loop-before.invariant ∙ count_more c.args.row k c.times.ensures c.over.ensures

pub returns : goal.returns
returns c = c.loop-before.invariant ∙ ap (count_ops c.args.row) (let e : c.loop-before.before ≡ c.args.last = omega (arith, c.loop-before.auto.before-end, c.loop-before-test.false) in e)
