use Rattle.std.proofs.Common.{[], ◌∷◌, List}
use Rattle.pb_steps.specs.declared.op.PolOp.TheVariants.{Axiom, Weaken}
use Rattle.pb_steps.specs.declared.step.Step.{Step}
use Rattle.pb_steps.specs.declared.step.Step.TheVariants.{Pol}
use Rattle.pb_family.proofs.Deriving.{deriving_starts, deriving_step, steps_fault, steps_last}
use Rattle.pb_totalizer.specs.inner.Sides.{leaf_lines}
use Rattle.pb_totalizer.proofs.side.derive_leaf.Goals as goal

pub returns-in_err-derive_itself : goal.returns-in_err-derive_itself
returns-in_err-derive_itself g c =
    let all : List Step = leaf_lines c.args.lit.now in
    steps_fault {all = all} c.from_residual.result _ (Pol (Axiom c.args.lit.now ∷ []) ∷ []) (Pol (Axiom c.args.lit.now ∷ Weaken c.args.lit.now.var ∷ []) ∷ []) _ c.from_residual.ensures.1 (deriving_starts all _) c.in_err-derive_itself.ensures

pub returns : goal.returns
returns g c =
    let all : List Step = leaf_lines c.args.lit.now in
    let last : List Step = Pol (Axiom c.args.lit.now ∷ Weaken c.args.lit.now.var ∷ []) ∷ [] in
    steps_last {all = all} c.derive_nothing.result last _ (deriving_step {left = last} (Pol (Axiom c.args.lit.now ∷ []) ∷ []) _ (deriving_starts all _) c.in_ok-derive_itself.ensures) c.derive_nothing.ensures
