use Rattle.std.proofs.Common.{◌+◌, ◌∙◌, ◌++◌, [], ◌∷◌, ℕ, List, ap, arith, drop, sym}
use Rattle.std.proofs.lemmas.List.{drop_all, length-map}
use Rattle.std.proofs.lemmas.Result.{IfOk-from_err}
use Rattle.pb_base.specs.declared.literal.Term.{Term}
use Rattle.pb_norm.specs.Constraints.{weighted, weights}
use Rattle.pb_steps.specs.declared.op.PolOp.{PolOp}
use Rattle.pb_steps.specs.declared.op.PolOp.TheVariants.{Axiom, Weaken}
use Rattle.pb_family.specs.Fresh.{positive_of}
use Rattle.pb_diagram.specs.Guards.{plus_times}
use Rattle.pb_diagram.specs.GuardedSteps.{all_terms}
use Rattle.pb_diagram.proofs.GuardedHanding.{all_made, pushed_first}
use Rattle.pb_diagram.proofs.GuardedLevels.{weights_left}
use Rattle.pb_diagram.proofs.GuardedOps.{part_pushed}
use Rattle.pb_diagram.proofs.guarded.terms_line.Goals as goal

pub returns-in_err-push_ops : goal.returns-in_err-push_ops
returns-in_err-push_ops c = IfOk-from_err _ _ c.from_residual.ensures.0

pub loop-term-init : goal.loop-term-init
loop-term-init c = ap (λ (os : List PolOp). os ++ all_terms (weights c.args.terms.now)) (pushed_first c.in_ok-push_ops.ensures c.new-ops.ensures.items)

pub push_literals-requires : goal.push_literals-requires
push_literals-requires c =
    let t = c.term-item.result in
    record { fits = omega (arith, c.weight.ensures, c.requires.fits c.loop-term.term-index t (omega arith), ap (λ (u : Term). (weighted u).coef) c.term-item.is) }

pub returns-in_err-push_literals : goal.returns-in_err-push_literals
returns-in_err-push_literals c = IfOk-from_err _ _ c.from_residual-in_err-push_literals.ensures.0

pub loop-term-preserved : goal.loop-term-preserved
loop-term-preserved c =
    let ws = weights c.args.terms.now in
    let i = c.loop-term.term-index in
    let t = c.term-item.result in
    let rest = all_terms (drop (i + 1) ws) in
    part_pushed c.loop-term.ops.items (plus_times c.weight.result (Axiom t.lit ∷ [])) c.push_literals.new.ops.items (all_terms (drop i ws)) rest (Axiom (positive_of c.args.var) ∷ Weaken c.args.var ∷ all_terms ws) c.in_ok-push_literals.ensures
    (ap all_terms (weights_left c.args.terms.now i t (omega arith) c.term-item.is) ∙ ap (λ (k : ℕ). plus_times k (Axiom t.lit ∷ []) ++ rest) (sym c.weight.ensures))
    c.loop-term.invariant

pub returns : goal.returns
returns c = all_made c.loop-term.ops.items _ _ (ap all_terms (drop_all c.loop-term.term-index (weights c.args.terms.now) (omega (arith, length-map c.args.terms.now weighted)))) c.loop-term.invariant
