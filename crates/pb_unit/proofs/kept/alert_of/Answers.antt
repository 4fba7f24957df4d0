use Rattle.std.proofs.Common.{◌≤◌, ◌+◌, ◌^◌, ap, arith, take, subst, List, ℕ}
use Rattle.std.specs.Prelude.{All}
use Rattle.std.proofs.lemmas.List.{take_all}
use Rattle.pb_base.specs.declared.literal.Term.{Term}
use Rattle.pb_norm.specs.Constraints.{Weighted, weight, weights, weighted}
use Rattle.pb_unit.proofs.Entering.{greatest_more, coef_fits, alert_all}
use Rattle.pb_unit.proofs.kept.alert_of.Goals as goal
use Rattle.pb_unit.proofs.kept.alert_of.Goals.{then-weight-greatest, else-weight-greatest}

pub loop-term-preserved : goal.loop-term-preserved
loop-term-preserved c =
    let fits : (weighted c.term-item.result).coef ≤ 2 ^ 126 = coef_fits c.terms-term-items.result.now c.loop-term.term-index c.term-item.result c.loop-term-test.true c.term-item.is (omega (arith, ap weight c.terms-term-items.ensures.weights, c.terms-term-items.ensures.linear.weight_fits)) in
    let more : (g : ℕ) → c.loop-term.greatest ≤ g → (weighted c.term-item.result).coef ≤ g → All (λ (t : Weighted). t.coef ≤ g) (weights (take (c.loop-term.term-index + 1) c.terms-term-items.result.now)) = λ g a b. greatest_more c.terms-term-items.result.now c.loop-term.term-index c.term-item.result c.loop-term.greatest g c.loop-term-test.true c.term-item.is a b c.loop-term.invariant.most in
    elim c.if-weight-greatest.branch [
      | then-weight-greatest w ↦ record { fits = omega (arith, fits, c.weight-weight.ensures, w.greatest-is); most = more c.if-weight-greatest.greatest (omega (arith, w.greatest-is, w.if-weight-greatest.true)) (omega (arith, w.greatest-is, c.weight-weight.ensures)) }
      | else-weight-greatest w ↦ record { fits = omega (arith, c.loop-term.invariant.fits, w.greatest-is); most = more c.if-weight-greatest.greatest (omega (arith, w.greatest-is)) (omega (arith, w.greatest-is, w.if-weight-greatest.false, c.weight-weight.ensures)) }
    ]

pub returns : goal.returns
returns c =
    alert_all c.args.constraint.now (weights c.terms-term-items.result.now) c.loop-term.greatest (c.degree.result + c.loop-term.greatest) c.terms-term-items.ensures.weights (omega (arith, c.degree.ensures.value))
    (subst (λ (ts : List Term). All (λ (t : Weighted). t.coef ≤ c.loop-term.greatest) (weights ts)) (take_all c.loop-term.term-index c.terms-term-items.result.now (omega arith)) c.loop-term.invariant.most)
