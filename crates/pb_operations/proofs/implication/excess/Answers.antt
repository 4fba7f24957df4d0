use Rattle.std.proofs.Common.{◌≡◌, ◌∙◌, ◌-◌, ap, arith, drop, subst, sym}
use Rattle.pb_base.specs.declared.literal.Lit.{Lit}
use Rattle.pb_norm.specs.Constraints.{weights, weighted}
use Rattle.pb_norm.specs.Addition.{coef_of}
use Rattle.pb_operations.specs.inner.Sides.{StartsFrom, turned_lit}
use Rattle.pb_operations.proofs.Excesses.{IsTermAt, excess_more, excess-fits}
use Rattle.pb_operations.proofs.implication.excess.Goals as goal

pub coef_at-requires-clause-starts : goal.coef_at-requires-clause-starts
coef_at-requires-clause-starts c = subst (λ (l : Lit). StartsFrom l.var (drop c.place_from-place.result (weights c.args.others.now))) (sym c.turned.ensures) c.place_from-place.ensures.starts

pub overflow_add-sum : goal.overflow_add-sum
overflow_add-sum c =
    let item : IsTermAt c.args.terms.now c.loop-term.term-index c.term-item.result = record { below = c.loop-term-test.true; here = c.term-item.is } in
    let at : c.coef_at.result ≡ coef_of (drop c.place_from-place.result (weights c.args.others.now)) (turned_lit c.args.turn c.term-item.result.lit) = c.coef_at.ensures ∙ ap (coef_of (drop c.place_from-place.result (weights c.args.others.now))) c.turned.ensures in
    let value : c.saturating_sub-sum.result ≡ (weighted c.term-item.result).coef - coef_of (drop c.place_from-place.result (weights c.args.others.now)) (turned_lit c.args.turn c.term-item.result.lit) = omega (arith, c.saturating_sub-sum.ensures, c.weight.ensures, at) in
    let more = excess_more c.args.turn c.args.terms.now (weights c.args.others.now) c.loop-term.term-index c.loop-term.sum c.saturating_sub-sum.result c.loop-term.place c.place_from-place.result c.term-item.result c.requires.terms item c.loop-term.invariant c.place_from-place.ensures.same value in
    omega (arith, excess-fits c.args.turn (weights c.args.terms.now) (weights c.args.others.now) _ _ _ more, c.requires.room)

pub loop-term-preserved : goal.loop-term-preserved
loop-term-preserved c =
    let item : IsTermAt c.args.terms.now c.loop-term.term-index c.term-item.result = record { below = c.loop-term-test.true; here = c.term-item.is } in
    let at : c.coef_at.result ≡ coef_of (drop c.place_from-place.result (weights c.args.others.now)) (turned_lit c.args.turn c.term-item.result.lit) = c.coef_at.ensures ∙ ap (coef_of (drop c.place_from-place.result (weights c.args.others.now))) c.turned.ensures in
    let value : c.saturating_sub-sum.result ≡ (weighted c.term-item.result).coef - coef_of (drop c.place_from-place.result (weights c.args.others.now)) (turned_lit c.args.turn c.term-item.result.lit) = omega (arith, c.saturating_sub-sum.ensures, c.weight.ensures, at) in
    excess_more c.args.turn c.args.terms.now (weights c.args.others.now) c.loop-term.term-index c.loop-term.sum c.saturating_sub-sum.result c.loop-term.place c.place_from-place.result c.term-item.result c.requires.terms item c.loop-term.invariant c.place_from-place.ensures.same value
