use Rattle.std.proofs.Common.{◌≡◌, ◌∙◌, map, sym, ap, subst}
use Rattle.pb_norm.specs.Constraints.{Weighted}
use Rattle.pb_unit.specs.Reaching.{AreSorted}
use Rattle.pb_unit.proofs.Assuming.{form_sorted, form_opposites, lits_of_weights}
use Rattle.pb_unit.proofs.reaching.sorted_literals.Goals as goal

pub returns-then-degree-eq0 : goal.returns-then-degree-eq0
returns-then-degree-eq0 c = form_opposites c.args.lits.now c.in_ok-form.form c.in_ok-form.ensures.form (sym c.degree.ensures.value ∙ c.if-degree-eq0.true)

pub returns : goal.returns
returns c =
    let form = c.in_ok-form.form in
    let terms = c.terms.result.now in
    let is : c.in_ok-lits_of.field-0.items ≡ map (λ (t : Weighted). t.lit) form.terms = c.in_ok-lits_of.ensures ∙ lits_of_weights terms ∙ ap (map (λ (t : Weighted). t.lit)) c.terms.ensures.weights in
    subst (AreSorted c.args.lits.now) (sym is)
    (form_sorted c.args.lits.now form c.in_ok-form.ensures.form c.degree.ensures.linear.ascending (λ none. c.if-degree-eq0.false (c.degree.ensures.value ∙ none)))
