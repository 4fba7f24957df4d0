use Rattle.std.proofs.Common.{◌≡◌, subst, rules}
use mir.Val.{SFits}
use mir.Syntax.{w128}
use Rattle.std.proofs.lemmas.Int.{to_z-of_z}
use Rattle.std.specs.Prelude.{OnOk, IfOk, IsErrOf}
use Rattle.pb_named.specs.declared.numbering.NumberFault.TheVariants.{Variables}
use Rattle.pb_named.specs.declared.products.Factor.{Factor}
use Rattle.pb_named.specs.NamedProblems.{terms_by}
use Rattle.pb_named.specs.Products.{product_in}
use Rattle.pb_named.specs.inner.Columns.{listed}
use Rattle.pb_named.specs.inner.Numbering.{IsOver}
use Rattle.pb_named.proofs.NumberLemmas.{noting, when-ok}
use Rattle.pb_named.proofs.sums.term_of.Goals as goal

pub returns-clause-places : goal.returns-clause-places
returns-clause-places c = when-ok c.by_factor.result c.in_ok-factor.ensures.places

pub returns-clause-noted : goal.returns-clause-noted
returns-clause-noted c = subst (λ (f : Factor). OnOk c.by_factor.result (c.by_factor.new.products ≡ noting c.args.products.now (product_in f))) c.in_ok-factor.ensures.factor c.by_factor.ensures.noted

pub returns-clause-term : goal.returns-clause-term
returns-clause-term c =
    let P = c.args.products.now in
    let t = c.args.table.now in
    let fits : SFits w128 c.coef.result = search rules in
    let made : IfOk c.by_factor.result (λ o. listed o ≡ terms_by t (noting P (product_in c.in_ok-factor.factor)) c.coef.result c.in_ok-factor.factor) = (simp to_z-of_z at c.by_factor.ensures.term) in
    subst (λ (f : Factor). IfOk c.by_factor.result (λ o. listed o ≡ terms_by t (noting P (product_in f)) c.args.term.now.coef f)) c.in_ok-factor.ensures.factor
    (subst (λ k. IfOk c.by_factor.result (λ o. listed o ≡ terms_by t (noting P (product_in c.in_ok-factor.factor)) k c.in_ok-factor.factor)) c.coef.ensures made)

pub returns-clause-many : goal.returns-clause-many
returns-clause-many c = subst (λ (f : Factor). IsErrOf c.by_factor.result Variables → IsOver c.args.table.now (noting c.args.products.now (product_in f))) c.in_ok-factor.ensures.factor c.by_factor.ensures.many
