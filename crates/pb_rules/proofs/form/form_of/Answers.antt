use Rattle.std.proofs.Common.{◌≡◌, ◌∙◌, ap, sym, subst, rules, FitsSigned, ℕ}
use mir.Syntax.{w128}
use Rattle.std.specs.Int.RustNames.{unsigned_abs}
use Rattle.std.proofs.lemmas.Int.{to_z-of_z}
use Rattle.std.proofs.lemmas.List.Sorted.{IsPermutation-trans}
use Rattle.pb_norm.specs.Constraints.{IsLinear, constraint_of}
use Rattle.pb_rules.proofs.Forms.{ArePositiveTerms, form-is, form-linear, from_zero}
use Rattle.pb_rules.proofs.form.form_of.Goals as goal

pub from_parts-requires-clause-linear : goal.from_parts-requires-clause-linear
from_parts-requires-clause-linear c =
    let right_fits : FitsSigned w128 c.args.right.now = search rules in
    let same = IsPermutation-trans _ _ _ c.in_ok-list.ensures c.put_in_order.ensures.same in
    let positive = subst ArePositiveTerms c.deref.ensures.value (sym c.are_positive.ensures ∙ c.if-are_positive.true) in
    let size : unsigned_abs c.args.right.now ≡ c.unsigned_abs.result = sym (c.unsigned_abs.ensures.value ∙ ap unsigned_abs (to_z-of_z w128 c.args.right.now right_fits)) in
    subst (λ (n : ℕ). IsLinear (constraint_of c.put_in_order.new.terms.items n)) size
    (form-linear c.args.terms.now c.put_in_order.new.terms.items same (c.put_in_order.ensures.ascending c.if-put_in_order.true) positive c.args.right.now (from_zero _ _ (to_z-of_z w128 c.args.right.now right_fits) c.if-right-ge0.true) c.requires)

pub returns-then-are_positive : goal.returns-then-are_positive
returns-then-are_positive c =
    let right_fits : FitsSigned w128 c.args.right.now = search rules in
    let same = IsPermutation-trans _ _ _ c.in_ok-list.ensures c.put_in_order.ensures.same in
    let positive = subst ArePositiveTerms c.deref.ensures.value (sym c.are_positive.ensures ∙ c.if-are_positive.true) in
    let size : c.unsigned_abs.result ≡ unsigned_abs c.args.right.now = c.unsigned_abs.ensures.value ∙ ap unsigned_abs (to_z-of_z w128 c.args.right.now right_fits) in
    c.from_parts.ensures ∙ ap (constraint_of c.put_in_order.new.terms.items) size
    ∙ form-is c.args.terms.now c.put_in_order.new.terms.items same (c.put_in_order.ensures.ascending c.if-put_in_order.true) positive c.args.right.now (from_zero _ _ (to_z-of_z w128 c.args.right.now right_fits) c.if-right-ge0.true)
