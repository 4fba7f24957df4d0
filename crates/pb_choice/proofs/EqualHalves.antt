-- The two halves of a statement are those of one equality.
use Rattle.std.proofs.Common.{◌≡◌, ◌≤◌, ◌<◌, ◌-◌, ◌==◌, ℕ, Bool, true, false, cond, not, List, [], ◌∷◌, map, refl, ap, sym, ◌∙◌, subst, arith, pos, ℤ, ◌+ℤ◌, ◌-ℤ◌, neg_ℤ}
use Rattle.std.proofs.lemmas.Int.{ints, clamps}
use Rattle.std.proofs.lemmas.List.Elements.{All-map}
use Rattle.pb_base.specs.declared.literal.Term.{Term}
use Rattle.pb_base.specs.Literals.{Assignment, lit_value}
use Rattle.pb_base.specs.Problems.{sum_value}
use Rattle.pb_norm.specs.declared.halves.Half.TheVariants.{Upper}
use Rattle.pb_norm.specs.Addition.{cancelled}
use Rattle.pb_norm.specs.Constraints.{Weighted, AllPositive, IsAscending, terms_of, value, weight}
use Rattle.pb_norm.specs.Halves.{half_terms, moved, normal_degree, normal_terms, positive_part, unsigned}
use Rattle.pb_norm.specs.NormalForms.{net}
use Rattle.pb_norm.specs.Reduction.{opposite}
use Rattle.pb_norm.proofs.AdditionOrder.{map-ascending}
use Rattle.pb_norm.proofs.NetBounds.{half_terms-lower}
use Rattle.pb_norm.proofs.NetForm.{same_nets}
use Rattle.pb_norm.proofs.WrittenForm.{normal_terms-ascending, normal_terms-net, normal_terms-positive, normal_terms-value, positive_part-is}
use Rattle.pb_derive.proofs.Opposites.{value-opposite}
use Rattle.pb_choice.specs.EqualityLaws.{StatementsHaveHalves}

-- ---- with all signs turned

turned_net : (at positive : Bool) (z : ℤ) → cond at (cond positive (neg_ℤ z) (neg_ℤ (neg_ℤ z))) (pos 0) ≡ neg_ℤ (cond at (cond positive z (neg_ℤ z)) (pos 0))
turned_net true true z = refl
turned_net true false z = refl
turned_net false positive z = refl

net-turned : (v : ℕ) (ts : List Term) → net (half_terms Upper ts) v ≡ neg_ℤ (net ts v)
net-turned v [] = refl
net-turned v (t ∷ ts) =
    let here = turned_net (t.lit.var == v) t.lit.positive t.coef in
    let rest = net-turned v ts in
    omega (arith, ints, here, rest)

turned_value : (holds : Bool) (z : ℤ) → cond holds (neg_ℤ z) (pos 0) ≡ neg_ℤ (cond holds z (pos 0))
turned_value true z = refl
turned_value false z = refl

value-turned : (a : Assignment) (ts : List Term) → sum_value a (half_terms Upper ts) ≡ neg_ℤ (sum_value a ts)
value-turned a [] = refl
value-turned a (t ∷ ts) =
    let here = turned_value (lit_value a t.lit) t.coef in
    let rest = value-turned a ts in
    omega (arith, ints, here, rest)

-- ---- over the negated literals

opposite_net : (at positive : Bool) (n : ℕ) → cond at (cond (not positive) (pos n) (neg_ℤ (pos n))) (pos 0) ≡ neg_ℤ (cond at (cond positive (pos n) (neg_ℤ (pos n))) (pos 0))
opposite_net true true n = refl
opposite_net true false n = omega (arith, ints)
opposite_net false positive n = refl

net-opposite : (v : ℕ) (us : List Weighted) → net (terms_of (map opposite us)) v ≡ neg_ℤ (net (terms_of us) v)
net-opposite v [] = refl
net-opposite v (u ∷ us) =
    let here = opposite_net (u.lit.var == v) u.lit.positive u.coef in
    let rest = net-opposite v us in
    omega (arith, ints, here, rest)

opposites_positive : (us : List Weighted) → AllPositive us → AllPositive (map opposite us)
opposites_positive us h = All-map (λ (t : Weighted). 0 < t.coef) opposite us h

opposites_ascending : (us : List Weighted) → IsAscending us → IsAscending (map opposite us)
opposites_ascending us h = map-ascending opposite (λ t. refl) us h

-- ---- the halves

terms_turned : (ts : List Term) → normal_terms (half_terms Upper ts) ≡ map opposite (normal_terms ts)
terms_turned ts =
    same_nets (normal_terms (half_terms Upper ts)) (map opposite (normal_terms ts)) (normal_terms-positive (half_terms Upper ts)) (normal_terms-ascending (half_terms Upper ts))
    (opposites_positive (normal_terms ts) (normal_terms-positive ts)) (opposites_ascending (normal_terms ts) (normal_terms-ascending ts))
    (λ v. normal_terms-net v (half_terms Upper ts) ∙ net-turned v ts ∙ ap neg_ℤ (sym (normal_terms-net v ts)) ∙ sym (net-opposite v (normal_terms ts)))

-- what the one asks for and what the other asks for make up all
rest_of_weight : (x y : ℤ) (w : ℕ) → x +ℤ y ≡ pos w → 1 ≤ positive_part x → positive_part y ≡ w - positive_part x
rest_of_weight x y w sum some = omega (arith, ints, clamps, positive_part-is x, positive_part-is y)

degrees_turned : (ts : List Term) (right : ℤ) → 1 ≤ normal_degree ts right → normal_degree (half_terms Upper ts) (neg_ℤ right) ≡ weight (normal_terms ts) - normal_degree ts right
degrees_turned ts right some =
    let us = half_terms Upper ts in
    let a : Assignment = λ v. true in
    let low = normal_terms-value a ts in
    let high = normal_terms-value a us in
    let turned = value-turned a ts in
    let same : value a (normal_terms us) ≡ value a (map opposite (normal_terms ts)) = ap (value a) (terms_turned ts) in
    let all = value-opposite a (normal_terms ts) in
    rest_of_weight (right +ℤ pos (moved ts) -ℤ pos (cancelled (map unsigned ts) [])) (neg_ℤ right +ℤ pos (moved us) -ℤ pos (cancelled (map unsigned us) [])) (weight (normal_terms ts))
    (omega (arith, ints, low, high, turned, same, all)) some

pub statements_have_halves : StatementsHaveHalves
statements_have_halves s =
    let lower = half_terms-lower s.terms in
    record {
      turned = terms_turned s.terms ∙ ap (λ (ts : List Term). map opposite (normal_terms ts)) (sym lower);
      degrees = λ some.
          let here : 1 ≤ normal_degree s.terms s.right = subst (λ (ts : List Term). 1 ≤ normal_degree ts s.right) lower some in
          degrees_turned s.terms s.right here ∙ ap (λ (ts : List Term). weight (normal_terms ts) - normal_degree ts s.right) (sym lower);
    }
