-- Terms without signs, of which each variable stands once, are the normal form's but for their order.
use Rattle.std.proofs.Common.{◌≡◌, ℕ, Bool, true, false, cond, List, [], ◌∷◌, arith, refl, ap, sym, ◌∙◌, subst, filter_map, Option, Some, ℤ, pos, neg_ℤ, ◌-ℤ◌, ◌≤ℤ◌, int_lt, int_le}
use Rattle.std.specs.List.{list_all, cons_option}
use Rattle.std.specs.List.Sorted.{IsPermutation}
use Rattle.std.specs.Int.{int_max}
use Rattle.std.specs.Int.RustNames.{unsigned_abs}
use Rattle.std.proofs.lemmas.Bool.{and_parts}
use Rattle.std.proofs.lemmas.Int.{ints, clamps}
use Rattle.pb_base.specs.declared.literal.Term.{Term}
use Rattle.pb_base.specs.declared.problem.Raw.{Raw}
use Rattle.pb_base.specs.declared.problem.Relation.TheVariants.{AtLeast}
use Rattle.pb_base.specs.Problems.{sum_value, written_value}
use Rattle.pb_base.proofs.IntSums.{int_sum_by-IsPermutation}
use Rattle.pb_norm.specs.declared.halves.Half.TheVariants.{Lower}
use Rattle.pb_norm.specs.Constraints.{IsAscending, IsLinear, AreUnsigned, weights, terms_of, constraint_of}
use Rattle.pb_norm.specs.Halves.{turned_term, half_terms, normal_terms, written}
use Rattle.pb_norm.specs.NormalForms.{signed_coef}
use Rattle.pb_norm.specs.inner.Nets.{net_term, all_false}
use Rattle.pb_norm.proofs.AscendingTerms.{terms_from_ascending}
use Rattle.pb_norm.proofs.NetBounds.{IsHalfMade, least_of, half_terms-lower, made-half, made-unsigned}
use Rattle.pb_norm.proofs.OrderedTerms.{normal_terms-permutation}
use Rattle.pb_norm.proofs.WrittenForm.{written-linear}
use Rattle.pb_steps.specs.Allowed.{IsSlim}

abbrev is_positive_term : Term → Bool
is_positive_term t = int_lt (pos 0) t.coef

abbrev pub ArePositiveTerms : List Term → Type 0
ArePositiveTerms ts = list_all is_positive_term ts ≡ true

-- ---- each term is the one of its variable's net coefficient

own-net : (v : ℕ) (p : Bool) (z : ℤ) → int_lt (pos 0) z ≡ true → net_term v (cond p z (neg_ℤ z)) ≡ Some (record { coef = z; lit = record { var = v; positive = p } })
own-net v true z h =
    let back : pos (unsigned_abs z) ≡ z = grind (arith, ints) in
    rw h (ap (λ (y : ℤ). Some (record { coef = y; lit = record { var = v; positive = true } })) back)
own-net v false z h =
    let above : int_lt (pos 0) (neg_ℤ z) ≡ false = grind (arith, ints) in
    let below : int_lt (neg_ℤ z) (pos 0) ≡ true = grind (arith, ints) in
    let back : pos (unsigned_abs (neg_ℤ z)) ≡ z = grind (arith, ints) in
    rw (above, below) (ap (λ (y : ℤ). Some (record { coef = y; lit = record { var = v; positive = false } })) back)

own-nets : (ts : List Term) → list_all is_positive_term ts ≡ true → ts ≡ filter_map (λ t. net_term t.lit.var (signed_coef (turned_term Lower t))) ts
own-nets [] h = refl
own-nets (t ∷ ts) h =
    let parts = and_parts (is_positive_term t) (list_all is_positive_term ts) h in
    let one : Some t ≡ net_term t.lit.var (signed_coef (turned_term Lower t)) = sym (own-net t.lit.var t.lit.positive t.coef parts.0) in
    ap (λ (us : List Term). t ∷ us) (own-nets ts parts.1) ∙ ap (λ (o : Option Term). cons_option o (filter_map (λ u. net_term u.lit.var (signed_coef (turned_term Lower u))) ts)) one

pub from_zero : (z y : ℤ) → z ≡ y → int_le (pos 0) z ≡ true → pos 0 ≤ℤ y
from_zero z y same h = subst (λ (x : ℤ). pos 0 ≤ℤ x) same (tested z h)
  where
    tested : (x : ℤ) → int_le (pos 0) x ≡ true → pos 0 ≤ℤ x
    tested x t = grind (arith, ints)

module _ (ts us : List Term) (same : IsPermutation ts us) (up : IsAscending (weights us)) (positive : ArePositiveTerms us) where
  normal : us ≡ terms_of (normal_terms (half_terms Lower ts))
  normal = terms_from_ascending Lower us us up (own-nets us positive) ∙ ap terms_of (normal_terms-permutation Lower ts us same)

  pub form-unsigned : AreUnsigned us
  form-unsigned = made-unsigned Lower us ts normal

  -- the terms in order, with a right side that has no sign, are what they write
  pub form-is : (right : ℤ) → pos 0 ≤ℤ right → constraint_of us (unsigned_abs right) ≡ written ts right
  form-is right from =
      let s : Raw = record { terms = ts; relation = AtLeast; right = right } in
      let value : sum_value all_false us ≡ sum_value all_false ts = int_sum_by-IsPermutation (written_value all_false) ts us same in
      let lower : sum_value all_false (half_terms Lower ts) ≡ sum_value all_false ts = ap (sum_value all_false) (half_terms-lower ts) in
      let none : pos 0 ≡ least_of Lower ts us = omega (arith, ints, value, lower) in
      let made : IsHalfMade Lower s ts us (pos 0) = record { written = refl; normal = normal; is_least = none } in
      made-half Lower s ts us (pos 0) (unsigned_abs right) made (degree right from) ∙ ap (λ (vs : List Term). written vs right) (half_terms-lower ts)
    where
      degree : (z : ℤ) → pos 0 ≤ℤ z → pos (unsigned_abs z) ≡ int_max (pos 0) (z -ℤ pos 0)
      degree z h = grind (arith, ints, clamps)

  pub form-linear : (right : ℤ) → pos 0 ≤ℤ right → IsSlim ts right → IsLinear (constraint_of us (unsigned_abs right))
  form-linear right from slim = subst IsLinear (sym (form-is right from)) (written-linear ts right slim)
