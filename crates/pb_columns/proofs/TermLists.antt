-- Terms that are made of coefficients and literals, one after another.
use Rattle.std.proofs.Common.{◌≡◌, ◌≤◌, ◌<◌, ◌+◌, ◌∙◌, ◌++◌, [], ◌∷◌, ℕ, ℤ, List, ap, arith, get_or, length, map, refl, subst, sym, take}
use Rattle.std.specs.List.{range_with_len}
use Rattle.std.proofs.lemmas.List.{map_push, take_more}
use Rattle.std.proofs.lemmas.List.Elements.{All-nil, All-push}
use Rattle.std.proofs.lemmas.List.FromFn.{map-range_with_len_more}
use Rattle.pb_base.specs.declared.literal.Term.{Term}
use Rattle.pb_dimacs.specs.CnfReading.{literal_number}
use Rattle.pb_columns.specs.Columns.{coefficient_at, AreTermsOf}

pub no_terms : (words : List ℕ) (literals : List ℤ) (first : ℕ) (ts : List Term) → ts ≡ [] → AreTermsOf words literals first 0 ts
no_terms words literals first ts none = subst (AreTermsOf words literals first 0) (sym none) (record {
  coefficients = refl;
  literals_are = refl;
  from = All-nil (λ (t : Term). 1 ≤ t.lit.var);
  below = All-nil (λ (t : Term). t.lit.var < first);
})

pub one_more : (words : List ℕ) (literals : List ℤ) (first i : ℕ) (d : ℤ) (ts more : List Term) (t : Term) → i < length literals → AreTermsOf words literals first i ts → more ≡ ts ++ t ∷ [] → t.coef ≡ coefficient_at words (length literals) i → literal_number t.lit ≡ get_or literals i d → 1 ≤ t.lit.var → t.lit.var < first → AreTermsOf words literals first (i + 1) more
one_more words literals first i d ts more t within are pushed coef number low high = subst (AreTermsOf words literals first (i + 1)) (sym pushed) (record {
  coefficients = map_push (λ (t : Term). t.coef) ts t ∙ ap (λ (cs : List ℤ). cs ++ t.coef ∷ []) are.coefficients ∙ ap (λ (z : ℤ). map (coefficient_at words (length literals)) (range_with_len 0 i) ++ z ∷ []) coef
      ∙ sym (map-range_with_len_more (coefficient_at words (length literals)) 0 i i (omega arith));
  literals_are = map_push (λ (t : Term). literal_number t.lit) ts t ∙ ap (λ (zs : List ℤ). zs ++ literal_number t.lit ∷ []) are.literals_are ∙ ap (λ (z : ℤ). take i literals ++ z ∷ []) number ∙ sym (take_more literals i d within);
  from = All-push (λ (t : Term). 1 ≤ t.lit.var) ts t are.from low;
  below = All-push (λ (t : Term). t.lit.var < first) ts t are.below high;
})
