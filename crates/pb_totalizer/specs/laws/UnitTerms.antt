-- Literals as terms with the coefficient 1.
use Rattle.std.proofs.Common.{◌≡◌, ◌≢◌, ◌≤◌, ◌<◌, ◌^◌, ℕ, true, List, [], ◌∷◌, length, map, pos, refl, ap, sym, ◌∙◌, subst, arith}
use Rattle.std.specs.Prelude.{All}
use Rattle.std.specs.List.{AllPairs}
use Rattle.std.proofs.lemmas.List.Elements.{All-nil, All-cons}
use Rattle.pb_base.specs.declared.literal.Lit.{Lit}
use Rattle.pb_base.specs.declared.literal.Term.{Term}
use Rattle.pb_base.proofs.Pairs.{AllPairs-map}
use Rattle.pb_norm.specs.Constraints.{Weighted, weights}
use Rattle.pb_norm.specs.BoundedSums.{IsProper, sum_within}
use Rattle.pb_norm.specs.Reduction.{all_weigh}
use Rattle.pb_derive.specs.Ones.{unit_of, ones}
use Rattle.pb_derive.proofs.Rups.{ones-weight}
use Rattle.pb_derive.proofs.UnitTerms.{ones-units}
use Rattle.pb_totalizer.specs.Exact.{literals_within}

abbrev pub unit_term : Lit → Term
unit_term l = record { coef = pos 1; lit = l }

pub units_are : (ls : List Lit) → weights (map unit_term ls) ≡ ones ls
units_are [] = refl
units_are (l ∷ ls) = ap (λ (ts : List Weighted). unit_of l ∷ ts) (units_are ls)

-- the code's terms are those of the literals
pub sum_is : (ts : List Term) (ls : List Lit) (d : ℕ) → ts ≡ map unit_term ls → sum_within ts d ≡ literals_within ls d
sum_is ts ls d same = ap (λ (us : List Weighted). record { terms = us; bound = d }) (ap weights same ∙ units_are ls)

pub units_weigh : (ts : List Term) (ls : List Lit) → ts ≡ map unit_term ls → all_weigh 1 (weights ts) ≡ true
units_weigh ts ls same = ap (all_weigh 1) (ap weights same ∙ units_are ls) ∙ ones-units ls

each_unit : (Q : Weighted → Type 0) → ((l : Lit) → Q (unit_of l)) → (ls : List Lit) → All Q (ones ls)
each_unit Q each [] = All-nil Q
each_unit Q each (l ∷ ls) = All-cons Q (unit_of l) (ones ls) (each l) (each_unit Q each ls)

-- of different variables, no literal passes the number by itself, and all together do
pub literals_proper : (ls : List Lit) (d : ℕ) → AllPairs (λ k l. k.var ≢ l.var) ls → 1 ≤ d → d < length ls → length ls ≤ 2 ^ 126 → IsProper (literals_within ls d)
literals_proper ls d apart some not_all few = record {
  positive = each_unit (λ t. 0 < t.coef) (λ l. omega arith) ls;
  within = each_unit (λ t. t.coef ≤ d) (λ l. some) ls;
  distinct = AllPairs-map (λ (t u : Weighted). t.lit.var ≢ u.lit.var) (λ (v w : ℕ). v ≢ w) (λ (t : Weighted). t.lit.var) (λ t u ne. ne) (ones ls)
      (AllPairs-map (λ (k l : Lit). k.var ≢ l.var) (λ (t u : Weighted). t.lit.var ≢ u.lit.var) unit_of (λ k l ne. ne) ls apart);
  bound_from = some;
  heavy = omega (arith, ones-weight ls, not_all);
  weight_fits = omega (arith, ones-weight ls, few);
}

pub sum_proper : (ts : List Term) (ls : List Lit) (d : ℕ) → ts ≡ map unit_term ls → AllPairs (λ k l. k.var ≢ l.var) ls → 1 ≤ d → d < length ls → length ls < 2 ^ 31 → IsProper (sum_within ts d)
sum_proper ts ls d same apart some not_all few = subst IsProper (sym (sum_is ts ls d same)) (literals_proper ls d apart some not_all (let small : length ls ≤ 2 ^ 126 = omega (arith, few) in small))
