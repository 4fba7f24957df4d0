-- The constraints of products: their shape and variables, how many they are, and that each excludes some values.
use Rattle.std.proofs.Common.{◌≡◌, ◌≢◌, ◌≤◌, ◌<◌, ◌+◌, ◌*◌, ◌^◌, ℕ, Bool, true, false, not, cond, List, [], ◌∷◌, map, All, length, refl, ap, sym, ◌∙◌, subst, arith, inl, inr}
use Rattle.std.specs.Prelude.{Contains}
use Rattle.std.specs.List.{AllPairs}
use Rattle.std.proofs.lemmas.Bool.{or_from}
use Rattle.std.proofs.lemmas.List.{length-append, length-map, map-append}
use Rattle.std.proofs.lemmas.List.Elements.{All-nil, All-cons, All-head, All-tail, All-append, All-contains, All-map, All-weaker}
use Rattle.std.proofs.lemmas.List.Kept.{AllPairs-cons}
use Rattle.pb_base.specs.declared.literal.Lit.{Lit}
use Rattle.pb_base.specs.Literals.{Assignment, negated, lit_value, clause_value, is_among}
use Rattle.pb_base.specs.Problems.{IsProductWithin}
use Rattle.pb_base.proofs.Members.{Contains-nil, Contains-here, Contains-there, Contains-cons_cases, among_from, not_among_from}
use Rattle.pb_base.proofs.Pairs.{AllPairs-head, AllPairs-tail, AllPairs-nil, AllPairs-map}
use Rattle.pb_norm.specs.Constraints.{Constraint, Holds, IsLinear, weight}
use Rattle.pb_norm.specs.ClauseForm.{clause_form}
use Rattle.pb_norm.specs.Products.{plain, implied, implying, product_clauses, product_constraints, defining}
use Rattle.pb_norm.proofs.ClauseLaws.{clause_holds}
use Rattle.pb_norm.proofs.ClauseTerms.{form-linear, form-over, form-weight, form-degree}
use Rattle.pb_norm.proofs.ProductLemmas.{length-clauses}
use Rattle.pb_norm.proofs.Variables.{IsOver, OfLit}

-- ---- clauses over different variables

abbrev pub AreApart : List Lit → Type 0
AreApart ls = AllPairs (λ k l. k.var ≢ l.var) ls

-- a literal is told by its variable
by_variable : (ls : List Lit) → AreApart ls → (k l : Lit) → Contains ls k → Contains ls l → k.var ≡ l.var → k ≡ l
by_variable [] apart k l h i same = absurd (Contains-nil k h)
by_variable (m ∷ ls) apart k l h i same =
    let others = AllPairs-head (λ (x y : Lit). x.var ≢ y.var) m ls apart in
    elim (Contains-cons_cases m ls k h) as (λ _. k ≡ l) [
      | inl here ↦ elim (Contains-cons_cases m ls l i) as (λ _. k ≡ l) [
        | inl there ↦ sym here ∙ there
        | inr rest ↦ absurd (All-contains (λ (y : Lit). m.var ≢ y.var) ls l others rest (ap (λ (x : Lit). x.var) here ∙ same))
      ]
      | inr first ↦ elim (Contains-cons_cases m ls l i) as (λ _. k ≡ l) [
        | inl there ↦ absurd (All-contains (λ (y : Lit). m.var ≢ y.var) ls k others first (ap (λ (x : Lit). x.var) there ∙ sym same))
        | inr rest ↦ by_variable ls (AllPairs-tail (λ (x y : Lit). x.var ≢ y.var) m ls apart) k l first rest same
      ]
    ]

not-other : (b : Bool) → not b ≡ b → ⊥
not-other true e = cc
not-other false e = cc

-- none stands both ways
one_way : (ls : List Lit) → AreApart ls → (l : Lit) → Contains ls l → Contains ls (negated l) → ⊥
one_way ls apart l h i = not-other l.positive (ap (λ (x : Lit). x.positive) (by_variable ls apart (negated l) l i h refl))

-- the values under which each literal is false
abbrev against : List Lit → Assignment
against ls v = is_among ls (record { var = v; positive = false })

against-literal : (ls : List Lit) → AreApart ls → (l : Lit) → Contains ls l → lit_value (against ls) l ≡ false
against-literal ls apart l h = by_sign l.positive refl
  where
    by_sign : (b : Bool) → l.positive ≡ b → lit_value (against ls) l ≡ false
    by_sign true e =
        let opposite : negated l ≡ record { var = l.var; positive = false } = λ i. record { var = l.var; positive = not (e i) } in
        ap (λ (b : Bool). cond b (against ls l.var) (not (against ls l.var))) e ∙ ap (is_among ls) (sym opposite) ∙ not_among_from ls (negated l) (one_way ls apart l h)
    by_sign false e =
        let is : l ≡ record { var = l.var; positive = false } = λ i. record { var = l.var; positive = e i } in
        ap (λ (b : Bool). cond b (against ls l.var) (not (against ls l.var))) e ∙ ap not (ap (is_among ls) (sym is) ∙ among_from ls l h)

against-clause : (ls more : List Lit) → AreApart ls → ((l : Lit) → Contains more l → Contains ls l) → clause_value (against ls) more ≡ false
against-clause ls [] apart among = refl
against-clause ls (l ∷ more) apart among =
    or_from (lit_value (against ls) l) (clause_value (against ls) more) (against-literal ls apart l (among l (Contains-here l more))) (against-clause ls more apart (λ k h. among k (Contains-there l more k h)))

-- some values make the clause false
excludes : (ls : List Lit) → AreApart ls → (a : Assignment) × ¬ Holds a (clause_form ls)
excludes ls apart = (
  against ls,
  (λ h. let holds = (clause_holds ls (clause_form ls) refl (against ls)).0 h in
      let fails = against-clause ls ls apart (λ l k. k) in
      cc),
)

-- ---- the constraints of products

-- in normal form over variables with a property, with small numbers, and not without effect
pub record IsFormOver (Q : ℕ → Type 0) (c : Constraint) : Type 0 where
  pub linear : IsLinear c
  pub over : IsOver Q c
  pub weight : weight c.terms ≤ 2 ^ 20 + 1
  pub degree : c.degree ≤ 1
  pub excludes : (a : Assignment) × ¬ Holds a c

form_over : (Q : ℕ → Type 0) (ls : List Lit) → AreApart ls → All (OfLit Q) ls → length ls ≤ 2 ^ 20 + 1 → IsFormOver Q (clause_form ls)
form_over Q ls apart over few = record {
  linear = form-linear ls (omega (arith, few));
  over = form-over Q ls over;
  weight = omega (arith, form-weight ls, few);
  degree = form-degree ls;
  excludes = excludes ls apart;
}

-- the clauses of one product
module _ (Q : ℕ → Type 0) (vars : ℕ) (z : Lit) (later : vars < z.var) (ofz : Q z.var) where
  implied_over : (ls : List Lit) → All (λ l. l.var ≤ vars) ls → All (OfLit Q) ls → All (IsFormOver Q) (map clause_form (map (implied z) ls))
  implied_over [] low over = All-nil (IsFormOver Q)
  implied_over (l ∷ ls) low over =
      let R = λ (x y : Lit). x.var ≢ y.var in
      let here : l.var ≤ vars = All-head (λ (x : Lit). x.var ≤ vars) l ls low in
      let apart : AreApart (implied z l) =
      AllPairs-cons R l (negated z ∷ []) (All-cons (R l) (negated z) [] (λ e. omega (arith, here, later, e)) (All-nil (R l))) (AllPairs-cons R (negated z) [] (All-nil (R (negated z))) (AllPairs-nil R)) in
      let one : All (OfLit Q) (implied z l) = All-cons (OfLit Q) l (negated z ∷ []) (All-head (OfLit Q) l ls over) (All-cons (OfLit Q) (negated z) [] ofz (All-nil (OfLit Q))) in
      All-cons (IsFormOver Q) (clause_form (implied z l)) (map clause_form (map (implied z) ls)) (form_over Q (implied z l) apart one (omega arith))
      (implied_over ls (All-tail (λ (x : Lit). x.var ≤ vars) l ls low) (All-tail (OfLit Q) l ls over))

  implying_over : (ls : List Lit) → IsProductWithin vars ls → All (OfLit Q) ls → IsFormOver Q (clause_form (implying z ls))
  implying_over ls within over =
      let R = λ (x y : Lit). x.var ≢ y.var in
      let others : All (R z) (map negated ls) = All-map (R z) negated ls (All-weaker (λ (l : Lit). l.var ≤ vars) (λ (l : Lit). z.var ≢ l.var) (λ l h e. omega (arith, h, later, e)) ls within.vars_within) in
      let apart : AreApart (implying z ls) = AllPairs-cons R z (map negated ls) others (AllPairs-map R R negated (λ k l h. h) ls within.distinct) in
      form_over Q (implying z ls) apart (All-cons (OfLit Q) z (map negated ls) ofz (All-map (OfLit Q) negated ls over)) (omega (arith, length-map ls negated, within.count))

  product_over : (ls : List Lit) → IsProductWithin vars ls → All (OfLit Q) ls → All (IsFormOver Q) (product_constraints z ls)
  product_over ls within over =
      subst (All (IsFormOver Q)) (sym (map-append clause_form (map (implied z) ls) (implying z ls ∷ [])))
      (All-append (IsFormOver Q) (map clause_form (map (implied z) ls)) (clause_form (implying z ls) ∷ []) (implied_over ls within.vars_within over)
      (All-cons (IsFormOver Q) (clause_form (implying z ls)) [] (implying_over ls within over) (All-nil (IsFormOver Q))))

-- those of all
pub defining_over : (Q : ℕ → Type 0) (vars v : ℕ) (products : List (List Lit)) → vars < v → ((n : ℕ) → 1 ≤ n → n < v + length products → Q n) → All (IsProductWithin vars) products → All (IsFormOver Q) (defining v products)
defining_over Q vars v [] later each within = All-nil (IsFormOver Q)
defining_over Q vars v (ls ∷ products) later each within =
    let here = All-head (IsProductWithin vars) ls products within in
    let high : All (OfLit Q) ls = both ls here.vars_from here.vars_within in
    All-append (IsFormOver Q) (product_constraints (plain v) ls) (defining (v + 1) products)
    (product_over Q vars (plain v) later (each v (omega (arith, later)) (omega arith)) ls here high)
    (defining_over Q vars (v + 1) products (omega (arith, later)) (λ n low less. each n low (omega (arith, less))) (All-tail (IsProductWithin vars) ls products within))
  where
    both : (ks : List Lit) → All (λ l. 1 ≤ l.var) ks → All (λ l. l.var ≤ vars) ks → All (OfLit Q) ks
    both [] low high = All-nil (OfLit Q)
    both (k ∷ ks) low high =
        All-cons (OfLit Q) k ks (each k.var (All-head (λ (l : Lit). 1 ≤ l.var) k ks low) (omega (arith, later, All-head (λ (l : Lit). l.var ≤ vars) k ks high)))
        (both ks (All-tail (λ (l : Lit). 1 ≤ l.var) k ks low) (All-tail (λ (l : Lit). l.var ≤ vars) k ks high))

-- how many there are
pub length-defining : (vars v : ℕ) (products : List (List Lit)) → All (IsProductWithin vars) products → length (defining v products) ≤ (2 ^ 20 + 1) * length products
length-defining vars v [] within = omega arith
length-defining vars v (ls ∷ products) within =
    let here = All-head (IsProductWithin vars) ls products within in
    omega (
      arith,
      length-append (product_constraints (plain v) ls) (defining (v + 1) products),
      length-map (product_clauses (plain v) ls) clause_form,
      length-clauses (plain v) ls,
      here.count,
      length-defining vars (v + 1) products (All-tail (IsProductWithin vars) ls products within),
    )
