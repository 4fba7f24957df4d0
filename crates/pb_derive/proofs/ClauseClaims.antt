-- A clause as a written constraint, and its negation.
use Rattle.std.proofs.Common.{◌≡◌, ◌≢◌, ◌<◌, Bool, true, false, cond, ◌||◌, get_or, List, [], ◌∷◌, arith, refl, ap, sym, ◌∙◌, subst, pos, inl, inr}
use Rattle.std.specs.Prelude.{All, Contains, map}
use Rattle.std.specs.List.{list_any}
use Rattle.std.proofs.lemmas.Bool.{cases_Bool, or_parts, or_from, both_ways, cond-false}
use Rattle.std.proofs.lemmas.List.Elements.{All-nil, All-cons, All-head, All-tail, All-map, Contains-get_or}
use Rattle.std.proofs.lemmas.List.Kept.{AllPairs-cons}
use Rattle.pb_base.proofs.Sums.{sum_by-map}
use Rattle.pb_base.proofs.Pairs.{AllPairs-nil, AllPairs-map}
use Rattle.pb_base.specs.declared.literal.Lit.{Lit}
use Rattle.pb_base.specs.declared.literal.Term.{Term}
use Rattle.pb_base.specs.Literals.{negated, is_same, is_among}
use Rattle.pb_base.proofs.LiteralLemmas.{cases_literal, same_lit, opposite_lit}
use Rattle.pb_base.proofs.Members.{among_from}
use Rattle.pb_norm.specs.Constraints.{Weighted, Constraint, AllPositive, terms_of}
use Rattle.pb_norm.specs.Reduction.{opposite}
use Rattle.pb_norm.specs.ClauseForm.{distinct, is_tautology, one_of, clause_form}
use Rattle.pb_norm.specs.Halves.{written, normal_terms}
use Rattle.pb_norm.proofs.AdditionOrder.{map-ascending}
use Rattle.pb_steps.specs.Operations.{negation}
use Rattle.pb_derive.specs.Forms.{AreSameTerms, AreApartTerms, IsFormOf}
use Rattle.pb_derive.proofs.SameTerms.{written-form}
use Rattle.pb_derive.proofs.PinLemmas.{AreApartLits}
use Rattle.pb_derive.specs.Ones.{unit_of, ones}

-- ---- the negation of a form

pub same-opposite : (ts us : List Weighted) → AreSameTerms ts us → AreSameTerms (map opposite ts) (map opposite us)
same-opposite ts us same f = sum_by-map f opposite ts ∙ same (λ t. f (opposite t)) ∙ sym (sum_by-map f opposite us)

pub negation-form : (s c : Constraint) → IsFormOf s c → IsFormOf (negation s) (negation c)
negation-form s c form = record {
  terms = same-opposite c.terms s.terms form.terms;
  degree = omega (arith, form.terms (λ t. t.coef), form.degree);
  ascending = map-ascending opposite (λ t. refl) c.terms form.ascending;
  positive = All-map {X = Weighted} (λ t. 0 < t.coef) opposite c.terms form.positive;
}

-- ---- distinct literals

abbrev Apart : Lit → Lit → Type 0
Apart k l = k.var ≢ l.var

pub distinct-all : (P : Lit → Type 0) (ls : List Lit) → All P ls → All P (distinct ls)
distinct-all P [] h = h
distinct-all P (l ∷ ls) h = by_test (is_among ls l) (distinct-all P ls (All-tail P l ls h))
  where
    by_test : (b : Bool) → All P (distinct ls) → All P (cond b (distinct ls) (l ∷ distinct ls))
    by_test true rest = rest
    by_test false rest = All-cons P l (distinct ls) (All-head P l ls h) rest

none-weaker : (p q : Lit → Bool) → ((x : Lit) → p x ≡ false → q x ≡ false) → (ls : List Lit) → list_any p ls ≡ false → list_any q ls ≡ false
none-weaker p q each [] h = refl
none-weaker p q each (l ∷ ls) h =
    let parts = or_parts (p l) (list_any p ls) h in
    or_from (q l) (list_any q ls) (each l parts.0) (none-weaker p q each ls parts.1)

no_tautology-tail : (l : Lit) (ls : List Lit) → is_tautology (l ∷ ls) ≡ false → (is_among ls (negated l) ≡ false) × (is_tautology ls ≡ false)
no_tautology-tail l ls h =
    let parts = or_parts (is_same l (negated l) || is_among ls (negated l)) (list_any (λ x. is_same l (negated x) || is_among ls (negated x)) ls) h in
    let here = or_parts (is_same l (negated l)) (is_among ls (negated l)) parts.0 in
    (here.1, none-weaker (λ x. is_same l (negated x) || is_among ls (negated x)) (λ x. is_among ls (negated x)) (λ x e. (or_parts (is_same l (negated x)) (is_among ls (negated x)) e).1) ls parts.1)

apart-from : (l : Lit) (ls : List Lit) → is_among ls l ≡ false → is_among ls (negated l) ≡ false → All (Apart l) ls
apart-from l ls none opposite = λ i d h e.
    let k : Lit = get_or ls i d in
    let has : Contains ls k = Contains-get_or ls i d h in
    elim (cases_literal l k) as (λ _. ⊥) [
      | inl same ↦ both_ways (is_among ls l) none (among_from ls l (subst (λ (m : Lit). Contains ls m) (sym same) has))
      | inr other ↦ elim (cases_Bool (is_same l k)) as (λ _. ⊥) [
        | inl same ↦ other (same_lit l k same)
        | inr apart ↦ both_ways (is_among ls (negated l)) opposite (among_from ls (negated l) (subst (λ (m : Lit). Contains ls m) (opposite_lit l k e apart) has))
      ]
    ]

pub distinct-apart : (ls : List Lit) → is_tautology ls ≡ false → AreApartLits (distinct ls)
distinct-apart [] h = AllPairs-nil Apart
distinct-apart (l ∷ ls) h =
    let parts = no_tautology-tail l ls h in
    by_test (is_among ls l) refl parts.0 (distinct-apart ls parts.1)
  where
    by_test : (b : Bool) → is_among ls l ≡ b → is_among ls (negated l) ≡ false → AreApartLits (distinct ls) → AreApartLits (cond b (distinct ls) (l ∷ distinct ls))
    by_test true e none rest = rest
    by_test false e none rest = AllPairs-cons Apart l (distinct ls) (distinct-all (Apart l) ls (apart-from l ls e none)) rest

-- the claim of a clause
abbrev pub claim_of : List Lit → Constraint
claim_of ls = record { terms = ones ls; degree = 1 }

pub one_of-ones : (ls : List Lit) → map one_of ls ≡ terms_of (ones ls)
one_of-ones [] = refl
one_of-ones (l ∷ ls) = ap (λ (ts : List Term). one_of l ∷ ts) (one_of-ones ls)

ones-positive : (ls : List Lit) → AllPositive (ones ls)
ones-positive [] = All-nil {X = Weighted} (λ t. 0 < t.coef)
ones-positive (l ∷ ls) = All-cons {X = Weighted} (λ t. 0 < t.coef) (unit_of l) (ones ls) (omega arith) (ones-positive ls)

pub ones-apart : (ls : List Lit) → AreApartLits ls → AreApartTerms (ones ls)
ones-apart ls h = AllPairs-map Apart (λ (t u : Weighted). t.lit.var ≢ u.lit.var) unit_of (λ k l ne. ne) ls h

pub claim-is : (ls : List Lit) → is_tautology ls ≡ false → IsFormOf (claim_of (distinct ls)) (written (map one_of (distinct ls)) (pos 1))
claim-is ls h =
    subst (λ (ts : List Term). IsFormOf (claim_of (distinct ls)) (written ts (pos 1))) (sym (one_of-ones (distinct ls)))
    (written-form (ones (distinct ls)) 1 (ones-apart (distinct ls) (distinct-apart ls h)) (ones-positive (distinct ls)))

pub claim-form : (ls : List Lit) → is_tautology ls ≡ false → written (map one_of (distinct ls)) (pos 1) ≡ clause_form ls
claim-form ls h =
    let form = claim-is ls h in
    let degree : (written (map one_of (distinct ls)) (pos 1)).degree ≡ 1 = form.degree in
    (λ i. record { terms = normal_terms (map one_of (distinct ls)); degree = degree i })
    ∙ sym (cond-false {A = Constraint} (is_tautology ls) (record { terms = []; degree = 0 }) (record { terms = normal_terms (map one_of (distinct ls)); degree = 1 }) h)
