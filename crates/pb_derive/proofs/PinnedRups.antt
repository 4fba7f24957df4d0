-- Clauses that follow by unit propagation: a test over numbered literals, which holds of any literals of different variables.
use Rattle.std.proofs.Common.{◌≡◌, ◌<◌, ◌+◌, ◌-◌, ◌&&◌, ◌||◌, ℕ, Bool, true, false, not, cond, List, [], ◌∷◌, length, get_or, arith, refl, ap, sym, ◌∙◌, subst, pos, inl, inr}
use Rattle.std.specs.Prelude.{All, Contains, map, nat_lt}
use Rattle.std.specs.List.{list_all, list_any}
use Rattle.std.proofs.lemmas.Bool.{and_parts, not-true, ltb-true}
use Rattle.std.proofs.lemmas.List.Elements.{All-map, All-head, All-tail}
use Rattle.std.proofs.lemmas.List.Folds.{Any-from_list_any}
use Rattle.std.proofs.lemmas.List.Sums.{AllPass-from_list_all}
use Rattle.pb_base.specs.declared.literal.Lit.{Lit}
use Rattle.pb_base.specs.Literals.{negated, is_among}
use Rattle.pb_base.proofs.Members.{Contains-nil, Contains-here, Contains-there, Contains-cons_cases}
use Rattle.pb_norm.specs.Constraints.{Weighted, Constraint, weight}
use Rattle.pb_norm.specs.Reduction.{opposite}
use Rattle.pb_norm.specs.ClauseForm.{distinct, is_tautology, one_of}
use Rattle.pb_norm.specs.Halves.{written}
use Rattle.pb_norm.proofs.AdditionSizes.{weight-cons}
use Rattle.pb_steps.specs.Operations.{negation}
use Rattle.pb_derive.specs.Forms.{IsFormOf}
use Rattle.pb_derive.specs.Ones.{unit_of, ones}
use Rattle.pb_derive.specs.laws.Pins.{conflicts, pinned, pinned_term, pinned_constraint, are_below}
use Rattle.pb_derive.specs.inner.Refuted.{IsRefuting}
use Rattle.pb_derive.proofs.ClauseClaims.{claim_of, claim-is, negation-form}
use Rattle.pb_derive.proofs.PinLemmas.{AreApartLits, StandFor, pinned-negated, pinned-among, conflict_pinned}

-- ---- over numbered literals

-- one of the lists that may be tried for a clause, the newest literal first, ends in a conflict
unfoldable pub is_refuted : (List Lit → List (List Lit)) → ℕ → List Constraint → List Lit → Bool
is_refuted traces n ps q =
    not (is_tautology q) && (list_all {X = Lit} (λ l. nat_lt l.var n) q
    && (are_below n (negation (claim_of (distinct q)) ∷ ps) && list_any (conflicts (negation (claim_of (distinct q)) ∷ ps)) (traces q)))

-- ---- and over any literals of different variables

below_lits : (n : ℕ) (q : List Lit) → list_all {X = Lit} (λ l. nat_lt l.var n) q ≡ true → All (λ l. l.var < n) q
below_lits n q h = λ k d l. ltb-true (get_or q k d).var n (AllPass-from_list_all {X = Lit} (λ l. nat_lt l.var n) q h k d l)

pinned-distinct : (ls q : List Lit) → AreApartLits ls → All (λ l. l.var < length ls) q → distinct (map (pinned ls) q) ≡ map (pinned ls) (distinct q)
pinned-distinct ls [] apart low = refl
pinned-distinct ls (l ∷ q) apart low =
    let rest = All-tail {X = Lit} (λ l. l.var < length ls) l q low in
    ap (λ (b : Bool). cond b (distinct (map (pinned ls) q)) (pinned ls l ∷ distinct (map (pinned ls) q))) (pinned-among ls q l apart rest (All-head {X = Lit} (λ l. l.var < length ls) l q low))
    ∙ by_test (is_among q l) (pinned-distinct ls q apart rest)
  where
    by_test : (b : Bool) → distinct (map (pinned ls) q) ≡ map (pinned ls) (distinct q) → cond b (distinct (map (pinned ls) q)) (pinned ls l ∷ distinct (map (pinned ls) q)) ≡ map (pinned ls) (cond b (distinct q) (l ∷ distinct q))
    by_test true e = e
    by_test false e = ap (λ (r : List Lit). pinned ls l ∷ r) e

opposite-in : (ls q r : List Lit) → AreApartLits ls → All (λ l. l.var < length ls) q → All (λ l. l.var < length ls) r
    → list_any (λ l. is_among (map (pinned ls) q) (negated l)) (map (pinned ls) r) ≡ list_any (λ l. is_among q (negated l)) r
opposite-in ls q [] apart low high = refl
opposite-in ls q (l ∷ r) apart low high =
    let here : is_among (map (pinned ls) q) (negated (pinned ls l)) ≡ is_among q (negated l) =
    ap (is_among (map (pinned ls) q)) (sym (pinned-negated ls l)) ∙ pinned-among ls q (negated l) apart low (All-head {X = Lit} (λ l. l.var < length ls) l r high) in
    ap (λ (b : Bool). b || list_any (λ l. is_among (map (pinned ls) q) (negated l)) (map (pinned ls) r)) here
    ∙ ap (λ (b : Bool). is_among q (negated l) || b) (opposite-in ls q r apart low (All-tail {X = Lit} (λ l. l.var < length ls) l r high))

pinned-denied : (ls q : List Lit) → map (pinned_term ls) (map opposite (ones q)) ≡ map opposite (ones (map (pinned ls) q))
pinned-denied ls [] = refl
pinned-denied ls (l ∷ q) =
    ap (λ (k : Lit). record { coef = 1; lit = k } ∷ map (pinned_term ls) (map opposite (ones q))) (pinned-negated ls l)
    ∙ ap (λ (ts : List Weighted). record { coef = 1; lit = negated (pinned ls l) } ∷ ts) (pinned-denied ls q)

pinned-weight : (ls q : List Lit) → weight (ones q) ≡ weight (ones (map (pinned ls) q))
pinned-weight ls [] = refl
pinned-weight ls (l ∷ q) = omega (arith, pinned-weight ls q, weight-cons (unit_of l) (ones q), weight-cons (unit_of (pinned ls l)) (ones (map (pinned ls) q)))

pinned-negation : (ls q : List Lit) → pinned_constraint ls (negation (claim_of q)) ≡ negation (claim_of (map (pinned ls) q))
pinned-negation ls q =
    let terms = pinned-denied ls q in
    let degree : weight (ones q) + 1 - 1 ≡ weight (ones (map (pinned ls) q)) + 1 - 1 = omega (arith, pinned-weight ls q) in
    λ i. record { terms = terms i; degree = degree i }

lifted : (traces : List Lit → List (List Lit)) (ls : List Lit) (ps cs : List Constraint) → AreApartLits ls → StandFor ls ps cs → (q : List Lit) → is_refuted traces (length ls) ps q ≡ true → IsRefuting cs (map (pinned ls) q)
unfolding is_refuted
lifted traces ls ps cs apart stand q h =
    let claim : Constraint = negation (claim_of (distinct q)) in
    let one = and_parts (not (is_tautology q)) (list_all {X = Lit} (λ l. nat_lt l.var (length ls)) q && (are_below (length ls) (claim ∷ ps) && list_any (conflicts (claim ∷ ps)) (traces q))) h in
    let two = and_parts (list_all {X = Lit} (λ l. nat_lt l.var (length ls)) q) (are_below (length ls) (claim ∷ ps) && list_any (conflicts (claim ∷ ps)) (traces q)) one.1 in
    let three = and_parts (are_below (length ls) (claim ∷ ps)) (list_any (conflicts (claim ∷ ps)) (traces q)) two.1 in
    let low = below_lits (length ls) q two.0 in
    let plain : is_tautology (map (pinned ls) q) ≡ false = opposite-in ls q q apart low low ∙ not-true (is_tautology q) one.0 in
    let actual : Constraint = negation (written (map one_of (distinct (map (pinned ls) q))) (pos 1)) in
    let form : IsFormOf (negation (claim_of (distinct (map (pinned ls) q)))) actual = negation-form (claim_of (distinct (map (pinned ls) q))) (written (map one_of (distinct (map (pinned ls) q))) (pos 1)) (claim-is (map (pinned ls) q) plain) in
    let same : negation (claim_of (distinct (map (pinned ls) q))) ≡ pinned_constraint ls claim =
    ap (λ (r : List Lit). negation (claim_of r)) (pinned-distinct ls q apart low) ∙ sym (pinned-negation ls (distinct q)) in
    let is_form : IsFormOf (pinned_constraint ls claim) actual = subst (λ (s : Constraint). IsFormOf s actual) same form in
    let stands : StandFor ls (claim ∷ ps) (actual ∷ cs) = λ p has.
    elim (Contains-cons_cases claim ps p has) as (λ _. (c : Constraint) × Contains (actual ∷ cs) c × IsFormOf (pinned_constraint ls p) c) [
      | inl here ↦ (actual, Contains-here actual cs, subst (λ (s : Constraint). IsFormOf (pinned_constraint ls s) actual) here is_form)
      | inr rest ↦ let other = stand p rest in (other.0, Contains-there actual cs other.0 other.1, other.2)
    ] in
    let some = Any-from_list_any (conflicts (claim ∷ ps)) (traces q) three.1 in
    (plain, conflict_pinned ls (claim ∷ ps) (actual ∷ cs) some.1 apart stands three.0 some.4)

-- constraints in normal form, one after another
abbrev pub AreFormsOf : List Constraint → List Constraint → Type 0
AreFormsOf [] cs = Unit {0}
AreFormsOf (s ∷ ss) [] = ⊥
AreFormsOf (s ∷ ss) (c ∷ cs) = IsFormOf s c × AreFormsOf ss cs

forms_stand : (ls : List Lit) (ps cs : List Constraint) → AreFormsOf (map (pinned_constraint ls) ps) cs → StandFor ls ps cs
forms_stand ls [] cs forms p has = absurd (Contains-nil p has)
forms_stand ls (q ∷ ps) [] forms p has = absurd forms
forms_stand ls (q ∷ ps) (c ∷ cs) forms p has =
    elim (Contains-cons_cases q ps p has) as (λ _. (d : Constraint) × Contains (c ∷ cs) d × IsFormOf (pinned_constraint ls p) d) [
      | inl here ↦ (c, Contains-here c cs, subst (λ (s : Constraint). IsFormOf (pinned_constraint ls s) c) here forms.0)
      | inr rest ↦ let other = forms_stand ls ps cs forms.1 p rest in (other.0, Contains-there c cs other.0 other.1, other.2)
    ]

-- so all these clauses follow, from constraints over the literals
pub pinned_refute : (traces : List Lit → List (List Lit)) (ls : List Lit) (ps cs : List Constraint) (qs : List (List Lit)) → AreApartLits ls → AreFormsOf (map (pinned_constraint ls) ps) cs
    → list_all (is_refuted traces (length ls) ps) qs ≡ true → All (IsRefuting cs) (map (map (pinned ls)) qs)
pinned_refute traces ls ps cs qs apart forms tested =
    All-map {X = List Lit} (IsRefuting cs) (map (pinned ls)) qs
    (λ k e l. lifted traces ls ps cs apart (forms_stand ls ps cs forms) (get_or qs k e) (AllPass-from_list_all (is_refuted traces (length ls) ps) qs tested k e l))
