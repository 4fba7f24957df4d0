-- What a unit sum's two halves force together, one of them forces alone (our own).
use Rattle.std.proofs.Common.{◌≡◌, ◌≢◌, ◌≤◌, ◌+◌, ◌-◌, ◌⊎◌, ◌==◌, ℕ, Bool, true, false, cond, not, List, [], ◌∷◌, refl, sym, ap, ◌∙◌, subst, arith, inl, inr}
use Rattle.std.specs.Prelude.{All, Contains}
use Rattle.std.specs.List.{AllPairs}
use Rattle.std.proofs.lemmas.Bool.{cases_lt, cases_Bool, cases_eq, cond-true, cond-false, and_parts, eqb-true, eq-eqb, ne_eqb, not_from_false}
use Rattle.std.proofs.lemmas.List.Elements.{All-cons, All-head, All-tail, All-nil, All-contains}
use Rattle.pb_base.specs.declared.literal.Lit.{Lit}
use Rattle.pb_base.specs.Literals.{Assignment, negated, lit_value, AllTrue, is_among}
use Rattle.pb_base.proofs.LiteralLemmas.{negated-negated, negated-other, lit_value-negated}
use Rattle.pb_base.proofs.Members.{Contains-cons_cases, cases_contains, from_among}
use Rattle.pb_base.proofs.Pairs.{AllPairs-head, AllPairs-tail}
use Rattle.pb_norm.specs.Constraints.{Weighted, value, term_value}
use Rattle.pb_norm.specs.BoundedSums.{BoundedSum, StaysWithin}
use Rattle.pb_norm.specs.ClausePropagation.{ClausesReach, ClauseConflict, ClausesPropagate}
use Rattle.pb_norm.specs.Forced.{IsConsistent, IsEmpty, Forces}
use Rattle.pb_norm.specs.Reduction.{all_weigh}
use Rattle.pb_norm.proofs.AdditionValues.{value-cons}
use Rattle.pb_norm.proofs.Derived.{reaches_derived}
use Rattle.pb_norm.proofs.Derived.Derived.{by_given}
use Rattle.pb_norm.proofs.BoundedForcing.{given_sum, given_sum-cons, cond_le, lit_both, bound_below_given_sum}

abbrev pub Apart : Weighted → Weighted → Type 0
Apart t u = t.lit.var ≢ u.lit.var

-- ---- between two assignments

-- each value is that of one of the two
abbrev pub IsMixed : Assignment → Assignment → Assignment → Type 0
IsMixed a b c = (v : ℕ) → (c v ≡ a v) ⊎ (c v ≡ b v)

pub set_at : Assignment → ℕ → Bool → Assignment
set_at a n b v = cond (v == n) b (a v)

pub set-here : (a : Assignment) (n : ℕ) (b : Bool) → set_at a n b n ≡ b
unfolding set_at
set-here a n b = cond-true (n == n) b (a n) (eq-eqb n n refl)

pub set-there : (a : Assignment) (n v : ℕ) (b : Bool) → v ≢ n → set_at a n b v ≡ a v
unfolding set_at
set-there a n v b other = cond-false (v == n) b (a v) (ne_eqb v n other)

pub same_value : (a b : Assignment) (t : Weighted) → a t.lit.var ≡ b t.lit.var → term_value a t ≡ term_value b t
same_value a b t same = ap (λ (x : Bool). cond (cond t.lit.positive x (not x)) t.coef 0) same

pub value_set : (a : Assignment) (n : ℕ) (b : Bool) (ts : List Weighted) → All (λ t. n ≢ t.lit.var) ts → value (set_at a n b) ts ≡ value a ts
value_set a n b [] other = refl
value_set a n b (t ∷ ts) other =
    let here = same_value (set_at a n b) a t (set-there a n t.lit.var b (λ e. All-head (λ t. n ≢ t.lit.var) t ts other (sym e))) in
    omega (arith, value-cons (set_at a n b) t ts, value-cons a t ts, here, value_set a n b ts (All-tail (λ t. n ≢ t.lit.var) t ts other))

one_value : (b : Bool) (n : ℕ) → n ≡ 1 → cond b n 0 ≤ 1
one_value true n e = omega arith
one_value false n e = omega arith

pub between : (a b : Assignment) (ts : List Weighted) → AllPairs Apart ts → all_weigh 1 ts ≡ true → (d : ℕ) → value a ts ≤ d → d ≤ value b ts
    → (c : Assignment) × IsMixed a b c × (value c ts ≡ d)
between a b [] apart units d low high = (a, (λ v. inl refl), omega arith)
between a b (t ∷ ts) apart units d low high =
    let parts = and_parts (t.coef == 1) (all_weigh 1 ts) units in
    let one = eqb-true t.coef 1 parts.0 in
    let av = value-cons a t ts in
    let bv = value-cons b t ts in
    let small = one_value (lit_value b t.lit) t.coef one in
    elim (cases_lt d (value a ts + term_value b t)) as (λ _. (c : Assignment) × IsMixed a b c × (value c (t ∷ ts) ≡ d)) [
      | inl above ↦ (a, (λ v. inl refl), omega arith)
      | inr within ↦
          let rest = between a b ts (AllPairs-tail Apart t ts apart) parts.1 (d - term_value b t) (omega arith) (omega arith) in
          let c = set_at rest.0 t.lit.var (b t.lit.var) in
          let here = same_value c b t (set-here rest.0 t.lit.var (b t.lit.var)) in
          let others = value_set rest.0 t.lit.var (b t.lit.var) ts (AllPairs-head Apart t ts apart) in
          let is = rest.2 in
          (c, (λ v. mixed rest.0 v (rest.1 v)), omega (arith, value-cons c t ts))
    ]
  where
    mixed : (c : Assignment) (v : ℕ) → ((c v ≡ a v) ⊎ (c v ≡ b v)) → (set_at c t.lit.var (b t.lit.var) v ≡ a v) ⊎ (set_at c t.lit.var (b t.lit.var) v ≡ b v)
    mixed c v is =
        elim (cases_eq v t.lit.var) as (λ _. (set_at c t.lit.var (b t.lit.var) v ≡ a v) ⊎ (set_at c t.lit.var (b t.lit.var) v ≡ b v)) [
          | inl same ↦ inr (subst (λ (n : ℕ). set_at c n (b n) v ≡ b v) same (set-here c v (b v)))
          | inr other ↦
              let e = set-there c t.lit.var v (b t.lit.var) other in
              elim is as (λ _. (set_at c t.lit.var (b t.lit.var) v ≡ a v) ⊎ (set_at c t.lit.var (b t.lit.var) v ≡ b v)) [ inl x ↦ inl (e ∙ x) | inr y ↦ inr (e ∙ y) ]
        ]

mixed_true : (a b c : Assignment) → IsMixed a b c → (ls : List Lit) → AllTrue a ls → AllTrue b ls → AllTrue c ls
mixed_true a b c mixed [] at bt = All-nil (λ l. lit_value c l ≡ true)
mixed_true a b c mixed (l ∷ ls) at bt =
    All-cons (λ l. lit_value c l ≡ true) l ls
    (elim (mixed l.var) as (λ _. lit_value c l ≡ true) [
      | inl e ↦ ap (λ (x : Bool). cond l.positive x (not x)) e ∙ All-head (λ l. lit_value a l ≡ true) l ls at
      | inr e ↦ ap (λ (x : Bool). cond l.positive x (not x)) e ∙ All-head (λ l. lit_value b l ≡ true) l ls bt
    ])
    (mixed_true a b c mixed ls (All-tail (λ l. lit_value a l ≡ true) l ls at) (All-tail (λ l. lit_value b l ≡ true) l ls bt))

-- ---- two conditions

abbrev pub Both : (Assignment → Type 0) → (Assignment → Type 0) → Assignment → Type 0
Both P Q a = P a × Q a

-- where the two cannot hold together, one of them cannot hold
abbrev pub AreDecided : (Assignment → Type 0) → (Assignment → Type 0) → Type 0
AreDecided P Q = (given : List Lit) → IsConsistent given → IsEmpty (Both P Q) given → IsEmpty P given ⊎ IsEmpty Q given

consistent_more : (given : List Lit) (l : Lit) → IsConsistent given → ¬ Contains given l → IsConsistent (negated l ∷ given)
consistent_more given l consistent new k h g =
    let more = negated l ∷ given in
    elim (Contains-cons_cases (negated l) given k h) as (λ _. ⊥) [
      | inl e ↦ let other = subst (λ (m : Lit). Contains more (negated m)) (sym e) g in
          elim (Contains-cons_cases (negated l) given (negated (negated l)) other) as (λ _. ⊥) [
            | inl e2 ↦ negated-other (negated l) (sym e2)
            | inr r ↦ new (subst (λ (m : Lit). Contains given m) (negated-negated l) r)
          ]
      | inr r ↦ elim (Contains-cons_cases (negated l) given (negated k) g) as (λ _. ⊥) [
        | inl e ↦ new (subst (λ (m : Lit). Contains given m) (sym (negated-negated k) ∙ ap negated (sym e) ∙ negated-negated l) r)
        | inr s ↦ consistent k r s
      ]
    ]

true_unless : (a : Assignment) (l : Lit) → (lit_value a (negated l) ≡ true → ⊥) → lit_value a l ≡ true
true_unless a l h =
    elim (cases_Bool (lit_value a l)) as (λ _. lit_value a l ≡ true) [
      | inl on ↦ on
      | inr off ↦ absurd (h (lit_value-negated a l ∙ not_from_false (lit_value a l) off))
    ]

-- what is forced by itself, where the negation leaves nothing
forces_alone : (P Q R : Assignment → Type 0) → ((a : Assignment) → Both P Q a → R a) → (given : List Lit) (l : Lit) → Forces (Both P Q) given l → IsEmpty R (negated l ∷ given) → Forces R given l
forces_alone P Q R part given l forces none = record {
  satisfiable = (forces.satisfiable.0, forces.satisfiable.1, part forces.satisfiable.0 forces.satisfiable.2);
  forces = λ a agrees holds. true_unless a l (λ on. none a (All-cons (λ k. lit_value a k ≡ true) (negated l) given on agrees) holds);
}

-- clauses that propagate each of two propagate both
pub both_propagate : (cs : List (List Lit)) (P Q : Assignment → Type 0) → AreDecided P Q → ClausesPropagate cs P → ClausesPropagate cs Q → ClausesPropagate cs (Both P Q)
both_propagate cs P Q decided one two = record {
  conflict = λ given consistent none.
      elim (decided given consistent none) as (λ _. ClauseConflict cs given) [ inl h ↦ one.conflict given consistent h | inr h ↦ two.conflict given consistent h ];
  forced = λ given l consistent forces.
      elim (cases_contains given l) as (λ _. ClausesReach cs given l ⊎ ClauseConflict cs given) [
        | inl h ↦ reaches_derived cs given l (by_given h)
        | inr new ↦
            let more = negated l ∷ given in
            let none : IsEmpty (Both P Q) more = λ a agrees holds.
            lit_both a l (forces.forces a (All-tail (λ k. lit_value a k ≡ true) (negated l) given agrees) holds) (All-head (λ k. lit_value a k ≡ true) (negated l) given agrees) in
            elim (decided more (consistent_more given l consistent new) none) as (λ _. ClausesReach cs given l ⊎ ClauseConflict cs given) [
              | inl h ↦ one.forced given l consistent (forces_alone P Q P (λ a x. x.0) given l forces h)
              | inr h ↦ two.forced given l consistent (forces_alone P Q Q (λ a x. x.1) given l forces h)
            ]
      ];
}

-- ---- the two halves of a unit sum

pub agrees_sum : (v : Assignment) (given : List Lit) → AllTrue v given → (ts : List Weighted) → given_sum given ts ≤ value v ts
agrees_sum v given agrees [] = omega arith
agrees_sum v given agrees (t ∷ ts) =
    let one = cond_le (is_among given t.lit) (lit_value v t.lit) t.coef
    (λ among. All-contains (λ l. lit_value v l ≡ true) given t.lit agrees (from_among given t.lit among)) in
    omega (arith, value-cons v t ts, given_sum-cons given t ts, one, agrees_sum v given agrees ts)

-- at most the bound, and at least the bound by way of another sum
pub halves_decided : (m n : BoundedSum) → AllPairs Apart m.terms → AllPairs Apart n.terms → all_weigh 1 m.terms ≡ true
    → ((a : Assignment) → StaysWithin a n → m.bound ≤ value a m.terms) → ((a : Assignment) → m.bound ≤ value a m.terms → StaysWithin a n)
    → AreDecided (λ a. StaysWithin a m) (λ a. StaysWithin a n)
halves_decided m n apart also units from to given consistent none =
    let P : Assignment → Type 0 = λ a. StaysWithin a m in
    let Q : Assignment → Type 0 = λ a. StaysWithin a n in
    elim (cases_lt n.bound (given_sum given n.terms)) as (λ _. IsEmpty P given ⊎ IsEmpty Q given) [
      | inl above ↦ inr (λ a agrees holds. let sum = agrees_sum a given agrees n.terms in omega arith)
      | inr within ↦ inl (λ a agrees low.
          let empty : IsEmpty Q given = λ b bgrees high.
          let c = between a b m.terms apart units m.bound low (from b high) in
          let is = c.2 in
          none c.0 (mixed_true a b c.0 c.1 given agrees bgrees) (omega arith, to c.0 (omega arith)) in
          let above = bound_below_given_sum n also given consistent empty in
          omega arith)
    ]
