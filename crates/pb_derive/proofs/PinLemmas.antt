-- What the test for conflicts finds over numbered literals is a conflict over any literals of different variables.
use Rattle.std.proofs.Common.{◌≡◌, ◌≢◌, ◌<◌, ◌+◌, ◌&&◌, ◌||◌, ◌==◌, ℕ, Bool, true, false, not, cond, List, [], ◌∷◌, length, get_or, arith, refl, ap, sym, ◌∙◌, subst, ltb, inl, inr}
use Rattle.std.specs.Prelude.{All, Contains, map, sum_by}
use Rattle.std.specs.List.{AllPairs, list_any, list_all}
use Rattle.std.proofs.lemmas.Bool.{ltb-true, and_parts, and_from, eqb-true, eq-eqb, cases_eq, cases_lt, cases_Bool, not-true}
use Rattle.std.proofs.lemmas.List.Elements.{All-nil, All-cons, All-head, All-tail, All-contains}
use Rattle.std.proofs.lemmas.List.Folds.{Any-from_list_any}
use Rattle.std.proofs.lemmas.List.Sums.{sum_by-cons, AllPass-from_list_all}
use mathlib.Core.Bool.{beq}
use Rattle.pb_base.specs.declared.literal.Lit.{Lit}
use Rattle.pb_base.specs.Literals.{negated, is_same, is_among}
use Rattle.pb_base.proofs.LiteralLemmas.{same_lit, is_same-refl, is_same-other_var, is_same-negated, negated-negated}
use Rattle.pb_base.proofs.Members.{Contains-nil, Contains-here, Contains-there, Contains-cons_cases, Contains-map}
use Rattle.pb_norm.specs.Constraints.{Weighted, Constraint}
use Rattle.pb_norm.specs.Propagation.{room, Needs, Reached, Conflict}
use Rattle.pb_norm.proofs.Rooms.{room_of}
use Rattle.pb_derive.specs.Forms.{AreSameTerms, IsFormOf}
use Rattle.pb_derive.specs.laws.Pins.{needs, is_trace, conflicts, at_number, pinned, pinned_term, pinned_constraint, are_below}

-- ---- terms that are summed alike are the same

abbrev one_if : Bool → ℕ
one_if b = cond b 1 0

is_equal : Weighted → Weighted → Bool
is_equal t u = (t.coef == u.coef) && is_same t.lit u.lit

equal-is : (t u : Weighted) → is_equal t u ≡ true → t ≡ u
unfolding is_equal
equal-is t u h =
    let parts = and_parts (t.coef == u.coef) (is_same t.lit u.lit) h in
    let coefs = eqb-true t.coef u.coef parts.0 in
    let lits = same_lit t.lit u.lit parts.1 in
    λ i. record { coef = coefs i; lit = lits i }

equal-refl : (t : Weighted) → is_equal t t ≡ true
unfolding is_equal
equal-refl t = and_from (t.coef == t.coef) (is_same t.lit t.lit) (eq-eqb t.coef t.coef refl) (is_same-refl t.lit)

times : Weighted → Weighted → ℕ
times t u = one_if (is_equal u t)

found : (t : Weighted) (us : List Weighted) → 0 < sum_by (times t) us → Contains us t
unfolding times
found t [] h = absurd (omega arith)
found t (u ∷ us) h =
    let split = sum_by-cons (times t) u us in
    elim (cases_Bool (is_equal u t)) as (λ _. Contains (u ∷ us) t) [
      | inl same ↦ subst (λ (w : Weighted). Contains (u ∷ us) w) (equal-is u t same) (Contains-here u us)
      | inr other ↦
          let none : times t u ≡ 0 = ap one_if other in
          Contains-there u us t (found t us (omega (arith, split, none, h)))
    ]

counted : (t : Weighted) (us : List Weighted) → Contains us t → 0 < sum_by (times t) us
unfolding times
counted t [] h = absurd (Contains-nil t h)
counted t (u ∷ us) h =
    let split = sum_by-cons (times t) u us in
    elim (Contains-cons_cases u us t h) as (λ _. 0 < sum_by (times t) (u ∷ us)) [
      | inl same ↦
          let one : times t u ≡ 1 = ap (λ (w : Weighted). one_if (is_equal w t)) same ∙ ap one_if (equal-refl t) in
          omega (arith, split, one)
      | inr rest ↦ omega (arith, split, counted t us rest)
    ]

pub Contains-same : (ts us : List Weighted) → AreSameTerms ts us → (t : Weighted) → Contains us t → Contains ts t
Contains-same ts us same t h = found t ts (omega (arith, same (times t), counted t us h))

-- ---- numbered literals

abbrev pub AreApartLits : List Lit → Type 0
AreApartLits ls = AllPairs (λ k l. k.var ≢ l.var) ls

abbrev Below : ℕ → Lit → Type 0
Below n l = l.var < n

pinned-var : (ls : List Lit) (l : Lit) → (pinned ls l).var ≡ (at_number ls l.var).var
pinned-var ls l = by_sign l.positive
  where
    by_sign : (b : Bool) → (cond {A = Lit} b (at_number ls l.var) (negated (at_number ls l.var))).var ≡ (at_number ls l.var).var
    by_sign true = refl
    by_sign false = refl

pub pinned-negated : (ls : List Lit) (l : Lit) → pinned ls (negated l) ≡ negated (pinned ls l)
pinned-negated ls l = by_sign l.positive
  where
    by_sign : (b : Bool) → cond {A = Lit} (not b) (at_number ls l.var) (negated (at_number ls l.var)) ≡ negated (cond {A = Lit} b (at_number ls l.var) (negated (at_number ls l.var)))
    by_sign true = refl
    by_sign false = sym (negated-negated (at_number ls l.var))

apart_at : (ls : List Lit) (m n : ℕ) → AreApartLits ls → m < length ls → n < length ls → m ≢ n → (at_number ls m).var ≢ (at_number ls n).var
apart_at ls m n apart hm hn ne e =
    elim (cases_lt m n) as (λ _. ⊥) [
      | inl less ↦ apart m n (record { var = 0; positive = true }) less hn e
      | inr more ↦ apart n m (record { var = 0; positive = true }) (omega (arith, more, ne)) hm (sym e)
    ]

signed_same : (x : Lit) (p q : Bool) → is_same (cond p x (negated x)) (cond q x (negated x)) ≡ beq p q
signed_same x true true = is_same-refl x
signed_same x true false = is_same-negated x
signed_same x false true = ap (is_same (negated x)) (sym (negated-negated x)) ∙ is_same-negated (negated x)
signed_same x false false = is_same-refl (negated x)

pub pinned-same : (ls : List Lit) (k l : Lit) → AreApartLits ls → k.var < length ls → l.var < length ls → is_same (pinned ls k) (pinned ls l) ≡ is_same k l
pinned-same ls k l apart hk hl =
    elim (cases_eq k.var l.var) as (λ _. is_same (pinned ls k) (pinned ls l) ≡ is_same k l) [
      | inl same ↦
          ap (λ (n : ℕ). is_same (cond k.positive (at_number ls n) (negated (at_number ls n))) (pinned ls l)) same
          ∙ signed_same (at_number ls l.var) k.positive l.positive
          ∙ ap (λ (b : Bool). b && beq k.positive l.positive) (sym (eq-eqb k.var l.var same))
      | inr other ↦
          is_same-other_var (pinned ls k) (pinned ls l) (λ e. apart_at ls k.var l.var apart hk hl other (sym (pinned-var ls k) ∙ e ∙ pinned-var ls l))
          ∙ sym (is_same-other_var k l other)
    ]

pub pinned-among : (ls : List Lit) (ks : List Lit) (l : Lit) → AreApartLits ls → All (Below (length ls)) ks → l.var < length ls → is_among (map (pinned ls) ks) (pinned ls l) ≡ is_among ks l
pinned-among ls [] l apart hk hl = refl
pinned-among ls (k ∷ ks) l apart hk hl =
    ap (λ (b : Bool). b || is_among (map (pinned ls) ks) (pinned ls l)) (pinned-same ls k l apart (All-head (Below (length ls)) k ks hk) hl)
    ∙ ap (λ (b : Bool). is_same k l || b) (pinned-among ls ks l apart (All-tail (Below (length ls)) k ks hk) hl)

pinned-among_negated : (ls : List Lit) (ks : List Lit) (l : Lit) → AreApartLits ls → All (Below (length ls)) ks → l.var < length ls → is_among (map (pinned ls) ks) (negated (pinned ls l)) ≡ is_among ks (negated l)
pinned-among_negated ls ks l apart hk hl = ap (is_among (map (pinned ls) ks)) (sym (pinned-negated ls l)) ∙ pinned-among ls ks (negated l) apart hk hl

abbrev BelowTerm : ℕ → Weighted → Type 0
BelowTerm n t = t.lit.var < n

pinned-room : (ls ks : List Lit) (ts : List Weighted) → AreApartLits ls → All (Below (length ls)) ks → All (BelowTerm (length ls)) ts → room (map (pinned ls) ks) (map (pinned_term ls) ts) ≡ room ks ts
pinned-room ls ks [] apart hk ht = refl
pinned-room ls ks (t ∷ ts) apart hk ht =
    let here : room_of (map (pinned ls) ks) (pinned_term ls t) ≡ room_of ks t =
    ap (λ (b : Bool). cond b 0 t.coef) (pinned-among_negated ls ks t.lit apart hk (All-head (BelowTerm (length ls)) t ts ht)) in
    omega (
      arith,
      here,
      pinned-room ls ks ts apart hk (All-tail (BelowTerm (length ls)) t ts ht),
      sum_by-cons (room_of ks) t ts,
      sum_by-cons (room_of (map (pinned ls) ks)) (pinned_term ls t) (map (pinned_term ls) ts),
    )

-- ---- constraints over numbered literals, and the actual ones

-- each of the first has an actual constraint
abbrev pub StandFor : List Lit → List Constraint → List Constraint → Type 0
StandFor ls ps cs = (p : Constraint) → Contains ps p → (c : Constraint) × Contains cs c × IsFormOf (pinned_constraint ls p) c

abbrev AreBelow : ℕ → List Constraint → Type 0
AreBelow n ps = All {X = Constraint} (λ p. All (BelowTerm n) p.terms) ps

from_below : (n : ℕ) (ts : List Weighted) → list_all {X = Weighted} (λ t. ltb t.lit.var n) ts ≡ true → All (BelowTerm n) ts
from_below n ts h = λ k d l. ltb-true (get_or ts k d).lit.var n (AllPass-from_list_all {X = Weighted} (λ t. ltb t.lit.var n) ts h k d l)

all_below : (n : ℕ) (ps : List Constraint) → are_below n ps ≡ true → AreBelow n ps
all_below n ps h = λ k d l. from_below n (get_or ps k d).terms (AllPass-from_list_all {X = Constraint} (λ c. list_all {X = Weighted} (λ t. ltb t.lit.var n) c.terms) ps h k d l)

stand_room : (ls ks : List Lit) (p c : Constraint) → AreApartLits ls → All (Below (length ls)) ks → All (BelowTerm (length ls)) p.terms → IsFormOf (pinned_constraint ls p) c
    → room (map (pinned ls) ks) c.terms ≡ room ks p.terms
stand_room ls ks p c apart hk hp form = form.terms (room_of (map (pinned ls) ks)) ∙ pinned-room ls ks p.terms apart hk hp

needs_pinned : (ls : List Lit) (ps cs : List Constraint) (before : List Lit) (l : Lit) → AreApartLits ls → StandFor ls ps cs → AreBelow (length ls) ps → All (Below (length ls)) before
    → list_any (needs before l) ps ≡ true → is_among before l ≡ false → is_among before (negated l) ≡ false → (l.var < length ls) × Needs cs (map (pinned ls) before) (pinned ls l)
needs_pinned ls ps cs before l apart stand below hb by none opposite =
    let some = Any-from_list_any (needs before l) ps by in
    let p : Constraint = some.1 in
    let has : Contains ps p = (some.0, some.2, some.3) in
    let here = All-contains {X = Constraint} (λ p. All (BelowTerm (length ls)) p.terms) ps p below has in
    let actual = stand p has in
    let c : Constraint = actual.0 in
    let term = Any-from_list_any {X = Weighted} (λ t. is_same t.lit l && ltb (room before p.terms) (t.coef + p.degree)) p.terms some.4 in
    let t : Weighted = term.1 in
    let in_terms : Contains p.terms t = (term.0, term.2, term.3) in
    let parts = and_parts (is_same t.lit l) (ltb (room before p.terms) (t.coef + p.degree)) term.4 in
    let is : t.lit ≡ l = same_lit t.lit l parts.0 in
    let low : t.lit.var < length ls = All-contains (BelowTerm (length ls)) p.terms t here in_terms in
    let low_l : l.var < length ls = subst (λ (m : Lit). m.var < length ls) is low in
    let short = ltb-true (room before p.terms) (t.coef + p.degree) parts.1 in
    let pinned_in : Contains c.terms (pinned_term ls t) = Contains-same c.terms (map (pinned_term ls) p.terms) actual.2.terms (pinned_term ls t) (Contains-map (pinned_term ls) p.terms t in_terms) in
    let rooms = stand_room ls before p c apart hb here actual.2 in (
      low_l,
      record {
        by = c;
        coef = t.coef;
        known = actual.1;
        term = subst (λ (m : Lit). Contains c.terms (record { coef = t.coef; lit = pinned ls m })) is pinned_in;
        short = omega (arith, rooms, short, actual.2.degree);
        absent = pinned-among ls before l apart hb low_l ∙ none;
        undecided = pinned-among_negated ls before l apart hb low_l ∙ opposite;
      },
    )

reached_pinned : (ls : List Lit) (ps cs : List Constraint) (trace : List Lit) → AreApartLits ls → StandFor ls ps cs → AreBelow (length ls) ps
    → is_trace ps trace ≡ true → All (Below (length ls)) trace × Reached cs [] (map (pinned ls) trace)
reached_pinned ls ps cs [] apart stand below h = (All-nil (Below (length ls)), tt)
reached_pinned ls ps cs (l ∷ before) apart stand below h =
    let one = and_parts (list_any (needs before l) ps) (not (is_among before l) && (not (is_among before (negated l)) && is_trace ps before)) h in
    let two = and_parts (not (is_among before l)) (not (is_among before (negated l)) && is_trace ps before) one.1 in
    let three = and_parts (not (is_among before (negated l))) (is_trace ps before) two.1 in
    let rest = reached_pinned ls ps cs before apart stand below three.1 in
    let need = needs_pinned ls ps cs before l apart stand below rest.0 one.0 (not-true (is_among before l) two.0) (not-true (is_among before (negated l)) three.0) in
    (All-cons (Below (length ls)) l before need.0 rest.0, (inr need.1, rest.1))

-- what the test finds is a conflict of the actual constraints
pub conflict_pinned : (ls : List Lit) (ps cs : List Constraint) (trace : List Lit) → AreApartLits ls → StandFor ls ps cs → are_below (length ls) ps ≡ true → conflicts ps trace ≡ true → Conflict cs []
conflict_pinned ls ps cs trace apart stand low h =
    let below = all_below (length ls) ps low in
    let parts = and_parts (is_trace ps trace) (list_any {X = Constraint} (λ c. ltb (room trace c.terms) c.degree) ps) h in
    let reached = reached_pinned ls ps cs trace apart stand below parts.0 in
    let some = Any-from_list_any {X = Constraint} (λ c. ltb (room trace c.terms) c.degree) ps parts.1 in
    let p : Constraint = some.1 in
    let has : Contains ps p = (some.0, some.2, some.3) in
    let here = All-contains {X = Constraint} (λ p. All (BelowTerm (length ls)) p.terms) ps p below has in
    let actual = stand p has in
    let rooms = stand_room ls trace p actual.0 apart reached.0 here actual.2 in
    let short = ltb-true (room trace p.terms) p.degree some.4 in
    inr (map (pinned ls) trace, actual.0, reached.1, actual.1, omega (arith, rooms, short, actual.2.degree))
