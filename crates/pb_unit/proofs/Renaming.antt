-- Propagation goes the same way over other numbers of the variables, as long as these can be taken back.
use Rattle.std.proofs.Common.{◌≡◌, ◌≤◌, ◌<◌, ◌+◌, ◌^◌, ◌⊎◌, ◌∙◌, ℕ, Bool, cond, List, [], ◌∷◌, map, refl, sym, ap, subst, arith, inl, inr}
use Rattle.std.specs.Prelude.{Contains, All}
use Rattle.std.proofs.lemmas.List.Elements.{All-nil, All-cons, All-head, All-tail, All-map, All-weaker, All-contains}
use Rattle.std.proofs.lemmas.List.Kept.{AllPairs-cons}
use Rattle.std.proofs.lemmas.List.Sums.{sum_by-cons}
use Rattle.pb_base.specs.declared.literal.Lit.{Lit}
use Rattle.pb_base.specs.Literals.{negated, is_among}
use Rattle.pb_base.proofs.LiteralLemmas.{same_literal}
use Rattle.pb_base.proofs.Members.{Contains-nil, Contains-here, Contains-there, Contains-cons_cases, Contains-map, among_cases, among_from, not_among_from}
use Rattle.pb_base.proofs.Pairs.{AllPairs-head, AllPairs-nil, AllPairs-tail}
use Rattle.pb_norm.specs.Constraints.{weight, Constraint, IsAscending, IsLinear, Weighted}
use Rattle.pb_norm.specs.Propagation.{room, Needs, Reached, IsReachable, Conflict}
use Rattle.pb_norm.proofs.AdditionOrder.{Before}
use Rattle.pb_norm.proofs.Rooms.{room_of}
use Rattle.pb_unit.specs.Reaching.{AreAscending, AreReachedOver, OfConstraint, OfLit, OfTerm}
use Rattle.pb_unit.specs.Renaming.{renamed, renamed_lit, renamed_term}

-- what is reached is given, or of a constraint
pub reached_of : (K : ℕ → Type 0) (cs : List Constraint) (given : List Lit) → All (OfConstraint K) cs → All (OfLit K) given → (ls : List Lit) → Reached cs given ls → All (OfLit K) ls
reached_of K cs given known over [] r = All-nil (OfLit K)
reached_of K cs given known over (l ∷ before) r =
    All-cons (OfLit K) l before
    (elim r.0 as (λ _. K l.var) [
      | inl has ↦ All-contains (OfLit K) given l over has
      | inr n ↦ All-contains (OfTerm K) n.by.terms (record { coef = n.coef; lit = l }) (All-contains (OfConstraint K) cs n.by known n.known) n.term
    ])
    (reached_of K cs given known over before r.1)

all_so : (P : Lit → Type 0) (ls : List Lit) → ((l : Lit) → Contains ls l → P l) → All P ls
all_so P [] h = All-nil P
all_so P (l ∷ ls) h = All-cons P l ls (h l (Contains-here l ls)) (all_so P ls (λ m k. h m (Contains-there l ls m k)))

pub found_of : (K : ℕ → Type 0) (cs : List Constraint) (given : List Lit) → All (OfConstraint K) cs → All (OfLit K) given → (found : List Lit) → AreReachedOver cs given found → All (OfLit K) found
found_of K cs given known over found is = all_so (OfLit K) found (λ l h. let r = (is.exact l).0 h in All-contains (OfLit K) r.0 l (reached_of K cs given known over r.0 r.1) r.2)

module _ (f g : ℕ → ℕ) (K : ℕ → Type 0) (back : (v : ℕ) → K v → g (f v) ≡ v) where
  -- ---- there

  same_renamed : (k l : Lit) → K k.var → K l.var → renamed_lit f k ≡ renamed_lit f l → k ≡ l
  same_renamed k l of_k of_l e = same_literal k l (sym (back k.var of_k) ∙ ap (λ (m : Lit). g m.var) e ∙ back l.var of_l) (ap (λ (m : Lit). m.positive) e)

  from_renamed : (ls : List Lit) (l : Lit) → All (OfLit K) ls → K l.var → Contains (map (renamed_lit f) ls) (renamed_lit f l) → Contains ls l
  from_renamed [] l over known h = absurd (Contains-nil (renamed_lit f l) h)
  from_renamed (k ∷ ks) l over known h =
      elim (Contains-cons_cases (renamed_lit f k) (map (renamed_lit f) ks) (renamed_lit f l) h) as (λ _. Contains (k ∷ ks) l) [
        | inl same ↦ subst (λ (m : Lit). Contains (k ∷ ks) m) (same_renamed k l (All-head (OfLit K) k ks over) known same) (Contains-here k ks)
        | inr rest ↦ Contains-there k ks l (from_renamed ks l (All-tail (OfLit K) k ks over) known rest)
      ]

  among_renamed : (ls : List Lit) (l : Lit) → All (OfLit K) ls → K l.var → is_among (map (renamed_lit f) ls) (renamed_lit f l) ≡ is_among ls l
  among_renamed ls l over known =
      elim (among_cases ls l) as (λ _. is_among (map (renamed_lit f) ls) (renamed_lit f l) ≡ is_among ls l) [
        | inl found ↦ among_from (map (renamed_lit f) ls) (renamed_lit f l) (Contains-map (renamed_lit f) ls l found.1) ∙ sym found.0
        | inr missing ↦ not_among_from (map (renamed_lit f) ls) (renamed_lit f l) (λ h. missing.1 (from_renamed ls l over known h)) ∙ sym missing.0
      ]

  room_renamed : (ls : List Lit) → All (OfLit K) ls → (ts : List Weighted) → All (OfTerm K) ts → room (map (renamed_lit f) ls) (map (renamed_term f) ts) ≡ room ls ts
  room_renamed ls over [] known = refl
  room_renamed ls over (t ∷ ts) known =
      let here : room_of (map (renamed_lit f) ls) (renamed_term f t) ≡ room_of ls t = ap (λ (b : Bool). cond b 0 t.coef) (among_renamed ls (negated t.lit) over (All-head (OfTerm K) t ts known)) in
      let rest = room_renamed ls over ts (All-tail (OfTerm K) t ts known) in
      omega (arith, sum_by-cons (room_of (map (renamed_lit f) ls)) (renamed_term f t) (map (renamed_term f) ts), sum_by-cons (room_of ls) t ts, here, rest)

  needs_renamed : (cs : List Constraint) (ls : List Lit) (l : Lit) → All (OfConstraint K) cs → All (OfLit K) ls → K l.var → Needs cs ls l → Needs (map (renamed f) cs) (map (renamed_lit f) ls) (renamed_lit f l)
  needs_renamed cs ls l known over of_l n = record {
    by = renamed f n.by;
    coef = n.coef;
    known = Contains-map (renamed f) cs n.by n.known;
    term = Contains-map (renamed_term f) n.by.terms (record { coef = n.coef; lit = l }) n.term;
    short = subst (λ (r : ℕ). r < n.coef + n.by.degree) (sym (room_renamed ls over n.by.terms (All-contains (OfConstraint K) cs n.by known n.known))) n.short;
    absent = among_renamed ls l over of_l ∙ n.absent;
    undecided = among_renamed ls (negated l) over of_l ∙ n.undecided;
  }

  module _ (cs : List Constraint) (given : List Lit) (known : All (OfConstraint K) cs) (over : All (OfLit K) given) where
    reached_renamed : (ls : List Lit) → Reached cs given ls → Reached (map (renamed f) cs) (map (renamed_lit f) given) (map (renamed_lit f) ls)
    reached_renamed [] r = tt
    reached_renamed (l ∷ before) r =
        let all = reached_of K cs given known over (l ∷ before) r in (
          elim r.0 as (λ _. Contains (map (renamed_lit f) given) (renamed_lit f l) ⊎ Needs (map (renamed f) cs) (map (renamed_lit f) before) (renamed_lit f l)) [
            | inl has ↦ inl (Contains-map (renamed_lit f) given l has)
            | inr n ↦ inr (needs_renamed cs before l known (All-tail (OfLit K) l before all) (All-head (OfLit K) l before all) n)
          ],
          reached_renamed before r.1,
        )

    pub reaches_renamed : (l : Lit) → IsReachable cs given l → IsReachable (map (renamed f) cs) (map (renamed_lit f) given) (renamed_lit f l)
    reaches_renamed l r = (map (renamed_lit f) r.0, reached_renamed r.0 r.1, Contains-map (renamed_lit f) r.0 l r.2)

    pub conflict_renamed : Conflict cs given → Conflict (map (renamed f) cs) (map (renamed_lit f) given)
    conflict_renamed (inl both) = inl (renamed_lit f both.0, Contains-map (renamed_lit f) given both.0 both.1, Contains-map (renamed_lit f) given (negated both.0) both.2)
    conflict_renamed (inr c) =
        let same = room_renamed c.0 (reached_of K cs given known over c.0 c.2) c.1.terms (All-contains (OfConstraint K) cs c.1 known c.3) in
        inr (map (renamed_lit f) c.0, renamed f c.1, reached_renamed c.0 c.2, Contains-map (renamed f) cs c.1 c.3, subst (λ (r : ℕ). r < c.1.degree) (sym same) c.4)

  -- ---- and back

  back_lit : (l : Lit) → K l.var → renamed_lit g (renamed_lit f l) ≡ l
  back_lit l of_l = same_literal (renamed_lit g (renamed_lit f l)) l (back l.var of_l) refl

  pub back_lits : (ls : List Lit) → All (OfLit K) ls → map (renamed_lit g) (map (renamed_lit f) ls) ≡ ls
  back_lits [] over = refl
  back_lits (l ∷ ls) over = ap (λ (m : Lit). m ∷ map (renamed_lit g) (map (renamed_lit f) ls)) (back_lit l (All-head (OfLit K) l ls over)) ∙ ap (λ (ms : List Lit). l ∷ ms) (back_lits ls (All-tail (OfLit K) l ls over))

  back_terms : (ts : List Weighted) → All (OfTerm K) ts → map (renamed_term g) (map (renamed_term f) ts) ≡ ts
  back_terms [] over = refl
  back_terms (t ∷ ts) over =
      let here : renamed_term g (renamed_term f t) ≡ t = ap (λ (m : Lit). record { coef = t.coef; lit = m }) (back_lit t.lit (All-head (OfTerm K) t ts over)) in
      ap (λ (u : Weighted). u ∷ map (renamed_term g) (map (renamed_term f) ts)) here ∙ ap (λ (us : List Weighted). t ∷ us) (back_terms ts (All-tail (OfTerm K) t ts over))

  pub back_constraints : (cs : List Constraint) → All (OfConstraint K) cs → map (renamed g) (map (renamed f) cs) ≡ cs
  back_constraints [] over = refl
  back_constraints (c ∷ cs) over =
      let here : renamed g (renamed f c) ≡ c = ap (λ (ts : List Weighted). record { terms = ts; degree = c.degree }) (back_terms c.terms (All-head (OfConstraint K) c cs over)) in
      ap (λ (d : Constraint). d ∷ map (renamed g) (map (renamed f) cs)) here ∙ ap (λ (ds : List Constraint). c ∷ ds) (back_constraints cs (All-tail (OfConstraint K) c cs over))

-- ---- both ways

Contains-map_lit : (g : ℕ → ℕ) (ls : List Lit) (l : Lit) → Contains (map (renamed_lit g) ls) l → (k : Lit) × Contains ls k × (renamed_lit g k ≡ l)
Contains-map_lit g [] l h = absurd (Contains-nil l h)
Contains-map_lit g (k ∷ ks) l h =
    elim (Contains-cons_cases (renamed_lit g k) (map (renamed_lit g) ks) l h) as (λ _. (m : Lit) × Contains (k ∷ ks) m × (renamed_lit g m ≡ l)) [
      | inl same ↦ (k, Contains-here k ks, same)
      | inr rest ↦ let found = Contains-map_lit g ks l rest in (found.0, Contains-there k ks found.0 found.1, found.2)
    ]

module _ (g : ℕ → ℕ) (J : ℕ → Type 0) (rises : (i j : ℕ) → J i → J j → i < j → g i < g j) where
  rise_all : (k : Lit) → J k.var → (ls : List Lit) → All (OfLit J) ls → All (λ (m : Lit). k.var < m.var) ls → All (λ (m : Lit). g k.var < m.var) (map (renamed_lit g) ls)
  rise_all k of_k [] over up = All-nil (λ (m : Lit). g k.var < m.var)
  rise_all k of_k (l ∷ ls) over up =
      All-cons (λ (m : Lit). g k.var < m.var) (renamed_lit g l) (map (renamed_lit g) ls)
      (rises k.var l.var of_k (All-head (OfLit J) l ls over) (All-head (λ (m : Lit). k.var < m.var) l ls up))
      (rise_all k of_k ls (All-tail (OfLit J) l ls over) (All-tail (λ (m : Lit). k.var < m.var) l ls up))

  pub rise : (ls : List Lit) → All (OfLit J) ls → AreAscending ls → AreAscending (map (renamed_lit g) ls)
  rise [] over up = AllPairs-nil (λ (k l : Lit). k.var < l.var)
  rise (l ∷ ls) over up =
      AllPairs-cons (λ (k m : Lit). k.var < m.var) (renamed_lit g l) (map (renamed_lit g) ls)
      (rise_all l (All-head (OfLit J) l ls over) ls (All-tail (OfLit J) l ls over) (AllPairs-head (λ (k m : Lit). k.var < m.var) l ls up))
      (rise ls (All-tail (OfLit J) l ls over) (AllPairs-tail (λ (k m : Lit). k.var < m.var) l ls up))

module _ (f g : ℕ → ℕ) (K J : ℕ → Type 0) (back : (v : ℕ) → K v → g (f v) ≡ v) (forth : (i : ℕ) → J i → f (g i) ≡ i) (into : (v : ℕ) → K v → J (f v))
    (cs : List Constraint) (given : List Lit) (known : All (OfConstraint K) cs) (over : All (OfLit K) given) where
  into_term : (c : Constraint) → OfConstraint K c → OfConstraint J (renamed f c)
  into_term c of_c = All-map (OfTerm J) (renamed_term f) c.terms (All-weaker (OfTerm K) (λ t. J (f t.lit.var)) (λ t h. into t.lit.var h) c.terms of_c)

  pub into_constraints : All (OfConstraint J) (map (renamed f) cs)
  into_constraints = All-map (OfConstraint J) (renamed f) cs (All-weaker (OfConstraint K) (λ c. OfConstraint J (renamed f c)) into_term cs known)

  pub into_lits : All (OfLit J) (map (renamed_lit f) given)
  into_lits = All-map (OfLit J) (renamed_lit f) given (All-weaker (OfLit K) (λ l. J (f l.var)) (λ l h. into l.var h) given over)

  pub conflict_back : Conflict (map (renamed f) cs) (map (renamed_lit f) given) → Conflict cs given
  conflict_back c =
      subst (λ (ds : List Constraint). Conflict ds given) (back_constraints f g K back cs known)
      (subst (λ (ls : List Lit). Conflict (map (renamed g) (map (renamed f) cs)) ls) (back_lits f g K back given over)
      (conflict_renamed g f J forth (map (renamed f) cs) (map (renamed_lit f) given) into_constraints into_lits c))

  reaches_back : (i : Lit) → IsReachable (map (renamed f) cs) (map (renamed_lit f) given) i → IsReachable cs given (renamed_lit g i)
  reaches_back i r =
      subst (λ (ds : List Constraint). IsReachable ds given (renamed_lit g i)) (back_constraints f g K back cs known)
      (subst (λ (ls : List Lit). IsReachable (map (renamed g) (map (renamed f) cs)) ls (renamed_lit g i)) (back_lits f g K back given over)
      (reaches_renamed g f J forth (map (renamed f) cs) (map (renamed_lit f) given) into_constraints into_lits i r))

  -- what is reached over the numbers, taken back, is what is reached
  pub answers_back : (rises : (i j : ℕ) → J i → J j → i < j → g i < g j) (found : List Lit) → AreReachedOver (map (renamed f) cs) (map (renamed_lit f) given) found → AreReachedOver cs given (map (renamed_lit g) found)
  answers_back rises found is = record {
    no_conflict = λ c. is.no_conflict (conflict_renamed f g K back cs given known over c);
    ascending = rise g J rises found (found_of J (map (renamed f) cs) (map (renamed_lit f) given) into_constraints into_lits found is) is.ascending;
    exact = λ l. (
      (λ h. let at = Contains-map_lit g found l h in subst (λ (m : Lit). IsReachable cs given m) at.2 (reaches_back at.0 ((is.exact at.0).0 at.1))),
      (λ r. let of_l = All-contains (OfLit K) r.0 l (reached_of K cs given known over r.0 r.1) r.2 in
          subst (λ (m : Lit). Contains (map (renamed_lit g) found) m) (back_lit f g K back l of_l)
          (Contains-map (renamed_lit g) found (renamed_lit f l) ((is.exact (renamed_lit f l)).1 (reaches_renamed f g K back cs given known over l r)))),
    );
  }

-- ---- the normal form stays, where the order does

module _ (f : ℕ → ℕ) (K : ℕ → Type 0) (rises : (u v : ℕ) → K u → K v → u < v → f u < f v) where
  rise_terms_all : (t : Weighted) → K t.lit.var → (ts : List Weighted) → All (OfTerm K) ts → All (Before t) ts → All (Before (renamed_term f t)) (map (renamed_term f) ts)
  rise_terms_all t of_t [] over up = All-nil (Before (renamed_term f t))
  rise_terms_all t of_t (u ∷ us) over up =
      All-cons (Before (renamed_term f t)) (renamed_term f u) (map (renamed_term f) us)
      (rises t.lit.var u.lit.var of_t (All-head (OfTerm K) u us over) (All-head (Before t) u us up))
      (rise_terms_all t of_t us (All-tail (OfTerm K) u us over) (All-tail (Before t) u us up))

  rise_terms : (ts : List Weighted) → All (OfTerm K) ts → IsAscending ts → IsAscending (map (renamed_term f) ts)
  rise_terms [] over up = AllPairs-nil Before
  rise_terms (t ∷ ts) over up =
      AllPairs-cons Before (renamed_term f t) (map (renamed_term f) ts)
      (rise_terms_all t (All-head (OfTerm K) t ts over) ts (All-tail (OfTerm K) t ts over) (AllPairs-head Before t ts up))
      (rise_terms ts (All-tail (OfTerm K) t ts over) (AllPairs-tail Before t ts up))

  weight_renamed : (ts : List Weighted) → weight (map (renamed_term f) ts) ≡ weight ts
  weight_renamed [] = refl
  weight_renamed (t ∷ ts) =
      let coef : Weighted → ℕ = λ u. u.coef in
      omega (arith, sum_by-cons coef (renamed_term f t) (map (renamed_term f) ts), sum_by-cons coef t ts, weight_renamed ts)

  pub linear_renamed : (c : Constraint) → OfConstraint K c → IsLinear c → IsLinear (renamed f c)
  linear_renamed c over is = record {
    positive = All-map {X = Weighted} (λ u. 0 < u.coef) (renamed_term f) c.terms is.positive;
    ascending = rise_terms c.terms over is.ascending;
    weight_fits = subst (λ (n : ℕ). n ≤ 2 ^ 126) (sym (weight_renamed c.terms)) is.weight_fits;
    degree_fits = is.degree_fits;
  }
