-- Clauses that follow from the reifications of their literals, over plain lists.
use Rattle.std.proofs.Common.{◌≡◌, ◌≤◌, ◌<◌, ◌+◌, ◌-◌, ◌*◌, ◌^◌, ◌⊎◌, ℕ, Bool, true, false, not, cond, List, [], ◌∷◌, ◌++◌, map, refl, ap, sym, ◌∙◌, subst, arith, inl, inr}
use Rattle.std.specs.Prelude.{Contains}
use Rattle.std.proofs.lemmas.Bool.{cases_Bool, cond-true, cond-false}
use Rattle.std.proofs.lemmas.List.Elements.{All-contains, Contains-append_left, Contains-append_right, Contains-append_cases}
use Rattle.std.proofs.lemmas.List.Sums.{sum_by-append}
use Rattle.pb_base.specs.declared.literal.Lit.{Lit}
use Rattle.pb_base.specs.Literals.{Assignment, negated, lit_value, is_among, is_same}
use Rattle.pb_base.proofs.LiteralLemmas.{lit_value-negated, negated-negated, same_lit}
use Rattle.pb_base.proofs.Members.{Contains-nil, Contains-here, Contains-there, from_among}
use Rattle.pb_norm.specs.Constraints.{Weighted, Constraint, weight, value, term_value}
use Rattle.pb_norm.specs.Addition.{coef_of}
use Rattle.pb_norm.specs.BoundedSums.{vars_of}
use Rattle.pb_norm.specs.Reduction.{opposite}
use Rattle.pb_norm.proofs.AdditionValues.{value-cons, coef_of-cons}
use Rattle.pb_norm.proofs.AdditionSizes.{weight-cons}
use Rattle.pb_norm.proofs.Extremes.{value-le-weight}
use Rattle.pb_derive.proofs.Closing.{degrees-cons, weight_in-cons, value_in-cons, coef_in-cons}
use Rattle.pb_derive.proofs.Opposites.{weight-opposite, value-opposite, coef_of-opposite, coef_of-absent, coef_of-head, value-head, cases_listed}
use Rattle.pb_derive.specs.Reifications.{Reification, forward_of, reverse_of, spare}
use Rattle.pb_derive.specs.Justifications.{Justification}
use Rattle.pb_derive.specs.inner.Follows.{coef_in, value_in, degrees, weight_in, AllFalse, FollowsFrom}
use Rattle.pb_derive.proofs.Appends.{coef_of-append, value-append, weight-append, coef_in-append, value_in-append, degrees-append, weight_in-append, coef_in-one, value_in-one, degrees-one, weight_in-one}

-- the literal that says that a variable is true
abbrev pub positive_of : ℕ → Lit
positive_of v = record { var = v; positive = true }

pub is_false : (a : Assignment) (clause : List Lit) → AllFalse a clause → (l : Lit) → Contains clause l → lit_value a l ≡ false
is_false a clause h l m = All-contains (λ (l : Lit). lit_value a l ≡ false) clause l h m

pub none_apart : (clause : List Lit) (l : Lit) → Contains clause l → ¬ Contains {X = ℕ} [] l.var
none_apart clause l h = Contains-nil l.var

abbrev pub justification : List Lit → List ℕ → List ℕ → Justification
justification clause ids weakened = record { clause = clause; ids = ids; weakened = weakened }

-- ---- a sum that is known to reach a number where the clause is false

pub record Known (clause : List Lit) (ts : List Weighted) (u : ℕ) (sources : List Constraint) (weakened : List ℕ) : Type 0 where
  pub within : (l : Lit) → is_among clause l ≡ true ⊎ (Contains weakened l.var ⊎ (coef_in sources l + coef_of ts (negated l) ≤ coef_in sources (negated l) + coef_of ts l))
  pub apart : (l : Lit) → Contains clause l → ¬ Contains weakened l.var
  pub short : (a : Assignment) → AllFalse a clause → value_in a sources + u ≤ degrees sources + value a ts

-- ---- a side: a sum that is known to reach a number where the clause is false

pub record Side (clause : List Lit) (ts : List Weighted) (u : ℕ) (sources : List Constraint) (weakened : List ℕ) : Type 0 where
  pub within : (l : Lit) → is_among clause l ≡ true ⊎ (Contains weakened l.var ⊎ (coef_in sources l + coef_of ts (negated l) ≤ coef_in sources (negated l) + coef_of ts l))
  pub apart : (l : Lit) → Contains clause l → ¬ Contains weakened l.var
  pub short : (a : Assignment) → AllFalse a clause → value_in a sources + u ≤ degrees sources + value a ts
  pub reachable : u ≤ weight ts
  pub light : weight_in sources ≤ 2 * weight ts
  pub low : degrees sources ≤ weight ts

-- a literal has no coefficient, or its variable is one of the terms
pub cases_coef : (ts : List Weighted) (l : Lit) → (coef_of ts l ≡ 0) ⊎ ((t : Weighted) × Contains ts t × (t.lit.var ≡ l.var))
cases_coef [] l = inl refl
cases_coef (t ∷ ts) l =
    let cons = coef_of-cons l t ts in
    elim (cases_Bool (is_same t.lit l)) as (λ _. (coef_of (t ∷ ts) l ≡ 0) ⊎ ((u : Weighted) × Contains (t ∷ ts) u × (u.lit.var ≡ l.var))) [
      | inl same ↦ inr (t, Contains-here t ts, ap (λ (k : Lit). k.var) (same_lit t.lit l same))
      | inr other ↦
          let nothing : cond (is_same t.lit l) t.coef 0 ≡ 0 = cond-false (is_same t.lit l) t.coef 0 other in
          elim (cases_coef ts l) as (λ _. (coef_of (t ∷ ts) l ≡ 0) ⊎ ((u : Weighted) × Contains (t ∷ ts) u × (u.lit.var ≡ l.var))) [
            | inl none ↦ inl (omega arith)
            | inr some ↦ inr (some.0, Contains-there t ts some.0 some.1, some.2)
          ]
    ]

-- nothing is known but that the sum is not negative
pub side_none : (clause : List Lit) (ts : List Weighted) (weakened : List ℕ) → ((t : Weighted) → Contains ts t → Contains weakened t.lit.var) → ((l : Lit) → Contains clause l → ¬ Contains weakened l.var)
    → Side clause ts 0 [] weakened
side_none clause ts weakened all apart = record {
  within = λ l. elim (cases_coef ts (negated l)) as (λ _. is_among clause l ≡ true ⊎ (Contains weakened l.var ⊎ (0 + coef_of ts (negated l) ≤ 0 + coef_of ts l))) [
    | inl none ↦ inr (inr (omega arith))
    | inr some ↦ inr (inl (subst (λ (v : ℕ). Contains weakened v) some.2 (all some.0 some.1)))
  ];
  apart = apart;
  short = λ a h. omega arith;
  reachable = omega arith;
  light = omega arith;
  low = omega arith;
}

-- a leaf, whose literal is true where the clause, which has its negation, is false
pub side_leaf : (clause : List Lit) (t : Weighted) (u : ℕ) → u ≤ t.coef → is_among clause (negated t.lit) ≡ true → Side clause (t ∷ []) u [] []
side_leaf clause t u le among = record {
  within = λ l. elim (cases_Bool (is_same t.lit (negated l))) as (λ _. is_among clause l ≡ true ⊎ (Contains [] l.var ⊎ (0 + coef_of (t ∷ []) (negated l) ≤ 0 + coef_of (t ∷ []) l))) [
    | inl same ↦ inl (subst (λ (k : Lit). is_among clause k ≡ true) (ap negated (same_lit t.lit (negated l) same) ∙ negated-negated l) among)
    | inr other ↦
        let nothing : cond (is_same t.lit (negated l)) t.coef 0 ≡ 0 = cond-false (is_same t.lit (negated l)) t.coef 0 other in
        inr (inr (omega (arith, coef_of-cons (negated l) t [])))
  ];
  apart = none_apart clause;
  short = λ a h.
      let on : lit_value a t.lit ≡ true = not_false (lit_value a t.lit) (sym (lit_value-negated a t.lit) ∙ is_false a clause h (negated t.lit) (from_among clause (negated t.lit) among)) in
      let whole : term_value a t ≡ t.coef = cond-true (lit_value a t.lit) t.coef 0 on in
      omega (arith, value-cons a t []);
  reachable = omega (arith, weight-cons t []);
  light = omega arith;
  low = omega arith;
}
  where
    not_false : (b : Bool) → not b ≡ false → b ≡ true
    not_false true h = refl
    not_false false h = sym h

-- a literal that stands with a number before a sum which is to reach it, where the literal is false
abbrev pub headed : Lit → ℕ → List Weighted → Constraint
headed x k ts = record { terms = record { coef = k; lit = x } ∷ ts; degree = k }

-- where its literal, which the clause has, is false, the sum reaches the number
pub known_headed : (clause : List Lit) (x : Lit) (k : ℕ) (ts : List Weighted) → is_among clause x ≡ true → Known clause ts k (headed x k ts ∷ []) []
known_headed clause x k ts among =
    let head : Weighted = record { coef = k; lit = x } in
    let c = headed x k ts in
    record {
      within = λ l. elim (cases_Bool (is_same x l)) as (λ _. is_among clause l ≡ true ⊎ (Contains [] l.var ⊎ (coef_in (c ∷ []) l + coef_of ts (negated l) ≤ coef_in (c ∷ []) (negated l) + coef_of ts l))) [
        | inl same ↦ inl (subst (λ (y : Lit). is_among clause y ≡ true) (same_lit x l same) among)
        | inr other ↦
            let nothing : cond (is_same x l) k 0 ≡ 0 = cond-false (is_same x l) k 0 other in
            inr (inr (omega (arith, coef_in-one l c, coef_in-one (negated l) c, coef_of-cons l head ts, coef_of-cons (negated l) head ts)))
      ];
      apart = none_apart clause;
      short = λ a h.
          let off : lit_value a x ≡ false = is_false a clause h x (from_among clause x among) in
          let nothing : term_value a head ≡ 0 = cond-false (lit_value a x) k 0 off in
          omega (arith, value_in-one a c, degrees-one c, value-cons a head ts);
    }

pub side_headed : (clause : List Lit) (x : Lit) (k : ℕ) (ts : List Weighted) → k ≤ weight ts → is_among clause x ≡ true → Side clause ts k (headed x k ts ∷ []) []
side_headed clause x k ts le among =
    let c = headed x k ts in
    let known = known_headed clause x k ts among in
    record { within = known.within; apart = known.apart; short = known.short; reachable = le; light = omega (arith, weight_in-one c, weight-cons (record { coef = k; lit = x }) ts); low = omega (arith, degrees-one c) }

-- a variable that means it, which is true where the clause, which has its negation, is false
pub side_fresh : (clause : List Lit) (m : Reification) → m.least ≤ weight m.sum → is_among clause (negated (positive_of m.var)) ≡ true → Side clause m.sum m.least (forward_of m ∷ []) []
side_fresh clause m le among = side_headed clause (negated (positive_of m.var)) m.least m.sum le among

-- ---- clauses

-- two sides, and a literal of the clause with a number before the opposite of both sums, which reach more than it leaves
pub follows_headed : (clause : List Lit) (x : Lit) (k : ℕ) (ts us : List Weighted) (u v : ℕ) (ss rs : List Constraint) (ws xs : List ℕ)
    → Side clause ts u ss ws → Side clause us v rs xs → weight ts + weight us < u + v + k → k ≤ weight ts + weight us + 1 → is_among clause x ≡ true → weight ts + weight us < 2 ^ 100
    → (ids : List ℕ) → FollowsFrom (ss ++ (rs ++ headed x k (map opposite (ts ++ us)) ∷ [])) (justification clause ids (ws ++ xs))
follows_headed clause x k ts us u v ss rs ws xs left right above most among light ids =
    let head : Weighted = record { coef = k; lit = x } in
    let both = ts ++ us in
    let last = headed x k (map opposite both) in
    let all = ss ++ (rs ++ last ∷ []) in
    let heavy : weight both ≡ weight ts + weight us = weight-append ts us in
    let split : (l : Lit) → coef_in all l ≡ coef_in ss l + (coef_in rs l + coef_of last.terms l) = λ l. omega (arith, coef_in-append l ss (rs ++ last ∷ []), coef_in-append l rs (last ∷ []), coef_in-one l last) in
    let own : (l : Lit) → coef_of last.terms l ≡ cond (is_same x l) k 0 + (coef_of ts (negated l) + coef_of us (negated l)) = λ l.
    omega (arith, coef_of-cons l head (map opposite both), coef_of-opposite both l, coef_of-append ts us (negated l)) in
    let back : (l : Lit) → coef_of last.terms (negated l) ≡ cond (is_same x (negated l)) k 0 + (coef_of ts l + coef_of us l) = λ l.
    own (negated l) ∙ ap (λ (y : Lit). cond (is_same x (negated l)) k 0 + (coef_of ts y + coef_of us y)) (negated-negated l) in
    record {
      within = λ l.
          let Goal : Type 0 = is_among clause l ≡ true ⊎ (Contains (ws ++ xs) l.var ⊎ (coef_in all l ≤ coef_in all (negated l))) in
          elim (cases_Bool (is_same x l)) as (λ _. Goal) [
            | inl same ↦ inl (subst (λ (y : Lit). is_among clause y ≡ true) (same_lit x l same) among)
            | inr other ↦
                let nothing : cond (is_same x l) k 0 ≡ 0 = cond-false (is_same x l) k 0 other in
                elim (left.within l) as (λ _. Goal) [
                  | inl here ↦ inl here
                  | inr more ↦ elim more as (λ _. Goal) [
                    | inl gone ↦ inr (inl (Contains-append_left ws xs l.var gone))
                    | inr one ↦ elim (right.within l) as (λ _. Goal) [
                      | inl here ↦ inl here
                      | inr rest ↦ elim rest as (λ _. Goal) [
                        | inl gone ↦ inr (inl (Contains-append_right ws xs l.var gone))
                        | inr two ↦ inr (inr (omega (arith, one, two, nothing, split l, split (negated l), own l, back l)))
                      ]
                    ]
                  ]
                ]
          ];
      apart = λ l h gone. elim (Contains-append_cases ws xs l.var gone) [ inl first ↦ left.apart l h first | inr second ↦ right.apart l h second ];
      short = λ a h.
          let off : lit_value a x ≡ false = is_false a clause h x (from_among clause x among) in
          let nothing : term_value a head ≡ 0 = cond-false (lit_value a x) k 0 off in
          let one = left.short a h in
          let two = right.short a h in
          omega (
            arith,
            one,
            two,
            nothing,
            heavy,
            above,
            value-append a ts us,
            value_in-append a ss (rs ++ last ∷ []),
            value_in-append a rs (last ∷ []),
            value_in-one a last,
            value-cons a head (map opposite both),
            value-opposite a both,
            degrees-append ss (rs ++ last ∷ []),
            degrees-append rs (last ∷ []),
            degrees-one last,
          );
      weight_fits = omega (
        arith,
        left.light,
        right.light,
        heavy,
        light,
        most,
        weight_in-append ss (rs ++ last ∷ []),
        weight_in-append rs (last ∷ []),
        weight_in-one last,
        weight-cons head (map opposite both),
        weight-opposite both,
      );
      degree_fits = omega (
        arith,
        left.low,
        right.low,
        light,
        most,
        degrees-append ss (rs ++ last ∷ []),
        degrees-append rs (last ∷ []),
        degrees-one last,
      );
    }

-- two sides reach two numbers, so that a variable is true which means that both sums together reach at most the sum of these
pub follows_pair : (clause : List Lit) (ts us : List Weighted) (u v : ℕ) (ss rs : List Constraint) (ws xs : List ℕ) (m : Reification)
    → Side clause ts u ss ws → Side clause us v rs xs → m.sum ≡ ts ++ us → m.least ≤ u + v → is_among clause (positive_of m.var) ≡ true → weight ts + weight us < 2 ^ 100
    → (ids : List ℕ) → FollowsFrom (ss ++ (rs ++ reverse_of m ∷ [])) (justification clause ids (ws ++ xs))
follows_pair clause ts us u v ss rs ws xs m left right sum le among light ids =
    let heavy : weight m.sum ≡ weight ts + weight us = ap weight sum ∙ weight-append ts us in
    let some = left.reachable in
    let more = right.reachable in
    subst (λ (vs : List Weighted). FollowsFrom (ss ++ (rs ++ headed (positive_of m.var) (spare m) (map opposite vs) ∷ [])) (justification clause ids (ws ++ xs))) (sym sum)
    (follows_headed clause (positive_of m.var) (spare m) ts us u v ss rs ws xs left right (omega arith) (omega arith) among light ids)

pub known_of : {clause : List Lit} {ts : List Weighted} {u : ℕ} {ss : List Constraint} {ws : List ℕ} → Side clause ts u ss ws → Known clause ts u ss ws
known_of side = record { within = side.within; apart = side.apart; short = side.short }

-- one that reaches more than the bound, so that the sum's own constraint is broken
pub follows_bound : (clause : List Lit) (ts : List Weighted) (bound u : ℕ) (ss : List Constraint) (ws : List ℕ) → Known clause ts u ss ws → bound < u → bound ≤ weight ts → weight ts < 2 ^ 100
    → weight_in ss ≤ 2 * weight ts → degrees ss ≤ weight ts → (ids : List ℕ) → FollowsFrom (ss ++ record { terms = map opposite ts; degree = weight ts - bound } ∷ []) (justification clause ids ws)
follows_bound clause ts bound u ss ws side above within light heavy low ids =
    let last : Constraint = record { terms = map opposite ts; degree = weight ts - bound } in
    let all = ss ++ last ∷ [] in
    let own : (l : Lit) → coef_in all l ≡ coef_in ss l + coef_of ts (negated l) = λ l. omega (arith, sum_by-append {X = Constraint} (λ s. coef_of s.terms l) ss (last ∷ []), coef_in-cons l last [], coef_of-opposite ts l) in
    let back : (l : Lit) → coef_in all (negated l) ≡ coef_in ss (negated l) + coef_of ts l = λ l. own (negated l) ∙ ap (λ (k : Lit). coef_in ss (negated l) + coef_of ts k) (negated-negated l) in
    record {
      within = λ l.
          let Goal : Type 0 = is_among clause l ≡ true ⊎ (Contains ws l.var ⊎ (coef_in all l ≤ coef_in all (negated l))) in
          elim (side.within l) as (λ _. Goal) [
            | inl here ↦ inl here
            | inr more ↦ elim more as (λ _. Goal) [
              | inl gone ↦ inr (inl gone)
              | inr one ↦ inr (inr (omega (arith, one, own l, back l)))
            ]
          ];
      apart = side.apart;
      short = λ a h. omega (
        arith,
        side.short a h,
        above,
        within,
        sum_by-append {X = Constraint} (λ s. value a s.terms) ss (last ∷ []),
        value_in-cons a last [],
        value-opposite a ts,
        sum_by-append {X = Constraint} (λ s. s.degree) ss (last ∷ []),
        degrees-cons last [],
      );
      weight_fits = omega (arith, heavy, light, sum_by-append {X = Constraint} (λ s. weight s.terms) ss (last ∷ []), weight_in-cons last [], weight-opposite ts);
      degree_fits = omega (arith, low, light, sum_by-append {X = Constraint} (λ s. s.degree) ss (last ∷ []), degrees-cons last []);
    }

-- a side that reaches more than the bound
pub follows_root : (clause : List Lit) (ts : List Weighted) (bound u : ℕ) (ss : List Constraint) → Side clause ts u ss [] → bound < u → bound ≤ weight ts → weight ts < 2 ^ 100
    → (ids : List ℕ) → FollowsFrom (ss ++ record { terms = map opposite ts; degree = weight ts - bound } ∷ []) (justification clause ids [])
follows_root clause ts bound u ss side above within light ids = follows_bound clause ts bound u ss [] (known_of side) above within light side.light side.low ids

-- a sum that cannot reach its number: the first constraint alone
pub follows_unreached : (clause : List Lit) (m : Reification) → weight m.sum < m.least → m.least + weight m.sum < 2 ^ 100 → is_among clause (negated (record { var = m.var; positive = true })) ≡ true
    → ((l : Lit) → Contains clause l → ¬ Contains (vars_of m.sum) l.var) → (ids : List ℕ) → FollowsFrom (forward_of m ∷ []) (justification clause ids (vars_of m.sum))
follows_unreached clause m above light among apart ids =
    let x : Lit = record { var = m.var; positive = false } in
    let z : Weighted = record { coef = m.least; lit = x } in
    let s : Constraint = forward_of m in
    record {
      within = λ l.
          let Goal : Type 0 = (is_among clause l ≡ true) ⊎ Contains (vars_of m.sum) l.var ⊎ (coef_in (s ∷ []) l ≤ coef_in (s ∷ []) (negated l)) in
          elim (cases_Bool (is_same x l)) as (λ _. Goal) [
            | inl same ↦ inl (subst (λ (k : Lit). is_among clause k ≡ true) (same_lit x l same) among)
            | inr other ↦ elim (cases_listed (vars_of m.sum) l.var) as (λ _. Goal) [
              | inl goes ↦ inr (inl goes)
              | inr stays ↦ inr (inr (omega (arith, coef_in-cons l s [], coef_of-head z m.sum l other, coef_of-absent m.sum l stays)))
            ]
          ];
      apart = apart;
      short = λ a falses.
          let off : lit_value a x ≡ false = All-contains (λ (l : Lit). lit_value a l ≡ false) clause x falses (from_among clause x among) in
          omega (arith, value_in-cons a s [], degrees-cons s [], value-head a z m.sum off, value-le-weight a m.sum, above);
      weight_fits = omega (arith, weight_in-cons s [], weight-cons z m.sum, light);
      degree_fits = omega (arith, degrees-cons s [], light);
    }
