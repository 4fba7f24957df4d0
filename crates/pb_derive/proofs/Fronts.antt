-- Clauses that follow from the reifications of their literals, where something stands before a sum.
use Rattle.std.proofs.Common.{◌≡◌, ◌≤◌, ◌<◌, ◌+◌, ◌-◌, ◌^◌, ◌⊎◌, ℕ, Bool, true, false, cond, List, [], ◌∷◌, ◌++◌, map, ap, sym, ◌∙◌, subst, arith, inl, inr}
use Rattle.std.specs.Prelude.{Contains}
use Rattle.std.proofs.lemmas.Bool.{cases_Bool, cond-false}
use Rattle.std.proofs.lemmas.List.Sums.{sum_by-cons}
use Rattle.pb_base.specs.declared.literal.Lit.{Lit}
use Rattle.pb_base.specs.Literals.{Assignment, negated, lit_value, is_among, is_same}
use Rattle.pb_base.proofs.LiteralLemmas.{negated-negated, same_lit}
use Rattle.pb_base.proofs.Members.{Contains-nil, Contains-here, Contains-cons_cases, from_among}
use Rattle.pb_norm.specs.Constraints.{Weighted, Constraint, weight, value, term_value}
use Rattle.pb_norm.specs.Addition.{coef_of}
use Rattle.pb_norm.specs.Reduction.{opposite}
use Rattle.pb_norm.proofs.AdditionValues.{value-cons, coef_of-cons}
use Rattle.pb_norm.proofs.AdditionSizes.{weight-cons}
use Rattle.pb_norm.proofs.Extremes.{value-le-weight}
use Rattle.pb_derive.proofs.Closing.{coef_in-cons}
use Rattle.pb_derive.proofs.Opposites.{weight-opposite, value-opposite, coef_of-opposite}
use Rattle.pb_derive.specs.Reifications.{Reification, forward_of, reverse_of, spare}
use Rattle.pb_derive.specs.inner.Follows.{coef_in, AllFalse, FollowsFrom}
use Rattle.pb_derive.proofs.Appends.{coef_of-append, value-append, weight-append, coef_in-append, value_in-append, degrees-append, weight_in-append, coef_in-one, value_in-one, degrees-one, weight_in-one}
use Rattle.pb_derive.proofs.Sides.{Side, positive_of, is_false, none_apart, justification, cases_coef}

-- what stands before the sum of the other variable leaves nothing that counts, and adds at most so much
pub record Front (clause : List Lit) (ts : List Weighted) (weakened : List ℕ) (most : ℕ) : Type 0 where
  pub within : (l : Lit) → is_among clause l ≡ true ⊎ (Contains weakened l.var ⊎ (coef_of ts l ≤ coef_of ts (negated l)))
  pub apart : (l : Lit) → Contains clause l → ¬ Contains weakened l.var
  pub short : (a : Assignment) → AllFalse a clause → value a ts ≤ most

-- a weakened term adds its coefficient
pub front_weakened : (clause : List Lit) (t : Weighted) → ((l : Lit) → Contains clause l → l.var ≡ t.lit.var → ⊥) → Front clause (t ∷ []) (t.lit.var ∷ []) t.coef
front_weakened clause t apart = record {
  within = λ l. elim (cases_coef (t ∷ []) l) as (λ _. is_among clause l ≡ true ⊎ (Contains (t.lit.var ∷ []) l.var ⊎ (coef_of (t ∷ []) l ≤ coef_of (t ∷ []) (negated l)))) [
    | inl none ↦ inr (inr (omega arith))
    | inr some ↦ inr (inl (elim (Contains-cons_cases t [] some.0 some.1) as (λ _. Contains (t.lit.var ∷ []) l.var) [
      | inl same ↦ subst (λ (v : ℕ). Contains (t.lit.var ∷ []) v) (ap (λ (u : Weighted). u.lit.var) same ∙ some.2) (Contains-here t.lit.var [])
      | inr none ↦ absurd (Contains-nil some.0 none)
    ]))
  ];
  apart = λ l h gone. elim (Contains-cons_cases t.lit.var [] l.var gone) [ inl same ↦ apart l h (sym same) | inr none ↦ absurd (Contains-nil l.var none) ];
  short = λ a h. omega (arith, value-cons a t [], at_most (lit_value a t.lit) t.coef);
}
  where
    at_most : (b : Bool) (n : ℕ) → cond b n 0 ≤ n
    at_most true n = omega arith
    at_most false n = omega arith

-- a term of the clause adds nothing where that is false
pub front_false : (clause : List Lit) (t : Weighted) → is_among clause t.lit ≡ true → Front clause (t ∷ []) [] 0
front_false clause t among = record {
  within = λ l. elim (cases_Bool (is_same t.lit l)) as (λ _. is_among clause l ≡ true ⊎ (Contains [] l.var ⊎ (coef_of (t ∷ []) l ≤ coef_of (t ∷ []) (negated l)))) [
    | inl same ↦ inl (subst (λ (k : Lit). is_among clause k ≡ true) (same_lit t.lit l same) among)
    | inr other ↦
        let nothing : cond (is_same t.lit l) t.coef 0 ≡ 0 = cond-false (is_same t.lit l) t.coef 0 other in
        inr (inr (omega (arith, coef_of-cons l t [])))
  ];
  apart = none_apart clause;
  short = λ a h.
      let nothing : term_value a t ≡ 0 = cond-false (lit_value a t.lit) t.coef 0 (is_false a clause h t.lit (from_among clause t.lit among)) in
      omega (arith, value-cons a t []);
}

-- a side over a sum with something before, and a true variable that means that the sum stays below so much less
pub follows_rest : (clause : List Lit) (ts us : List Weighted) (u most : ℕ) (ss : List Constraint) (ws : List ℕ) (m : Reification)
    → Side clause (ts ++ us) u ss [] → Front clause ts ws most → m.sum ≡ us → m.least + most ≤ u → m.least ≤ weight us + 1 → is_among clause (positive_of m.var) ≡ true → weight (ts ++ us) < 2 ^ 100
    → (ids : List ℕ) → FollowsFrom (ss ++ reverse_of m ∷ []) (justification clause ids ws)
follows_rest clause ts us u most ss ws m side front sum le room among light ids =
    let o = positive_of m.var in
    let top : Weighted = record { coef = spare m; lit = o } in
    let last = reverse_of m in
    let all = ss ++ last ∷ [] in
    let heavy : weight m.sum ≡ weight us = ap weight sum in
    let whole = weight-append ts us in
    let split : (l : Lit) → coef_in all l ≡ coef_in ss l + coef_of last.terms l = λ l. omega (arith, coef_in-append l ss (last ∷ []), coef_in-one l last) in
    let own : (l : Lit) → coef_of last.terms l ≡ cond (is_same o l) (spare m) 0 + coef_of us (negated l) = λ l.
    omega (arith, coef_of-cons l top (map opposite m.sum), coef_of-opposite m.sum l, ap (λ (ws : List Weighted). coef_of ws (negated l)) sum) in
    let back : (l : Lit) → coef_of last.terms (negated l) ≡ cond (is_same o (negated l)) (spare m) 0 + coef_of us l = λ l.
    own (negated l) ∙ ap (λ (k : Lit). cond (is_same o (negated l)) (spare m) 0 + coef_of us k) (negated-negated l) in
    record {
      within = λ l.
          let Goal : Type 0 = is_among clause l ≡ true ⊎ (Contains ws l.var ⊎ (coef_in all l ≤ coef_in all (negated l))) in
          elim (cases_Bool (is_same o l)) as (λ _. Goal) [
            | inl same ↦ inl (subst (λ (k : Lit). is_among clause k ≡ true) (same_lit o l same) among)
            | inr other ↦
                let nothing : cond (is_same o l) (spare m) 0 ≡ 0 = cond-false (is_same o l) (spare m) 0 other in
                elim (front.within l) as (λ _. Goal) [
                  | inl here ↦ inl here
                  | inr more ↦ elim more as (λ _. Goal) [
                    | inl gone ↦ inr (inl gone)
                    | inr two ↦ elim (side.within l) as (λ _. Goal) [
                      | inl here ↦ inl here
                      | inr rest ↦ elim rest as (λ _. Goal) [
                        | inl gone ↦ absurd (Contains-nil l.var gone)
                        | inr one ↦ inr (inr (omega (arith, one, two, nothing, split l, split (negated l), own l, back l, coef_of-append ts us l, coef_of-append ts us (negated l))))
                      ]
                    ]
                  ]
                ]
          ];
      apart = front.apart;
      short = λ a h.
          let off : lit_value a o ≡ false = is_false a clause h o (from_among clause o among) in
          let nothing : term_value a top ≡ 0 = cond-false (lit_value a o) (spare m) 0 off in
          let one = side.short a h in
          let two = front.short a h in
          let values : value a m.sum ≡ value a us = ap (value a) sum in
          omega (
            arith,
            one,
            two,
            nothing,
            values,
            heavy,
            le,
            room,
            value-append a ts us,
            value_in-append a ss (last ∷ []),
            value_in-one a last,
            value-cons a top (map opposite m.sum),
            value-opposite a m.sum,
            degrees-append ss (last ∷ []),
            degrees-one last,
          );
      weight_fits = omega (
        arith,
        side.light,
        heavy,
        whole,
        light,
        weight_in-append ss (last ∷ []),
        weight_in-one last,
        weight-cons top (map opposite m.sum),
        weight-opposite m.sum,
      );
      degree_fits = omega (arith, side.low, heavy, whole, light, degrees-append ss (last ∷ []), degrees-one last);
    }

-- a true variable that means that its own sum is large, where the sum's front is false and the rest too light
pub follows_alone : (clause : List Lit) (t : Weighted) (us : List Weighted) (ws : List ℕ) (m : Reification)
    → m.sum ≡ t ∷ us → is_among clause (negated (positive_of m.var)) ≡ true → is_among clause t.lit ≡ true → weight us < m.least → m.least ≤ weight m.sum → ((u : Weighted) → Contains us u → Contains ws u.lit.var)
    → ((l : Lit) → Contains clause l → ¬ Contains ws l.var) → weight m.sum < 2 ^ 100
    → (ids : List ℕ) → FollowsFrom (forward_of m ∷ []) (justification clause ids ws)
follows_alone clause t us ws m sum among also short le gone apart light ids =
    let x = negated (positive_of m.var) in
    let head : Weighted = record { coef = m.least; lit = x } in
    let only = forward_of m in
    record {
      within = λ l.
          let Goal : Type 0 = is_among clause l ≡ true ⊎ (Contains ws l.var ⊎ (coef_in (only ∷ []) l ≤ coef_in (only ∷ []) (negated l))) in
          elim (cases_Bool (is_same x l)) as (λ _. Goal) [
            | inl same ↦ inl (subst (λ (k : Lit). is_among clause k ≡ true) (same_lit x l same) among)
            | inr other ↦ elim (cases_Bool (is_same t.lit l)) as (λ _. Goal) [
              | inl same ↦ inl (subst (λ (k : Lit). is_among clause k ≡ true) (same_lit t.lit l same) also)
              | inr different ↦ elim (cases_coef us l) as (λ _. Goal) [
                | inl none ↦
                    let nothing : cond (is_same x l) m.least 0 ≡ 0 = cond-false (is_same x l) m.least 0 other in
                    let little : cond (is_same t.lit l) t.coef 0 ≡ 0 = cond-false (is_same t.lit l) t.coef 0 different in
                    inr (inr (omega (arith, coef_in-one l only, coef_of-cons l head m.sum, ap (λ (ws : List Weighted). coef_of ws l) sum, coef_of-cons l t us)))
                | inr some ↦ inr (inl (subst (λ (v : ℕ). Contains ws v) some.2 (gone some.0 some.1)))
              ]
            ]
          ];
      apart = apart;
      short = λ a h.
          let off : lit_value a x ≡ false = is_false a clause h x (from_among clause x among) in
          let nothing : term_value a head ≡ 0 = cond-false (lit_value a x) m.least 0 off in
          let little : term_value a t ≡ 0 = cond-false (lit_value a t.lit) t.coef 0 (is_false a clause h t.lit (from_among clause t.lit also)) in
          omega (arith, value_in-one a only, degrees-one only, value-cons a head m.sum, ap (value a) sum, value-cons a t us, value-le-weight a us);
      weight_fits = omega (arith, weight_in-one only, weight-cons head m.sum);
      degree_fits = omega (arith, degrees-one only);
    }

-- a false variable that means that its sum is small, which the sum's own constraint denies
pub follows_top : (clause : List Lit) (m : Reification) (own : Constraint)
    → is_among clause (positive_of m.var) ≡ true → own.terms ≡ m.sum → weight m.sum < spare m + own.degree → own.degree ≤ weight m.sum → weight m.sum < 2 ^ 100
    → (ids : List ℕ) → FollowsFrom (reverse_of m ∷ own ∷ []) (justification clause ids [])
follows_top clause m own among terms heavy within light ids =
    let o = positive_of m.var in
    let top : Weighted = record { coef = spare m; lit = o } in
    let one = reverse_of m in
    let all = one ∷ own ∷ [] in
    let split : (l : Lit) → coef_in all l ≡ cond (is_same o l) (spare m) 0 + coef_of m.sum (negated l) + coef_of m.sum l = λ l.
    omega (arith, coef_in-cons l one (own ∷ []), coef_in-one l own, coef_of-cons l top (map opposite m.sum), coef_of-opposite m.sum l, ap (λ (ws : List Weighted). coef_of ws l) terms) in
    let back : (l : Lit) → coef_in all (negated l) ≡ cond (is_same o (negated l)) (spare m) 0 + coef_of m.sum l + coef_of m.sum (negated l) = λ l.
    split (negated l) ∙ ap (λ (k : Lit). cond (is_same o (negated l)) (spare m) 0 + coef_of m.sum k + coef_of m.sum (negated l)) (negated-negated l) in
    record {
      within = λ l.
          let Goal : Type 0 = is_among clause l ≡ true ⊎ (Contains [] l.var ⊎ (coef_in all l ≤ coef_in all (negated l))) in
          elim (cases_Bool (is_same o l)) as (λ _. Goal) [
            | inl same ↦ inl (subst (λ (k : Lit). is_among clause k ≡ true) (same_lit o l same) among)
            | inr other ↦
                let nothing : cond (is_same o l) (spare m) 0 ≡ 0 = cond-false (is_same o l) (spare m) 0 other in
                inr (inr (omega (arith, nothing, split l, back l)))
          ];
      apart = none_apart clause;
      short = λ a h.
          let off : lit_value a o ≡ false = is_false a clause h o (from_among clause o among) in
          let nothing : term_value a top ≡ 0 = cond-false (lit_value a o) (spare m) 0 off in
          omega (
            arith,
            nothing,
            heavy,
            sum_by-cons {X = Constraint} (λ s. value a s.terms) one (own ∷ []),
            value_in-one a own,
            value-cons a top (map opposite m.sum),
            value-opposite a m.sum,
            ap (value a) terms,
            sum_by-cons {X = Constraint} (λ s. s.degree) one (own ∷ []),
            degrees-one own,
          );
      weight_fits = omega (arith, light, sum_by-cons {X = Constraint} (λ s. weight s.terms) one (own ∷ []), weight_in-one own, weight-cons top (map opposite m.sum), weight-opposite m.sum, ap weight terms);
      degree_fits = omega (arith, light, within, sum_by-cons {X = Constraint} (λ s. s.degree) one (own ∷ []), degrees-one own);
    }
