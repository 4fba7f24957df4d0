-- The clauses of a node, in both directions, hold where outputs have their reifications.
use Rattle.std.proofs.Common.{◌≡◌, ◌≤◌, ◌+◌, ◌⊎◌, ℕ, Bool, true, List, length, sym, ◌∙◌, subst, arith, inl, inr, length-append}
use Rattle.std.specs.Prelude.{Contains}
use Rattle.std.proofs.lemmas.Bool.{cases_lt, cases_Bool, le-leb, leb-true, not_from_false}
use Rattle.std.proofs.lemmas.List.Elements.{Contains-append_cases}
use Rattle.pb_base.specs.declared.literal.Lit.{Lit}
use Rattle.pb_base.specs.Literals.{negated, lit_value, clause_value}
use Rattle.pb_base.proofs.LiteralLemmas.{lit_value-negated}
use Rattle.pb_tree.specs.Tree.{Tree, node}
use Rattle.pb_tree.specs.Scheme.{fresh_of, output, own_of, own_count_of}
use Rattle.pb_tree.proofs.ByReification.{clause_from, lawful_by_reification, var_of}
use Rattle.pb_tree.proofs.Extending.{OutputsMean, IsOutputVar, IsByReification}
use Rattle.pb_totalizer.specs.Exact.{limit_clause, limits_of, limit_count_of, outputs_of, exact_own}
use Rattle.pb_totalizer.specs.Totalizer.{totalizer}
use Rattle.pb_totalizer.specs.laws.Limits.{limit_cases, limit_literal, limit_left, limit_right, limit_own, limits_counted}
use Rattle.pb_totalizer.specs.laws.TotalizerLaws.{IsCapped, value_from, values_count, node_length, leaf_count, totalizer_lawful}

-- ---- the clauses of a node

module _ (bound : ℕ) (l r : Tree) (first : ℕ) where
  abbrev a : ℕ
  a = outputs_of bound l

  abbrev b : ℕ
  b = outputs_of bound r

  abbrev f : ℕ → Lit
  f = output (totalizer bound) l first

  abbrev g : ℕ → Lit
  g = output (totalizer bound) r (first + fresh_of (totalizer bound) l)

  abbrev o : ℕ → Lit
  o = output (totalizer bound) (node l r) first

  abbrev Named : ℕ → Type 0
  Named n = IsOutputVar (totalizer bound) l first n ⊎ (IsOutputVar (totalizer bound) r (first + fresh_of (totalizer bound) l) n ⊎ IsOutputVar (totalizer bound) (node l r) first n)

  -- which variables they name
  limits_named : (c : List Lit) (k : Lit) → Contains (limits_of bound l r first) c → Contains c k → Named k.var
  limits_named c k h m =
      let found = limit_cases (outputs_of bound (node l r)) a b f g o c h in
      let i = found.0 in
      let j = found.1 in
      let below = found.4 in
      elim (limit_literal a b f g o i j k (subst (λ (d : List Lit). Contains d k) (sym found.5) m)) as (λ _. Named k.var) [
        | inl one ↦ inl (i + 1, value_from bound l (i + 1) (omega arith) (let x = one.0 in omega arith), var_of k (f (i + 1)) one.1)
        | inr rest ↦ elim rest as (λ _. Named k.var) [
          | inl two ↦ inr (inl (j + 1, value_from bound r (j + 1) (omega arith) (let x = two.0 in omega arith), var_of k (g (j + 1)) two.1))
          | inr own ↦ inr (inr (i + j + 1, value_from bound (node l r) (i + j + 1) (omega arith) (omega arith), var_of k (negated (o (i + j + 1))) own))
        ]
      ]

  -- they are true
  limits_hold : (v : ℕ → Bool) (x y : ℕ) → x ≤ leaf_count l → y ≤ leaf_count r
      → OutputsMean (totalizer bound) v l first x → OutputsMean (totalizer bound) v r (first + fresh_of (totalizer bound) l) y → OutputsMean (totalizer bound) v (node l r) first (x + y) → (c : List Lit)
      → Contains (limits_of bound l r first) c
      → clause_value v c ≡ true
  limits_hold v x y few also left right own c h =
      let found = limit_cases (outputs_of bound (node l r)) a b f g o c h in
      let i = found.0 in
      let j = found.1 in
      let within_left = found.2 in
      let within_right = found.3 in
      let below = found.4 in
      let am = values_count bound l in
      let bn = values_count bound r in
      let count = node_length bound l r in
      let d = limit_clause a b f g o i j in
      subst (λ (e : List Lit). clause_value v e ≡ true) found.5 (elim (cases_Bool (lit_value v (o (i + j + 1)))) as (λ _. clause_value v d ≡ true) [
        | inr off ↦ clause_from v d (negated (o (i + j + 1))) (limit_own a b f g o i j) (lit_value-negated v (o (i + j + 1)) ∙ not_from_false (lit_value v (o (i + j + 1))) off)
        | inl on ↦
            let reached = leb-true (i + j + 1) (x + y) (sym (own (i + j + 1) (value_from bound (node l r) (i + j + 1) (omega arith) (omega arith))) ∙ on) in
            elim (cases_lt i x) as (λ _. clause_value v d ≡ true) [
              | inl more ↦ clause_from v d (f (i + 1)) (limit_left a b f g o i j (omega arith)) (left (i + 1) (value_from bound l (i + 1) (omega arith) (omega arith)) ∙ le-leb (i + 1) x (omega arith))
              | inr less ↦ clause_from v d (g (j + 1)) (limit_right a b f g o i j (omega arith)) (right (j + 1) (value_from bound r (j + 1) (omega arith) (omega arith)) ∙ le-leb (j + 1) y (omega arith))
            ]
      ])

pub exact_by_reification : (bound : ℕ) → IsByReification (totalizer bound) (exact_own bound)
exact_by_reification bound =
    let s = totalizer bound in
    record {
      names = λ l r first c k h m.
          elim (Contains-append_cases (own_of s l r first) (limits_of bound l r first) c h) as (λ _. Named bound l r first k.var) [
            | inl sums ↦ (lawful_by_reification s (IsCapped bound) (totalizer_lawful bound)).names l r first c k sums m
            | inr limits ↦ limits_named bound l r first c k limits m
          ];
      holds = λ l r first v x y few also left right own c h.
          elim (Contains-append_cases (own_of s l r first) (limits_of bound l r first) c h) as (λ _. clause_value v c ≡ true) [
            | inl sums ↦ (lawful_by_reification s (IsCapped bound) (totalizer_lawful bound)).holds l r first v x y few also left right own c sums
            | inr limits ↦ limits_hold bound l r first v x y few also left right own c limits
          ];
    }

pub own_counted : (bound : ℕ) (l r : Tree) (first : ℕ) → length (exact_own bound l r first) ≡ own_count_of (totalizer bound) l r + limit_count_of bound l r
own_counted bound l r first =
    let s = totalizer bound in
    let laws = totalizer_lawful bound in
    omega (
      arith,
      length-append (own_of s l r first) (limits_of bound l r first),
      laws.counted l r (f bound l r first) (g bound l r first) (o bound l r first),
      limits_counted (outputs_of bound (node l r)) (outputs_of bound l) (outputs_of bound r) (f bound l r first) (g bound l r first) (o bound l r first),
    )
