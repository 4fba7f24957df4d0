-- A totalizer is lawful, and its counts in closed form.
use Rattle.std.proofs.Common.{◌≡◌, ◌≤◌, ◌+◌, ◌-◌, ◌⊎◌, ℕ, Bool, true, List, [], ◌∷◌, length, min, refl, sym, ap, ◌∙◌, subst, arith, inl, inr, zero, suc}
use Rattle.std.specs.Prelude.{Contains, nat_le}
use Rattle.std.specs.List.{range_with_len}
use Rattle.std.proofs.lemmas.Bool.{cases_eq, leb-true, le-leb, and_from, and_parts}
use Rattle.std.proofs.lemmas.List.FromFn.{length-range_with_len, get_or-range_with_len}
use Rattle.pb_base.specs.declared.literal.Lit.{Lit}
use Rattle.pb_base.specs.Literals.{Assignment, negated, IsModel, AgreeBelow}
use Rattle.pb_norm.specs.Constraints.{Weighted}
use Rattle.pb_norm.specs.BoundedSums.{BoundedSum, StaysWithin, IsProper}
use Rattle.pb_norm.specs.ClausePropagation.{ClausesPropagate}
use Rattle.pb_norm.specs.Reduction.{all_weigh}
use Rattle.pb_family.specs.Families.{VarsBelow, NamesOnly}
use Rattle.pb_family.proofs.UnitSums.{unit_coefficient}
use Rattle.pb_tree.specs.Tree.{Tree, empty, leaf, node, tree_of, leaf_sum}
use Rattle.pb_tree.specs.Scheme.{values}
use Rattle.pb_tree.proofs.Sums.{Reach, ReachWith, OfLeft, OfBoth, IsLawful}
use Rattle.pb_tree.proofs.Lists.{Contains-range, Contains-range_cases}
use Rattle.pb_tree.proofs.Pushing.{with_positive}
use Rattle.pb_tree.proofs.Laws.{Suits, tree_propagates, tree_sound, tree_extends, tree_names, tree_counts}
use Rattle.pb_totalizer.specs.Totalizer.{sum_clause, is_within, sum_clauses, totalizer, totalizer_clauses, totalizer_fresh, totalizer_size}
use Rattle.pb_totalizer.specs.laws.PairRows.{row_listed, row_cases, rows_counted}

-- ---- the values are the numbers from 1 on

pub values_are : (bound : ℕ) (t : Tree) → values (totalizer bound) t ≡ range_with_len 1 (length (values (totalizer bound) t))
values_are bound empty = refl
values_are bound (leaf t) = ap (λ (n : ℕ). n ∷ []) (let e : min 1 (bound + 1) ≡ 1 = omega arith in e)
values_are bound (node l r) =
    let m = min (length (values (totalizer bound) l) + length (values (totalizer bound) r)) (bound + 1) in
    ap (range_with_len 1) (sym (length-range_with_len 1 m))

pub values_length : (bound : ℕ) (t : Tree) → length (values (totalizer bound) t) ≤ bound + 1
values_length bound empty = omega arith
values_length bound (leaf t) = omega arith
values_length bound (node l r) =
    omega (arith, length-range_with_len 1 (min (length (values (totalizer bound) l) + length (values (totalizer bound) r)) (bound + 1)))

-- how many leaves there are
abbrev pub leaf_count : Tree → ℕ
leaf_count t = leaf_sum (λ u. 1) t

pub values_count : (bound : ℕ) (t : Tree) → length (values (totalizer bound) t) ≡ min (leaf_count t) (bound + 1)
values_count bound empty = omega arith
values_count bound (leaf t) = omega arith
values_count bound (node l r) =
    omega (
      arith,
      length-range_with_len 1 (min (length (values (totalizer bound) l) + length (values (totalizer bound) r)) (bound + 1)),
      values_count bound l,
      values_count bound r,
    )

pub value_bounds : (bound : ℕ) (t : Tree) (u : ℕ) → Contains (values (totalizer bound) t) u → (1 ≤ u) × (u ≤ length (values (totalizer bound) t))
value_bounds bound t u h =
    let found = Contains-range_cases 1 (length (values (totalizer bound) t)) u (subst (λ (us : List ℕ). Contains us u) (values_are bound t) h) in
    (found.0, omega arith)

pub value_from : (bound : ℕ) (t : Tree) (u : ℕ) → 1 ≤ u → u ≤ length (values (totalizer bound) t) → Contains (values (totalizer bound) t) u
value_from bound t u low high =
    subst (λ (us : List ℕ). Contains us u) (sym (values_are bound t)) (Contains-range 1 (length (values (totalizer bound) t)) u low (omega arith))

pub node_length : (bound : ℕ) (l r : Tree) → length (values (totalizer bound) (node l r)) ≡ min (length (values (totalizer bound) l) + length (values (totalizer bound) r)) (bound + 1)
node_length bound l r = length-range_with_len 1 (min (length (values (totalizer bound) l) + length (values (totalizer bound) r)) (bound + 1))

-- ---- the clauses

left_only : (f g h : ℕ → Lit) (u : ℕ) → 1 ≤ u → sum_clause f g h u 0 ≡ negated (f u) ∷ h u ∷ []
left_only f g h zero low = absurd (omega arith)
left_only f g h (suc u) low = ap (λ (n : ℕ). negated (f (suc u)) ∷ h n ∷ []) (let e : suc u + 0 ≡ suc u = omega arith in e)

right_only : (f g h : ℕ → Lit) (v : ℕ) → 1 ≤ v → sum_clause f g h 0 v ≡ negated (g v) ∷ h v ∷ []
right_only f g h zero low = absurd (omega arith)
right_only f g h (suc v) low = ap (λ (n : ℕ). negated (g (suc v)) ∷ h n ∷ []) (let e : 0 + suc v ≡ suc v = omega arith in e)

both_sides : (f g h : ℕ → Lit) (u v : ℕ) → 1 ≤ u → 1 ≤ v → sum_clause f g h u v ≡ negated (f u) ∷ negated (g v) ∷ h (u + v) ∷ []
both_sides f g h zero v low also = absurd (omega arith)
both_sides f g h (suc u) zero low also = absurd (omega arith)
both_sides f g h (suc u) (suc v) low also = refl

pub within_from : (cap i j : ℕ) → 1 ≤ i + j → i + j ≤ cap → is_within cap i j ≡ true
within_from cap i j low high = and_from (nat_le 1 (i + j)) (nat_le (i + j) cap) (le-leb 1 (i + j) low) (le-leb (i + j) cap high)

pub within_bounds : (cap i j : ℕ) → is_within cap i j ≡ true → (1 ≤ i + j) × (i + j ≤ cap)
within_bounds cap i j h =
    let parts = and_parts (nat_le 1 (i + j)) (nat_le (i + j) cap) h in
    (leb-true 1 (i + j) parts.0, leb-true (i + j) cap parts.1)

clause_listed : (cap a b : ℕ) (f g h : ℕ → Lit) (i j : ℕ) → i ≤ a → j ≤ b → 1 ≤ i + j → i + j ≤ cap → Contains (sum_clauses cap a b f g h) (sum_clause f g h i j)
clause_listed cap a b f g h i j left right low high = row_listed (sum_clause f g h) (is_within cap) a b i j left right (within_from cap i j low high)

sum_clause_cases : (bound : ℕ) (l r : Tree) (f g h : ℕ → Lit) (c : List Lit)
    → Contains (sum_clauses (bound + 1) (length (values (totalizer bound) l)) (length (values (totalizer bound) r)) f g h) c
    → OfLeft (totalizer bound) l f h c ⊎ OfLeft (totalizer bound) r g h c ⊎ OfBoth (totalizer bound) l r f g h c
sum_clause_cases bound l r f g h c listed =
    let s = totalizer bound in
    let found = row_cases (sum_clause f g h) (is_within (bound + 1)) (length (values s l)) (length (values s r)) c listed in
    let i = found.0 in
    let j = found.1 in
    let left = found.2 in
    let right = found.3 in
    let bounds = within_bounds (bound + 1) i j found.4 in
    let low = bounds.0 in
    let high = bounds.1 in
    let Goal : Type 0 = OfLeft s l f h c ⊎ OfLeft s r g h c ⊎ OfBoth s l r f g h c in
    elim (cases_eq i 0) as (λ _. Goal) [
      | inl none ↦ inr (inl (j, value_from bound r j (omega arith) right, sym found.5 ∙ ap (λ (n : ℕ). sum_clause f g h n j) none ∙ right_only f g h j (omega arith)))
      | inr some ↦ elim (cases_eq j 0) as (λ _. Goal) [
        | inl none ↦ inl (i, value_from bound l i (omega arith) left, sym found.5 ∙ ap (λ (n : ℕ). sum_clause f g h i n) none ∙ left_only f g h i (omega arith))
        | inr more ↦
            let full : i + j ≡ min (i + j) (bound + 1) = omega arith in
            let count = node_length bound l r in
            inr (inr (
              i,
              j,
              value_from bound l i (omega arith) left,
              value_from bound r j (omega arith) right,
              value_from bound (node l r) (min (i + j) (bound + 1)) (omega arith) (omega arith),
              sym found.5 ∙ both_sides f g h i j (omega arith) (omega arith) ∙ ap (λ (n : ℕ). negated (f i) ∷ negated (g j) ∷ h n ∷ []) full,
            ))
      ]
    ]

-- ---- a smaller number of leaves

pub fewer : (bound : ℕ) (p : Lit → Bool) (t : Tree) (x m : ℕ) → Reach (totalizer bound) p t x → m ≤ x → Reach (totalizer bound) p t m
fewer bound p empty x m reach le = omega arith
fewer bound p (leaf t) x m reach le =
    elim (cases_eq m 0) as (λ _. (m ≡ 0) ⊎ ((m ≡ 1) × (p t.lit ≡ true))) [
      | inl none ↦ inl none
      | inr some ↦ elim reach as (λ _. (m ≡ 0) ⊎ ((m ≡ 1) × (p t.lit ≡ true))) [
        | inl none ↦ absurd (omega arith)
        | inr one ↦ inr (omega (arith, one.0), one.1)
      ]
    ]
fewer bound p (node l r) x m reach le =
    let a = reach.0 in
    let b = reach.1 in
    let sum = reach.2 in
    let i = min a m in
    (i, m - i, omega arith, fewer bound p l a i reach.3 (omega arith), fewer bound p r b (m - i) reach.4 (omega arith))

fewer_with : (bound : ℕ) (p : Lit → Bool) (t : Tree) (u : Weighted) (x m : ℕ) → ReachWith (totalizer bound) p t u x → 1 ≤ m → m ≤ x → ReachWith (totalizer bound) p t u m
fewer_with bound p empty u x m reach low le = absurd reach
fewer_with bound p (leaf v) u x m reach low le = (reach.0, omega (arith, reach.1))
fewer_with bound p (node l r) u x m reach low le =
    let a = reach.0 in
    let b = reach.1 in
    let sum = reach.2 in
    elim reach.3 as (λ _. ReachWith (totalizer bound) p (node l r) u m) [
      | inl left ↦
          let some = with_positive (totalizer bound) p l u a (omega arith) left.0 in
          let j = min b (m - 1) in
          (m - j, j, omega arith, inl (fewer_with bound p l u a (m - j) left.0 (omega arith) (omega arith), fewer bound p r b j left.1 (omega arith)))
      | inr right ↦
          let some = with_positive (totalizer bound) p r u b (omega arith) right.1 in
          let i = min a (m - 1) in
          (i, m - i, omega arith, inr (fewer bound p l a i right.0 (omega arith), fewer_with bound p r u b (m - i) right.1 (omega arith) (omega arith)))
    ]

abbrev pub IsCapped : ℕ → ℕ → Type 0
IsCapped bound n = n ≤ bound + 1

pub totalizer_lawful : (bound : ℕ) → IsLawful (totalizer bound) (IsCapped bound)
totalizer_lawful bound =
    let s = totalizer bound in
    record {
      within_parts = λ a b h. (omega arith, omega arith);
      within_capped = λ a b h. omega arith;
      within_cap = λ p t x le reach. (bound + 1, omega arith, omega arith, fewer bound p t x (bound + 1) reach le);
      within_cap_with = λ p t u x le reach. (bound + 1, omega arith, omega arith, fewer_with bound p t u x (bound + 1) reach (omega arith) le);
      left_value = λ l r u h. let b = value_bounds bound l u h in let n = node_length bound l r in let c = values_length bound l in value_from bound (node l r) u b.0 (omega arith);
      right_value = λ l r v h. let b = value_bounds bound r v h in let n = node_length bound l r in let c = values_length bound r in value_from bound (node l r) v b.0 (omega arith);
      both_value = λ l r u v h k within.
          let b = value_bounds bound l u h in
          let c = value_bounds bound r v k in
          let n = node_length bound l r in
          value_from bound (node l r) (min (u + v) (bound + 1)) (omega arith) (omega arith);
      place_within = λ l r u h. let b = value_bounds bound (node l r) u h in omega arith;
      at_place = λ l r u h.
          let b = value_bounds bound (node l r) u h in
          let n = node_length bound l r in
          get_or-range_with_len 1 (min (length (values s l) + length (values s r)) (bound + 1)) (u - 1) 0 (omega arith) ∙ (let e : 1 + (u - 1) ≡ u = omega arith in e);
      left_clause = λ l r f g h u here.
          let b = value_bounds bound l u here in
          let c = values_length bound l in
          subst (λ (c : List Lit). Contains (sum_clauses (bound + 1) (length (values s l)) (length (values s r)) f g h) c) (left_only f g h u b.0)
          (clause_listed (bound + 1) (length (values s l)) (length (values s r)) f g h u 0 b.1 (omega arith) (omega arith) (omega arith));
      right_clause = λ l r f g h v here.
          let b = value_bounds bound r v here in
          let c = values_length bound r in
          subst (λ (c : List Lit). Contains (sum_clauses (bound + 1) (length (values s l)) (length (values s r)) f g h) c) (right_only f g h v b.0)
          (clause_listed (bound + 1) (length (values s l)) (length (values s r)) f g h 0 v (omega arith) b.1 (omega arith) (omega arith));
      both_clause = λ l r f g h u v here also within.
          let b = value_bounds bound l u here in
          let c = value_bounds bound r v also in
          let full : u + v ≡ min (u + v) (bound + 1) = omega arith in
          subst (λ (c : List Lit). Contains (sum_clauses (bound + 1) (length (values s l)) (length (values s r)) f g h) c)
          (both_sides f g h u v b.0 c.0 ∙ ap (λ (n : ℕ). negated (f u) ∷ negated (g v) ∷ h n ∷ []) full)
          (clause_listed (bound + 1) (length (values s l)) (length (values s r)) f g h u v b.1 c.1 (omega arith) within);
      each_clause = sum_clause_cases bound;
      counted = λ l r f g h. rows_counted (sum_clause f g h) (is_within (bound + 1)) (length (values s l)) (length (values s r));
    }

-- ---- what a sum has to be

pub totalizer_suits : (m : BoundedSum) → all_weigh 1 m.terms ≡ true → IsProper m → Suits (totalizer m.bound) m
totalizer_suits m units proper = record {
  cut = refl;
  weights = λ t h. sym (unit_coefficient m.terms units t h);
  distinct = proper.distinct;
  positive = λ t h. omega (arith, unit_coefficient m.terms units t h);
  passes = proper.heavy;
}

-- ---- the laws

pub totalizer_sound : (m : BoundedSum) → all_weigh 1 m.terms ≡ true → IsProper m → (first : ℕ) (a : Assignment) → IsModel a (totalizer_clauses m first) → StaysWithin a m
totalizer_sound m units proper first a model =
    tree_sound (totalizer m.bound) (IsCapped m.bound) (totalizer_lawful m.bound) m (totalizer_suits m units proper) first a model

pub totalizer_extends : (m : BoundedSum) → all_weigh 1 m.terms ≡ true → IsProper m → (first : ℕ) → VarsBelow first m.terms → (a : Assignment) → StaysWithin a m
    → (b : Assignment) × AgreeBelow first a b × IsModel b (totalizer_clauses m first)
totalizer_extends m units proper first below a holds =
    tree_extends (totalizer m.bound) (IsCapped m.bound) (totalizer_lawful m.bound) m (totalizer_suits m units proper) first below a holds

pub totalizer_counts : (m : BoundedSum) (first : ℕ) → length (totalizer_clauses m first) ≡ totalizer_size m
totalizer_counts m first = tree_counts (totalizer m.bound) (IsCapped m.bound) (totalizer_lawful m.bound) (tree_of m.terms) first

pub totalizer_names : (m : BoundedSum) → all_weigh 1 m.terms ≡ true → IsProper m → (first : ℕ) → NamesOnly m.terms first (totalizer_fresh m) (totalizer_clauses m first)
totalizer_names m units proper first = tree_names (totalizer m.bound) (IsCapped m.bound) (totalizer_lawful m.bound) m (totalizer_suits m units proper) first

pub totalizer_propagates : (m : BoundedSum) → all_weigh 1 m.terms ≡ true → IsProper m → (first : ℕ) → ClausesPropagate (totalizer_clauses m first) (λ a. StaysWithin a m)
totalizer_propagates m units proper first = tree_propagates (totalizer m.bound) (IsCapped m.bound) (totalizer_lawful m.bound) m (totalizer_suits m units proper) first
