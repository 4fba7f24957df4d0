-- Unit propagation from outputs to leaves: where few leaves are not false, outputs are false, and an output that is true makes them true.
use Rattle.std.proofs.Common.{◌≡◌, ◌<◌, ◌≤◌, ◌+◌, ◌-◌, ◌++◌, ℕ, Bool, true, false, cond, List, min, refl, sym, subst, arith, inl, inr}
use Rattle.std.specs.Prelude.{Contains}
use Rattle.std.proofs.lemmas.Bool.{cases_Bool, true≢false}
use Rattle.std.proofs.lemmas.List.Elements.{Contains-append_left, Contains-append_right, Contains-append_cases}
use Rattle.pb_base.specs.declared.literal.Lit.{Lit}
use Rattle.pb_base.specs.Literals.{negated}
use Rattle.pb_norm.specs.Constraints.{Weighted}
use Rattle.pb_norm.proofs.Derived.{Derived}
use Rattle.pb_tree.specs.Tree.{Tree, empty, leaf, node, IsLeafOf, leaf_sum}
use Rattle.pb_tree.specs.Scheme.{fresh_of, output, own_of, clauses_of, IsPartAt}
use Rattle.pb_tree.proofs.Pushing.{Listed, listed_parts}
use Rattle.pb_totalizer.specs.Totalizer.{totalizer}
use Rattle.pb_totalizer.specs.laws.TotalizerLaws.{values_count, leaf_count, node_length}
use Rattle.pb_totalizer.specs.Exact.{limit_clause, limits_of, outputs_of, exact_own, exact_along}
use Rattle.pb_totalizer.specs.laws.Limits.{limit_listed, limit_denies, limit_raises_left, limit_raises_right}

-- ---- what a list of clauses along a tree has

-- all that a totalizer has
pub totalizer_listed : (bound : ℕ) (cs : List (List Lit)) (t : Tree) (first : ℕ) → ((c : List Lit) → Contains (exact_along bound t first) c → Contains cs c)
    → (c : List Lit) → Contains (clauses_of (totalizer bound) t first) c → Contains cs c
totalizer_listed bound cs empty first listed c h = listed c h
totalizer_listed bound cs (leaf t) first listed c h = listed c h
totalizer_listed bound cs (node l r) first listed c h =
    let s = totalizer bound in
    let middle = first + fresh_of s l in
    let lists = listed_parts (totalizer bound) (exact_own bound) cs l r first listed in
    let sums = own_of s l r first in
    elim (Contains-append_cases (clauses_of s l first) (clauses_of s r middle ++ sums) c h) as (λ _. Contains cs c) [
      | inl left ↦ totalizer_listed bound cs l first lists.left c left
      | inr rest ↦ elim (Contains-append_cases (clauses_of s r middle) sums c rest) as (λ _. Contains cs c) [
        | inl right ↦ totalizer_listed bound cs r middle lists.right c right
        | inr own ↦ lists.here c (Contains-append_left sums (limits_of bound l r first) c own)
      ]
    ]

-- and all of a part
pub part_listed : (bound : ℕ) (cs : List (List Lit)) (t : Tree) (first : ℕ) (part : Tree) (at : ℕ) → ((c : List Lit) → Contains (exact_along bound t first) c → Contains cs c)
    → IsPartAt (totalizer bound) t first part at → (c : List Lit) → Contains (exact_along bound part at) c → Contains cs c
part_listed bound cs empty first part at listed is c h = listed c (subst (λ (n : ℕ). Contains (exact_along bound empty n) c) (sym is.1) (subst (λ (t : Tree). Contains (exact_along bound t at) c) (sym is.0) h))
part_listed bound cs (leaf t) first part at listed is c h = listed c (subst (λ (n : ℕ). Contains (exact_along bound (leaf t) n) c) (sym is.1) (subst (λ (t : Tree). Contains (exact_along bound t at) c) (sym is.0) h))
part_listed bound cs (node l r) first part at listed is c h =
    let lists = listed_parts (totalizer bound) (exact_own bound) cs l r first listed in
    elim is as (λ _. Contains cs c) [
      | inl whole ↦ listed c (subst (λ (n : ℕ). Contains (exact_along bound (node l r) n) c) (sym whole.1) (subst (λ (t : Tree). Contains (exact_along bound t at) c) (sym whole.0) h))
      | inr inside ↦ elim inside as (λ _. Contains cs c) [
        | inl left ↦ part_listed bound cs l first part at lists.left left c h
        | inr right ↦ part_listed bound cs r (first + fresh_of (totalizer bound) l) part at lists.right right c h
      ]
    ]

-- ---- how many outputs there are

-- the leaves that are not false, where p says which are
abbrev pub open_under : (Lit → Bool) → Tree → ℕ
open_under p t = leaf_sum (λ u. cond (p u.lit) 0 1) t

one_open : (b : Bool) → cond b 0 1 ≤ 1
one_open true = omega arith
one_open false = omega arith

pub open_within : (p : Lit → Bool) (t : Tree) → open_under p t ≤ leaf_count t
open_within p empty = omega arith
open_within p (leaf t) = one_open (p t.lit)
open_within p (node l r) = omega (arith, open_within p l, open_within p r)

fails_open : (b : Bool) → b ≡ false → (let n : ℕ = cond b 0 1 in n ≡ 1)
fails_open true fails = absurd (true≢false fails)
fails_open false fails = refl

some_open : (p : Lit → Bool) (t : Tree) (u : Weighted) → IsLeafOf t u → p u.lit ≡ false → 1 ≤ open_under p t
some_open p empty u h fails = absurd h
some_open p (leaf t) u h fails =
    omega (arith, fails_open (p t.lit) (subst (λ (w : Weighted). p w.lit ≡ false) (sym h) fails))
some_open p (node l r) u h fails =
    elim h as (λ _. 1 ≤ open_under p (node l r)) [
      | inl left ↦ omega (arith, some_open p l u left fails)
      | inr right ↦ omega (arith, some_open p r u right fails)
    ]

-- ---- at a node

-- how many outputs it and its parts have, and how many open leaves these
record NodeCounts (bound : ℕ) (p : Lit → Bool) (l r : Tree) : Type 0 where
  outputs : outputs_of bound (node l r) ≡ min (outputs_of bound l + outputs_of bound r) (bound + 1)
  lefts : outputs_of bound l ≡ min (leaf_count l) (bound + 1)
  rights : outputs_of bound r ≡ min (leaf_count r) (bound + 1)
  left_open : open_under p l ≤ leaf_count l
  right_open : open_under p r ≤ leaf_count r

node_counts : (bound : ℕ) (p : Lit → Bool) (l r : Tree) → NodeCounts bound p l r
node_counts bound p l r = record { outputs = node_length bound l r; lefts = values_count bound l; rights = values_count bound r; left_open = open_within p l; right_open = open_within p r }

-- where the outputs of a part are false that few open leaves do not reach, so are those of the node, and where one of those is
-- true, some of the parts are
module _ (bound : ℕ) (p : Lit → Bool) (cs : List (List Lit)) (given : List Lit) (l r : Tree) (first : ℕ) (lists : Listed (totalizer bound) (exact_own bound) cs l r first) where
  abbrev a : ℕ
  a = outputs_of bound l

  abbrev b : ℕ
  b = outputs_of bound r

  abbrev m : ℕ
  m = open_under p l

  abbrev n : ℕ
  n = open_under p r

  abbrev f : ℕ → Lit
  f = output (totalizer bound) l first

  abbrev g : ℕ → Lit
  g = output (totalizer bound) r (first + fresh_of (totalizer bound) l)

  abbrev h : ℕ → Lit
  h = output (totalizer bound) (node l r) first

  limit : (i k : ℕ) → i ≤ a → k ≤ b → i + k < outputs_of bound (node l r) → Contains cs (limit_clause a b f g h i k)
  limit i k left right below = lists.here _ (Contains-append_right (own_of (totalizer bound) l r first) (limits_of bound l r first) _ (limit_listed (outputs_of bound (node l r)) a b f g h i k left right below))

  module _ (deny_left : (j : ℕ) → m < j → j ≤ a → Derived cs given (negated (f j))) (deny_right : (j : ℕ) → n < j → j ≤ b → Derived cs given (negated (g j))) (j : ℕ) (within : j ≤ outputs_of bound (node l r)) where
    deny_node : m + n < j → Derived cs given (negated (h j))
    deny_node few =
        let counts = node_counts bound p l r in
        let i = min a (j - 1 - n) in
        let k = j - 1 - i in
        let whole : i + k + 1 ≡ j = omega arith in
        subst (λ (x : ℕ). Derived cs given (negated (h x))) whole
        (limit_denies cs given a b f g h i k (limit i k (omega arith) (omega arith) (omega arith)) (λ below. deny_left (i + 1) (omega arith) (omega arith)) (λ below. deny_right (k + 1) (omega arith) (omega arith)))

    raise_left : 1 ≤ m → m + n ≤ j → Derived cs given (h j) → (i : ℕ) × (m ≤ i) × (i ≤ a) × Derived cs given (f i)
    raise_left some few top =
        let counts = node_counts bound p l r in
        let i = min a (j - n) - 1 in
        let k = j - 1 - i in
        let whole : j ≡ i + k + 1 = omega arith in
        (i + 1, omega arith, omega arith, limit_raises_left cs given a b f g h i k (limit i k (omega arith) (omega arith) (omega arith)) (omega arith) (λ below. deny_right (k + 1) (omega arith) (omega arith)) (subst (λ (x : ℕ). Derived cs given (h x)) whole top))

    raise_right : 1 ≤ n → m + n ≤ j → Derived cs given (h j) → (k : ℕ) × (n ≤ k) × (k ≤ b) × Derived cs given (g k)
    raise_right some few top =
        let counts = node_counts bound p l r in
        let k = min b (j - m) - 1 in
        let i = j - 1 - k in
        let whole : j ≡ i + k + 1 = omega arith in
        (k + 1, omega arith, omega arith, limit_raises_right cs given a b f g h i k (limit i k (omega arith) (omega arith) (omega arith)) (omega arith) (λ below. deny_left (i + 1) (omega arith) (omega arith)) (subst (λ (x : ℕ). Derived cs given (h x)) whole top))

-- ---- along the tree

module _ (bound : ℕ) (p : Lit → Bool) (cs : List (List Lit)) (given : List Lit) (passes : (l : Lit) → p l ≡ true → Derived cs given (negated l)) where
  -- from few open leaves
  pub deny_output : (t : Tree) (first j : ℕ) → ((c : List Lit) → Contains (exact_along bound t first) c → Contains cs c)
      → open_under p t < j → j ≤ outputs_of bound t → Derived cs given (negated (output (totalizer bound) t first j))
  deny_output empty first j listed few within = absurd (omega arith)
  deny_output (leaf t) first j listed few within =
      elim (cases_Bool (p t.lit)) as (λ _. Derived cs given (negated t.lit)) [
        | inl holds ↦ passes t.lit holds
        | inr fails ↦ absurd (omega (arith, fails_open (p t.lit) fails))
      ]
  deny_output (node l r) first j listed few within =
      let lists = listed_parts (totalizer bound) (exact_own bound) cs l r first listed in
      deny_node bound p cs given l r first lists (λ i some le. deny_output l first i lists.left some le) (λ k some le. deny_output r (first + fresh_of (totalizer bound) l) k lists.right some le) j within few

  -- from a true output
  pub raise_leaf : (t : Tree) (u : Weighted) (first j : ℕ) → ((c : List Lit) → Contains (exact_along bound t first) c → Contains cs c)
      → IsLeafOf t u → p u.lit ≡ false → open_under p t ≤ j → j ≤ outputs_of bound t → Derived cs given (output (totalizer bound) t first j) → Derived cs given u.lit
  raise_leaf empty u first j listed among fails few within top = absurd among
  raise_leaf (leaf t) u first j listed among fails few within top = subst (λ (w : Weighted). Derived cs given w.lit) among top
  raise_leaf (node l r) u first j listed among fails few within top =
      let lists = listed_parts (totalizer bound) (exact_own bound) cs l r first listed in
      let middle = first + fresh_of (totalizer bound) l in
      let deny_left = λ (i : ℕ). deny_output l first i lists.left in
      let deny_right = λ (k : ℕ). deny_output r middle k lists.right in
      elim among as (λ _. Derived cs given u.lit) [
        | inl left ↦
            let up = raise_left bound p cs given l r first lists deny_left deny_right j within (some_open p l u left fails) few top in
            raise_leaf l u first up.0 lists.left left fails up.1 up.2 up.3
        | inr right ↦
            let up = raise_right bound p cs given l r first lists deny_left deny_right j within (some_open p r u right fails) few top in
            raise_leaf r u middle up.0 lists.right right fails up.1 up.2 up.3
      ]
