-- Unit propagation along a tree: true leaves give outputs, and the negation of an output gives negated leaves.
use Rattle.std.proofs.Common.{◌≡◌, ◌<◌, ◌+◌, ◌⊎◌, ◌++◌, ℕ, Bool, true, false, cond, List, [], ◌∷◌, min, refl, sym, ap, subst, arith, inl, inr}
use Rattle.std.specs.Prelude.{Contains}
use Rattle.std.proofs.lemmas.Bool.{cases_eq, cases_Bool}
use Rattle.std.proofs.lemmas.List.Elements.{Contains-append_left, Contains-append_right}
use Rattle.pb_base.specs.declared.literal.Lit.{Lit}
use Rattle.pb_base.specs.Literals.{negated}
use Rattle.pb_norm.specs.Constraints.{Weighted}
use Rattle.pb_norm.proofs.Derived.{Derived}
use Rattle.pb_base.proofs.Members.{Contains-here}
use Rattle.pb_tree.specs.Tree.{Tree, empty, leaf, node, IsLeafOf, leaf_sum}
use Rattle.pb_tree.specs.Scheme.{Scheme, values, fresh_of, output, along, own_of, clauses_of}
use Rattle.pb_tree.proofs.Sums.{Reach, ReachWith, IsLawful}
use Rattle.pb_tree.proofs.Threes.{implied, denied, implied_both, denied_left, denied_right}

-- a sum that is reached has an output
pub reach_value : (s : Scheme) (W : ℕ → Type 0) → IsLawful s W → (p : Lit → Bool) (t : Tree) (x : ℕ) → Reach s p t x → 0 < x → W x → Contains (values s t) (min x s.cap)
reach_value s W laws p empty x reach positive within = absurd (omega arith)
reach_value s W laws p (leaf t) x reach positive within =
    elim reach as (λ _. Contains (min (s.weight t) s.cap ∷ []) (min x s.cap)) [
      | inl none ↦ absurd (omega arith)
      | inr one ↦ subst (λ (n : ℕ). Contains (min (s.weight t) s.cap ∷ []) (min n s.cap)) (sym one.0) (Contains-here (min (s.weight t) s.cap) [])
    ]
reach_value s W laws p (node l r) x reach positive within =
    let a = reach.0 in
    let b = reach.1 in
    let both : W (a + b) = subst W reach.2 within in
    let parts = laws.within_parts a b both in
    elim (cases_eq a 0) as (λ _. Contains (values s (node l r)) (min x s.cap)) [
      | inl none ↦ subst (λ (n : ℕ). Contains (values s (node l r)) (min n s.cap)) (let e : b ≡ x = omega arith in e) (laws.right_value l r (min b s.cap) (reach_value s W laws p r b reach.4 (omega arith) parts.1))
      | inr left ↦ elim (cases_eq b 0) as (λ _. Contains (values s (node l r)) (min x s.cap)) [
        | inl none ↦ subst (λ (n : ℕ). Contains (values s (node l r)) (min n s.cap)) (let e : a ≡ x = omega arith in e) (laws.left_value l r (min a s.cap) (reach_value s W laws p l a reach.3 (omega arith) parts.0))
        | inr right ↦ subst (λ (n : ℕ). Contains (values s (node l r)) n) (let e : min (min a s.cap + min b s.cap) s.cap ≡ min x s.cap = omega arith in e)
            (laws.both_value l r (min a s.cap) (min b s.cap) (reach_value s W laws p l a reach.3 (omega arith) parts.0) (reach_value s W laws p r b reach.4 (omega arith) parts.1) (laws.within_capped a b both))
      ]
    ]

-- of what stands along a tree, a node's parts' and its own are listed
pub record Listed (s : Scheme) (own : Tree → Tree → ℕ → List (List Lit)) (cs : List (List Lit)) (l r : Tree) (first : ℕ) : Type 0 where
  pub left : (c : List Lit) → Contains (along s own l first) c → Contains cs c
  pub right : (c : List Lit) → Contains (along s own r (first + fresh_of s l)) c → Contains cs c
  pub here : (c : List Lit) → Contains (own l r first) c → Contains cs c

pub listed_parts : (s : Scheme) (own : Tree → Tree → ℕ → List (List Lit)) (cs : List (List Lit)) (l r : Tree) (first : ℕ) → ((c : List Lit) → Contains (along s own (node l r) first) c → Contains cs c) → Listed s own cs l r first
listed_parts s own cs l r first listed =
    let lefts = along s own l first in
    let rights = along s own r (first + fresh_of s l) in
    let owns = own l r first in
    record {
      left = λ c h. listed c (Contains-append_left lefts (rights ++ owns) c h);
      right = λ c h. listed c (Contains-append_right lefts (rights ++ owns) c (Contains-append_left rights owns c h));
      here = λ c h. listed c (Contains-append_right lefts (rights ++ owns) c (Contains-append_right rights owns c h));
    }

-- forwards
pub reach_output : (s : Scheme) (W : ℕ → Type 0) → IsLawful s W → (p : Lit → Bool) (cs : List (List Lit)) (given : List Lit) → ((l : Lit) → p l ≡ true → Derived cs given l)
    → (t : Tree) (first x : ℕ) → ((c : List Lit) → Contains (clauses_of s t first) c → Contains cs c) → Reach s p t x → 0 < x → W x → Derived cs given (output s t first (min x s.cap))
reach_output s W laws p cs given passes empty first x listed reach positive within = absurd (omega arith)
reach_output s W laws p cs given passes (leaf t) first x listed reach positive within =
    elim reach as (λ _. Derived cs given t.lit) [
      | inl none ↦ absurd (omega arith)
      | inr one ↦ passes t.lit one.1
    ]
reach_output s W laws p cs given passes (node l r) first x listed reach positive within =
    let a = reach.0 in
    let b = reach.1 in
    let f = output s l first in
    let g = output s r (first + fresh_of s l) in
    let h = output s (node l r) first in
    let both : W (a + b) = subst W reach.2 within in
    let parts = laws.within_parts a b both in
    let lists = listed_parts s (own_of s) cs l r first listed in
    elim (cases_eq a 0) as (λ _. Derived cs given (h (min x s.cap))) [
      | inl none ↦ subst (λ (n : ℕ). Derived cs given (h (min n s.cap))) (let e : b ≡ x = omega arith in e)
          (implied cs given (g (min b s.cap)) (h (min b s.cap)) (lists.here _ (laws.right_clause l r f g h (min b s.cap) (reach_value s W laws p r b reach.4 (omega arith) parts.1)))
          (reach_output s W laws p cs given passes r (first + fresh_of s l) b lists.right reach.4 (omega arith) parts.1))
      | inr left ↦ elim (cases_eq b 0) as (λ _. Derived cs given (h (min x s.cap))) [
        | inl none ↦ subst (λ (n : ℕ). Derived cs given (h (min n s.cap))) (let e : a ≡ x = omega arith in e)
            (implied cs given (f (min a s.cap)) (h (min a s.cap)) (lists.here _ (laws.left_clause l r f g h (min a s.cap) (reach_value s W laws p l a reach.3 (omega arith) parts.0)))
            (reach_output s W laws p cs given passes l first a lists.left reach.3 (omega arith) parts.0))
        | inr right ↦ subst (λ (n : ℕ). Derived cs given (h n)) (let e : min (min a s.cap + min b s.cap) s.cap ≡ min x s.cap = omega arith in e)
            (implied_both cs given (f (min a s.cap)) (g (min b s.cap)) (h (min (min a s.cap + min b s.cap) s.cap))
            (lists.here _ (laws.both_clause l r f g h (min a s.cap) (min b s.cap) (reach_value s W laws p l a reach.3 (omega arith) parts.0) (reach_value s W laws p r b reach.4 (omega arith) parts.1) (laws.within_capped a b both)))
            (reach_output s W laws p cs given passes l first a lists.left reach.3 (omega arith) parts.0)
            (reach_output s W laws p cs given passes r (first + fresh_of s l) b lists.right reach.4 (omega arith) parts.1))
      ]
    ]

-- ---- one leaf besides

pub with_positive : (s : Scheme) (p : Lit → Bool) (t : Tree) (u : Weighted) (x : ℕ) → 0 < s.weight u → ReachWith s p t u x → 0 < x
with_positive s p empty u x positive reach = absurd reach
with_positive s p (leaf v) u x positive reach = let e : s.weight v ≡ s.weight u = ap s.weight reach.0 in omega (arith, reach.1)
with_positive s p (node l r) u x positive reach =
    elim reach.3 as (λ _. 0 < x) [
      | inl left ↦ omega (arith, reach.2, with_positive s p l u reach.0 positive left.0)
      | inr right ↦ omega (arith, reach.2, with_positive s p r u reach.1 positive right.1)
    ]

pub any : Lit → Bool
any l = true

-- what some leaves reach, all do
pub reach_any : (s : Scheme) (p : Lit → Bool) (t : Tree) (x : ℕ) → Reach s p t x → Reach s any t x
unfolding any
reach_any s p empty x reach = reach
reach_any s p (leaf t) x reach = elim reach as (λ _. (x ≡ 0) ⊎ ((x ≡ s.weight t) × (any t.lit ≡ true))) [ inl none ↦ inl none | inr one ↦ inr (one.0, refl) ]
reach_any s p (node l r) x reach = (reach.0, reach.1, reach.2, reach_any s p l reach.0 reach.3, reach_any s p r reach.1 reach.4)

pub with_any : (s : Scheme) (p : Lit → Bool) (t : Tree) (u : Weighted) (x : ℕ) → ReachWith s p t u x → Reach s any t x
unfolding any
with_any s p empty u x reach = absurd reach
with_any s p (leaf v) u x reach = inr (reach.1, refl)
with_any s p (node l r) u x reach =
    elim reach.3 as (λ _. Reach s any (node l r) x) [
      | inl left ↦ (reach.0, reach.1, reach.2, with_any s p l u reach.0 left.0, reach_any s p r reach.1 left.1)
      | inr right ↦ (reach.0, reach.1, reach.2, reach_any s p l reach.0 right.0, with_any s p r u reach.1 right.1)
    ]

-- backwards
pub push_leaf : (s : Scheme) (W : ℕ → Type 0) → IsLawful s W → (p : Lit → Bool) (cs : List (List Lit)) (given : List Lit) → ((l : Lit) → p l ≡ true → Derived cs given l)
    → (t : Tree) (u : Weighted) (first x : ℕ) → 0 < s.weight u → ((c : List Lit) → Contains (clauses_of s t first) c → Contains cs c) → ReachWith s p t u x → W x
    → Derived cs given (negated (output s t first (min x s.cap))) → Derived cs given (negated u.lit)
push_leaf s W laws p cs given passes empty u first x positive listed reach within top = absurd reach
push_leaf s W laws p cs given passes (leaf v) u first x positive listed reach within top = subst (λ (w : Weighted). Derived cs given (negated w.lit)) reach.0 top
push_leaf s W laws p cs given passes (node l r) u first x positive listed reach within top =
    let a = reach.0 in
    let b = reach.1 in
    let f = output s l first in
    let g = output s r (first + fresh_of s l) in
    let h = output s (node l r) first in
    let both : W (a + b) = subst W reach.2 within in
    let parts = laws.within_parts a b both in
    let lists = listed_parts s (own_of s) cs l r first listed in
    let joint : min x s.cap ≡ min (min a s.cap + min b s.cap) s.cap = omega arith in
    elim reach.3 as (λ _. Derived cs given (negated u.lit)) [
      | inl left ↦
          let some = with_positive s p l u a positive left.0 in
          let value = reach_value s W laws any l a (with_any s p l u a left.0) some parts.0 in
          push_leaf s W laws p cs given passes l u first a positive lists.left left.0 parts.0
          (elim (cases_eq b 0) as (λ _. Derived cs given (negated (f (min a s.cap)))) [
            | inl none ↦ denied cs given (f (min a s.cap)) (h (min a s.cap)) (lists.here _ (laws.left_clause l r f g h (min a s.cap) value))
                (subst (λ (n : ℕ). Derived cs given (negated (h (min n s.cap)))) (let e : x ≡ a = omega arith in e) top)
            | inr more ↦ denied_left cs given (f (min a s.cap)) (g (min b s.cap)) (h (min (min a s.cap + min b s.cap) s.cap))
                (lists.here _ (laws.both_clause l r f g h (min a s.cap) (min b s.cap) value (reach_value s W laws p r b left.1 (omega arith) parts.1) (laws.within_capped a b both)))
                (reach_output s W laws p cs given passes r (first + fresh_of s l) b lists.right left.1 (omega arith) parts.1)
                (subst (λ (n : ℕ). Derived cs given (negated (h n))) joint top)
          ])
      | inr right ↦
          let some = with_positive s p r u b positive right.1 in
          let value = reach_value s W laws any r b (with_any s p r u b right.1) some parts.1 in
          push_leaf s W laws p cs given passes r u (first + fresh_of s l) b positive lists.right right.1 parts.1
          (elim (cases_eq a 0) as (λ _. Derived cs given (negated (g (min b s.cap)))) [
            | inl none ↦ denied cs given (g (min b s.cap)) (h (min b s.cap)) (lists.here _ (laws.right_clause l r f g h (min b s.cap) value))
                (subst (λ (n : ℕ). Derived cs given (negated (h (min n s.cap)))) (let e : x ≡ b = omega arith in e) top)
            | inr more ↦ denied_right cs given (f (min a s.cap)) (g (min b s.cap)) (h (min (min a s.cap + min b s.cap) s.cap))
                (lists.here _ (laws.both_clause l r f g h (min a s.cap) (min b s.cap) (reach_value s W laws p l a right.0 (omega arith) parts.0) value (laws.within_capped a b both)))
                (reach_output s W laws p cs given passes l first a lists.left right.0 (omega arith) parts.0)
                (subst (λ (n : ℕ). Derived cs given (negated (h n))) joint top)
          ])
    ]

-- ---- what the passing leaves reach

abbrev pub passing : Scheme → (Lit → Bool) → Weighted → ℕ
passing s p t = cond (p t.lit) (s.weight t) 0

pub reach_all : (s : Scheme) (p : Lit → Bool) (t : Tree) → Reach s p t (leaf_sum (passing s p) t)
reach_all s p empty = refl
reach_all s p (leaf t) =
    elim (cases_Bool (p t.lit)) as (λ _. (passing s p t ≡ 0) ⊎ ((passing s p t ≡ s.weight t) × (p t.lit ≡ true))) [
      | inl holds ↦ inr ((rw holds), holds)
      | inr fails ↦ inl (rw fails)
    ]
reach_all s p (node l r) = (leaf_sum (passing s p) l, leaf_sum (passing s p) r, refl, reach_all s p l, reach_all s p r)

pub reach_all_with : (s : Scheme) (p : Lit → Bool) (t : Tree) (u : Weighted) → IsLeafOf t u → p u.lit ≡ false → ReachWith s p t u (leaf_sum (passing s p) t + s.weight u)
reach_all_with s p empty u among fails = absurd among
reach_all_with s p (leaf v) u among fails =
    let none : passing s p v ≡ 0 = rw (subst (λ (w : Weighted). p w.lit ≡ false) (sym among) fails) in
    let same : s.weight v ≡ s.weight u = ap s.weight among in
    (among, omega arith)
reach_all_with s p (node l r) u among fails =
    let a = leaf_sum (passing s p) l in
    let b = leaf_sum (passing s p) r in
    elim among as (λ _. ReachWith s p (node l r) u (a + b + s.weight u)) [
      | inl left ↦ (a + s.weight u, b, omega arith, inl (reach_all_with s p l u left fails, reach_all s p r))
      | inr right ↦ (a, b + s.weight u, omega arith, inr (reach_all s p l, reach_all_with s p r u right fails))
    ]

-- all leaves together
pub reach_whole : (s : Scheme) (t : Tree) → Reach s any t (leaf_sum s.weight t)
unfolding any
reach_whole s empty = refl
reach_whole s (leaf t) = inr (refl, refl)
reach_whole s (node l r) = (leaf_sum s.weight l, leaf_sum s.weight r, refl, reach_whole s l, reach_whole s r)
