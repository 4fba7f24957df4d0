-- A part of a generalized totalizer, over its two halves.
use Rattle.std.proofs.Common.{◌≡◌, ◌≤◌, ◌<◌, ◌+◌, ◌*◌, ℕ, List, length, refl, ap, ◌∙◌, sym, subst, arith}
use Rattle.std.specs.Prelude.{All, Contains, Option, Some, None, IsSome}
use Rattle.std.specs.Global.{Vec}
use Rattle.std.proofs.lemmas.List.Elements.{All-contains}
use Rattle.pb_base.specs.declared.literal.Term.{Term}
use Rattle.pb_norm.specs.Constraints.{AllPositive, Weighted, weights}
use Rattle.pb_tree.specs.Tree.{Tree, node, tree_of, IsLeafOf}
use Rattle.pb_tree.specs.Scheme.{values, fresh_of, clause_count_of}
use Rattle.pb_tree.specs.Walks.{AreParts, Suits, fresh_over}
use Rattle.pb_tree.proofs.Extending.{all_from_each}
use Rattle.pb_tree.proofs.Splitting.{leaf_listed}
use Rattle.pb_gentot.specs.Generalized.{generalized, ascending, sums}
use Rattle.pb_gentot.specs.inner.Joined.{IsJoined}
use Rattle.pb_gentot.specs.laws.GeneralizedLaws.{values_within}

-- each leaf adds something
abbrev pub AreLeavesPositive : Tree → Type 0
AreLeavesPositive t = (u : Weighted) → IsLeafOf t u → 1 ≤ u.coef

pub leaves_add : (ts : List Term) → AllPositive (weights ts) → AreLeavesPositive (tree_of (weights ts))
leaves_add ts positive u h = All-contains (λ (t : Weighted). 0 < t.coef) (weights ts) u positive (leaf_listed (weights ts) u h)

pub all_within : (bound : ℕ) (t : Tree) (us : List ℕ) → us ≡ values (generalized bound) t → All (λ u. u ≤ bound + 1) us
all_within bound t us is = all_from_each (λ u. u ≤ bound + 1) us (λ u h. values_within bound t u (subst (λ (xs : List ℕ). Contains xs u) is h))

pub values_are_over : (bound : ℕ) (l r : Tree) (us vs : List ℕ) → us ≡ values (generalized bound) l → vs ≡ values (generalized bound) r
    → ascending (bound + 1) (sums (bound + 1) us vs) ≡ values (generalized bound) (node l r)
values_are_over bound l r us vs left right = λ i. ascending (bound + 1) (sums (bound + 1) (left i) (right i))

-- the numbers of the node
pub record Numbers (bound : ℕ) (ts : List Term) (l r : Tree) (made : List ℕ) : Type 0 where
  pub over : made ≡ values (generalized bound) (node l r)
  pub values_are : made ≡ values (generalized bound) (tree_of (weights ts))
  pub fresh : fresh_of (generalized bound) (tree_of (weights ts)) ≡ fresh_of (generalized bound) l + fresh_of (generalized bound) r + length made
  pub clauses : clause_count_of (generalized bound) (tree_of (weights ts)) ≡ clause_count_of (generalized bound) l + clause_count_of (generalized bound) r
      + (length (values (generalized bound) l) * length (values (generalized bound) r) + length (values (generalized bound) l) + length (values (generalized bound) r))

pub numbers_of : (bound : ℕ) (ts : List Term) (l r : Tree) (us vs made : List ℕ) → tree_of (weights ts) ≡ node l r → us ≡ values (generalized bound) l → vs ≡ values (generalized bound) r
    → made ≡ ascending (bound + 1) (sums (bound + 1) us vs) → Numbers bound ts l r made
numbers_of bound ts l r us vs made tree left right is =
    let same : made ≡ values (generalized bound) (node l r) = is ∙ values_are_over bound l r us vs left right in
    let long = ap length same in
    let fresh = ap (fresh_of (generalized bound)) tree in
    record {
      over = same;
      values_are = same ∙ ap (values (generalized bound)) (sym tree);
      fresh = omega (arith, fresh, long);
      clauses = ap (clause_count_of (generalized bound)) tree;
    }

-- of a node of a walk
pub record IsNode (bound most before next : ℕ) (ts : List Term) (made : List ℕ) : Type 0 where
  pub values_are : made ≡ values (generalized bound) (tree_of (weights ts))
  pub after : next + length made ≡ before + fresh_over (generalized bound) ts
  pub within : next + length made ≤ most

pub node_of : {bound most before next : ℕ} {ts front back : List Term} {us vs made : List ℕ} → AreParts (generalized bound) ts front back before next → Suits (generalized bound) most ts before
    → us ≡ values (generalized bound) (tree_of (weights front)) → vs ≡ values (generalized bound) (tree_of (weights back)) → made ≡ ascending (bound + 1) (sums (bound + 1) us vs) → IsNode bound most before next ts made
node_of {bound} {ts = ts} {front} {back} {us} {vs} {made} parts suits left right is =
    let number = numbers_of bound ts (tree_of (weights front)) (tree_of (weights back)) us vs made parts.halves.tree left right is in
    record { values_are = number.values_are; after = omega (arith, number.fresh, parts.behind); within = omega (arith, number.fresh, parts.behind, suits.fits) }

-- values that are no more than the limit are there
pub is_there : {limit : ℕ} (cap : ℕ) (us vs : List ℕ) (found : Option (Vec ℕ)) → IsJoined cap limit us vs found → length (ascending cap (sums cap us vs)) ≤ limit → IsSome found
is_there cap us vs None over fits = absurd (omega (arith, over, fits))
is_there cap us vs (Some made) joined fits = refl
