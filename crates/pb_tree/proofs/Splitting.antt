-- The tree of a list has the list's terms as its leaves.
use Rattle.std.proofs.Common.{◌≡◌, ◌≤◌, ◌/◌, ◌++◌, get_or, ℕ, List, [], ◌∷◌, length, take, drop, refl, sym, ap, ◌∙◌, subst, arith, zero, suc, length-drop, take-append-drop}
use Rattle.std.specs.Prelude.{Contains, sum_by}
use Rattle.std.proofs.lemmas.List.{length-take}
use Rattle.std.proofs.lemmas.List.Sums.{sum_by-cons, sum_by-append}
use Rattle.pb_norm.specs.Constraints.{Weighted}
use Rattle.pb_tree.specs.Tree.{Tree, empty, leaf, node, split_within, tree_of, IsLeafOf, leaf_sum}
use Rattle.pb_tree.specs.TreeSteps.{leaves}
use Rattle.pb_tree.proofs.TreeParts.{leaf_listed as leaf_from, listed_leaf as among_leaves}

-- the halves of a list of two or more are shorter
pub halves : (t u : Weighted) (us : List Weighted) (more : ℕ) → length (t ∷ u ∷ us) ≤ suc more
    → (length (take (length (t ∷ u ∷ us) / 2) (t ∷ u ∷ us)) ≤ more) × (length (drop (length (t ∷ u ∷ us) / 2) (t ∷ u ∷ us)) ≤ more)
halves t u us more fits =
    let ts = t ∷ u ∷ us in
    let n = length ts / 2 in
    (omega (arith, length-take n ts), omega (arith, length-drop n ts))

leaves_within : (more : ℕ) (ts : List Weighted) → length ts ≤ more → leaves (split_within more ts) ≡ ts
unfolding split_within
leaves_within zero [] fits = refl
leaves_within zero (t ∷ ts) fits = absurd (omega arith)
leaves_within (suc more) [] fits = refl
leaves_within (suc more) (t ∷ []) fits = refl
leaves_within (suc more) (t ∷ u ∷ us) fits =
    let ts = t ∷ u ∷ us in
    let n = length ts / 2 in
    let short = halves t u us more fits in
    (λ i. leaves_within more (take n ts) short.0 i ++ leaves_within more (drop n ts) short.1 i) ∙ take-append-drop n ts

pub leaves_are : (ts : List Weighted) → leaves (tree_of ts) ≡ ts
leaves_are ts = leaves_within (length ts) ts (omega arith)

pub leaf_listed : (ts : List Weighted) (t : Weighted) → IsLeafOf (tree_of ts) t → Contains ts t
leaf_listed ts t among = subst (λ (us : List Weighted). Contains us t) (leaves_are ts) (among_leaves (tree_of ts) t among)

pub listed_leaf : (ts : List Weighted) (t : Weighted) → Contains ts t → IsLeafOf (tree_of ts) t
listed_leaf ts t h = leaf_from (tree_of ts) t (subst (λ (us : List Weighted). Contains us t) (sym (leaves_are ts)) h)

leaf_sum_by : (f : Weighted → ℕ) (t : Tree) → leaf_sum f t ≡ sum_by f (leaves t)
leaf_sum_by f empty = refl
leaf_sum_by f (leaf t) = omega (arith, sum_by-cons f t [])
leaf_sum_by f (node l r) = omega (arith, leaf_sum_by f l, leaf_sum_by f r, sum_by-append f (leaves l) (leaves r))

pub split_sum : (f : Weighted → ℕ) (ts : List Weighted) → leaf_sum f (tree_of ts) ≡ sum_by f ts
split_sum f ts = leaf_sum_by f (tree_of ts) ∙ ap (sum_by f) (leaves_are ts)

-- ---- the steps of the split, as the code takes them

-- more levels than there are terms change nothing
same_levels : (more less : ℕ) (ts : List Weighted) → length ts ≤ more → length ts ≤ less → split_within more ts ≡ split_within less ts
unfolding split_within
same_levels zero zero ts fits also = refl
same_levels zero (suc less) [] fits also = refl
same_levels zero (suc less) (t ∷ ts) fits also = absurd (omega arith)
same_levels (suc more) zero [] fits also = refl
same_levels (suc more) zero (t ∷ ts) fits also = absurd (omega arith)
same_levels (suc more) (suc less) [] fits also = refl
same_levels (suc more) (suc less) (t ∷ []) fits also = refl
same_levels (suc more) (suc less) (t ∷ u ∷ us) fits also =
    let ts = t ∷ u ∷ us in
    let n = length ts / 2 in
    let one = halves t u us more fits in
    let two = halves t u us less also in
    ap (λ (l : Tree). node l (split_within more (drop n ts))) (same_levels more less (take n ts) one.0 two.0)
    ∙ ap (node (split_within less (take n ts))) (same_levels more less (drop n ts) one.1 two.1)

pub split-node : (ts : List Weighted) → 2 ≤ length ts → tree_of ts ≡ node (tree_of (take (length ts / 2) ts)) (tree_of (drop (length ts / 2) ts))
unfolding split_within
split-node [] two = absurd (omega arith)
split-node (t ∷ []) two = absurd (omega arith)
split-node (t ∷ u ∷ us) two =
    let ts = t ∷ u ∷ us in
    let n = length ts / 2 in
    let more = length (u ∷ us) in
    let short = halves t u us more (omega arith) in
    ap (λ (l : Tree). node l (split_within more (drop n ts))) (same_levels more (length (take n ts)) (take n ts) short.0 (omega arith))
    ∙ ap (node (tree_of (take n ts))) (same_levels more (length (drop n ts)) (drop n ts) short.1 (omega arith))

pub split-one : (ts : List Weighted) (d : Weighted) → length ts ≡ 1 → tree_of ts ≡ leaf (get_or ts 0 d)
unfolding split_within
split-one [] d one = absurd (omega arith)
split-one (t ∷ []) d one = refl
split-one (t ∷ u ∷ us) d one = absurd (omega arith)

pub split-two : (ts front back : List Weighted) → 2 ≤ length ts → front ≡ take (length ts / 2) ts → back ≡ drop (length ts / 2) ts → tree_of ts ≡ node (tree_of front) (tree_of back)
split-two ts front back two e f =
    split-node ts two ∙ ap (λ (us : List Weighted). node (tree_of us) (tree_of (drop (length ts / 2) ts))) (sym e) ∙ ap (λ (us : List Weighted). node (tree_of front) (tree_of us)) (sym f)
