-- Trees that split a list of terms in halves (as in Bailleux and Boufkhad 2003).
use Rattle.std.specs.Prelude.{◌≡◌, ◌⊎◌, ℕ, zero, suc, ◌+◌, ◌/◌, List, [], ◌∷◌, length, take, drop}
use Rattle.pb_norm.specs.Constraints.{Weighted}

pub data Tree : Type 0 where
  empty : Tree
  leaf : Weighted → Tree
  node : Tree → Tree → Tree

-- so many levels at most; a list of p terms splits into its first p / 2 and the rest
unfoldable pub split_within : ℕ → List Weighted → Tree
split_within zero ts = empty
split_within (suc more) [] = empty
split_within (suc more) (t ∷ []) = leaf t
split_within (suc more) (t ∷ u ∷ us) =
    let ts = t ∷ u ∷ us in
    node (split_within more (take (length ts / 2) ts)) (split_within more (drop (length ts / 2) ts))

abbrev pub tree_of : List Weighted → Tree
tree_of ts = split_within (length ts) ts

-- the term is a leaf of the tree
abbrev pub IsLeafOf : Tree → Weighted → Type 0
IsLeafOf empty t = ⊥
IsLeafOf (leaf u) t = u ≡ t
IsLeafOf (node l r) t = IsLeafOf l t ⊎ IsLeafOf r t

abbrev pub leaf_sum : (Weighted → ℕ) → Tree → ℕ
leaf_sum f empty = 0
leaf_sum f (leaf t) = f t
leaf_sum f (node l r) = leaf_sum f l + leaf_sum f r
