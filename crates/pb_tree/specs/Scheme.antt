-- Clauses along a tree, whose nodes have an output for each sum that their leaves can reach, cut at a cap.
use Rattle.std.specs.Prelude.{◌≡◌, ◌⊎◌, ◌+◌, ℕ, List, [], ◌∷◌, ◌++◌, length, min}
use Rattle.pb_base.specs.declared.literal.Lit.{Lit}
use Rattle.pb_base.specs.Literals.{negated}
use Rattle.pb_norm.specs.Constraints.{Weighted}
use Rattle.pb_family.specs.Fresh.{positive_of}
use Rattle.pb_tree.specs.Tree.{Tree, empty, leaf, node}

pub record Scheme : Type 0 where
  -- sums are cut at it
  pub cap : ℕ
  -- what a true leaf adds
  pub weight : Weighted → ℕ
  -- the values of a node, ascending, by those of its parts
  pub joined : List ℕ → List ℕ → List ℕ
  -- where a value stands among those of a node
  pub place : ℕ → List ℕ → ℕ
  -- the clauses of a node, by the values of its parts and the literals of their outputs and of its own
  pub merged : List ℕ → List ℕ → (ℕ → Lit) → (ℕ → Lit) → (ℕ → Lit) → List (List Lit)
  -- how many clauses a node has, by how many values its parts have
  pub merged_count : ℕ → ℕ → ℕ

-- the values that have an output
abbrev pub values : Scheme → Tree → List ℕ
values s empty = []
values s (leaf t) = min (s.weight t) s.cap ∷ []
values s (node l r) = s.joined (values s l) (values s r)

abbrev pub fresh_of : Scheme → Tree → ℕ
fresh_of s empty = 0
fresh_of s (leaf t) = 0
fresh_of s (node l r) = fresh_of s l + fresh_of s r + length (values s (node l r))

-- the output of a value: of a leaf its literal, of a node one of its fresh variables, which follow those of its parts
abbrev pub output : Scheme → Tree → ℕ → ℕ → Lit
output s empty first u = positive_of 0
output s (leaf t) first u = t.lit
output s (node l r) first u = positive_of (first + fresh_of s l + fresh_of s r + s.place u (values s (node l r)))

-- Along a tree: what the left part has, the right part, and then a node's own, which go by its two parts and the first fresh
-- variable.
abbrev pub along : {X : Type 0} → Scheme → (Tree → Tree → ℕ → List X) → Tree → ℕ → List X
along s own empty first = []
along s own (leaf t) first = []
along s own (node l r) first = along s own l first ++ (along s own r (first + fresh_of s l) ++ own l r first)

-- how many, where it is known how many each node has
abbrev pub count_along : (Tree → Tree → ℕ) → Tree → ℕ
count_along own empty = 0
count_along own (leaf t) = 0
count_along own (node l r) = count_along own l + count_along own r + own l r

-- those of the scheme itself
abbrev pub own_of : Scheme → Tree → Tree → ℕ → List (List Lit)
own_of s l r first = s.merged (values s l) (values s r) (output s l first) (output s r (first + fresh_of s l)) (output s (node l r) first)

abbrev pub own_count_of : Scheme → Tree → Tree → ℕ
own_count_of s l r = s.merged_count (length (values s l)) (length (values s r))

abbrev pub clauses_of : Scheme → Tree → ℕ → List (List Lit)
clauses_of s t first = along s (own_of s) t first

abbrev pub clause_count_of : Scheme → Tree → ℕ
clause_count_of s t = count_along (own_count_of s) t

-- the clauses of the whole tree, and that its sum does not reach the cap
abbrev pub tree_clauses : Scheme → Tree → ℕ → List (List Lit)
tree_clauses s t first = clauses_of s t first ++ (negated (output s t first s.cap) ∷ []) ∷ []

-- a part of a tree, and where its fresh variables begin
abbrev pub IsPartAt : Scheme → Tree → ℕ → Tree → ℕ → Type 0
IsPartAt s empty first part at = (empty ≡ part) × (first ≡ at)
IsPartAt s (leaf t) first part at = (leaf t ≡ part) × (first ≡ at)
IsPartAt s (node l r) first part at =
    ((node l r ≡ part) × (first ≡ at)) ⊎ (IsPartAt s l first part at ⊎ IsPartAt s r (first + fresh_of s l) part at)
