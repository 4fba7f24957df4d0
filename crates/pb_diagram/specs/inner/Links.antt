-- What the laws need of the nodes of a diagram. It serves proofs alone.
use Rattle.std.specs.Prelude.{◌≡◌, ◌≤◌, ◌<◌, ℕ, ◌+◌, ◌-◌, List, [], ◌∷◌, All, Contains, length, slice_index_or}
use Rattle.std.specs.List.{position_or_len}
use Rattle.pb_norm.specs.Constraints.{Weighted, weight}
use Rattle.pb_diagram.specs.declared.interval.Interval.{Interval}
use Rattle.pb_diagram.specs.Levels.{lies_in}
use Rattle.pb_diagram.specs.Clauses.{head_level}
use Rattle.pb_diagram.specs.Intervals.{AreApart}

-- some node of a level holds the residue
abbrev pub HasPlace : List Interval → ℕ → Type 0
HasPlace nodes residue = position_or_len (lies_in residue) nodes < length nodes

-- a node holds the residue, begins not above it and ends, with a shift, not below a number
pub record Child (nodes : List Interval) (residue shift end : ℕ) : Type 0 where
  pub interval : Interval
  pub within : HasPlace nodes residue
  pub is : slice_index_or nodes (position_or_len (lies_in residue) nodes) interval ≡ interval
  pub starts : interval.low ≤ residue
  pub ends : end ≤ shift + interval.top

-- a node's children, over the nodes of the next level
pub record Linked (coef whole : ℕ) (next : List Interval) (g : Interval) : Type 0 where
  pub off : g.low < whole → Child next g.low 0 g.top
  pub on : coef ≤ g.low → Child next (g.low - coef) coef g.top
  pub full : g.low < coef → g.top ≤ coef

-- the nodes of the next level hold what a node asks of its children
abbrev pub HasChildren : ℕ → ℕ → List Interval → Interval → Type 0
HasChildren coef whole next g = (g.low < whole → HasPlace next g.low) × (coef ≤ g.low → HasPlace next (g.low - coef))

-- the children of the nodes of each level
abbrev pub AreLinked : List Weighted → List (List Interval) → Type 0
AreLinked [] [] = Unit {0}
AreLinked [] (nodes ∷ levels) = ⊥
AreLinked (t ∷ ts) [] = ⊥
AreLinked (t ∷ ts) (nodes ∷ levels) =
    All (Linked t.coef (weight ts) (head_level levels)) nodes × AreLinked ts levels

-- the first level is one node, which holds the bound
pub record IsRootNode (bound : ℕ) (levels : List (List Interval)) : Type 0 where
  pub root : Interval
  pub is : head_level levels ≡ root ∷ []
  pub starts : root.low ≤ bound
  pub ends : bound < root.top

-- each node ends above its beginning, which is not below the end of any before it
abbrev pub AreInOrder : List Interval → Type 0
AreInOrder nodes =
    (i : ℕ) (d : Interval) → i < length nodes → ((slice_index_or nodes i d).low < (slice_index_or nodes i d).top) × ((k : ℕ) → k < i → (slice_index_or nodes k d).top ≤ (slice_index_or nodes i d).low)

-- nodes in order, each of which ends above its beginning
pub record StandApart (nodes : List Interval) : Type 0 where
  pub apart : AreApart nodes
  pub rise : (g : Interval) → Contains nodes g → g.low < g.top
