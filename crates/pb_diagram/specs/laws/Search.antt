-- What is known while a diagram's nodes are searched for. It serves proofs alone.
use Rattle.std.proofs.Common.{zero, suc}
use Rattle.std.specs.Prelude.{◌≡◌, ◌<◌, ◌≤◌, ◌+◌, ◌-◌, ◌^◌, ◌⊎◌, ℕ, List, [], ◌∷◌, Contains, drop, length, sum, slice_index, slice_index_or, max, min, Bool, true, false, Option, None, IfSome, MatchOption}
use Rattle.pb_diagram.specs.declared.interval.Interval.{Interval}
use Rattle.pb_diagram.specs.declared.search.Look.{Look}
use Rattle.pb_diagram.specs.declared.search.Top.{Top}
use Rattle.pb_diagram.specs.declared.search.Look.TheVariants.{Missing, Found}
use Rattle.pb_norm.specs.BoundedSums.{BoundedSum}
use Rattle.pb_diagram.specs.Clauses.{node_count}
use Rattle.pb_diagram.specs.Levels.{coefs_of, levels_of}
use Rattle.pb_diagram.specs.inner.Nodes.{LiesIn, IsResidue, IsNode}
use Rattle.pb_diagram.specs.Intervals.{AreApart}

abbrev pub nodes_at : List (List Interval) → ℕ → List Interval
nodes_at known i = slice_index_or known i []

-- the numbers before a place, the last first, and before them some others
abbrev pub before_at : List ℕ → List ℕ → ℕ → List ℕ
before_at before [] i = before
before_at before (a ∷ rest) zero = before
before_at before (a ∷ rest) (suc i) = before_at (a ∷ before) rest i

-- some of the nodes of a level, in order
pub record IsPartSearched (bound : ℕ) (before rest : List ℕ) (nodes : List Interval) : Type 0 where
  pub apart : AreApart nodes
  pub is_node : (g : Interval) → Contains nodes g → IsNode bound before rest g

-- some node holds the residue
abbrev pub IsKnown : List Interval → ℕ → Type 0
IsKnown nodes residue = (h : Interval) × Contains nodes h × LiesIn residue h

-- no node does
abbrev pub IsUnknown : List Interval → ℕ → Type 0
IsUnknown nodes residue = (h : Interval) → Contains nodes h → ¬ LiesIn residue h

-- the node that holds the residue was found, if one does
abbrev pub IsFound : List Interval → ℕ → Option Interval → Type 0
IsFound nodes residue found = MatchOption found (IsUnknown nodes residue) (λ g. Contains nodes g × LiesIn residue g)

-- the children of a node are known
pub record IsIntervalClosed (a : ℕ) (rest : List ℕ) (next : List Interval) (g : Interval) : Type 0 where
  pub off : g.low < sum rest → IsKnown next g.low
  pub on : a ≤ g.low → IsKnown next (g.low - a)

-- a residue of a level whose node is not known
pub record IsWanted (bound : ℕ) (before rest : List ℕ) (nodes : List Interval) (residue : ℕ) : Type 0 where
  pub reached : IsResidue bound before residue
  pub below : residue < sum rest
  pub missing : IsUnknown nodes residue

-- nodes of each level, with their children, and for the first levels a residue each whose node is wanted
pub record IsSearch (bound : ℕ) (coefs : List ℕ) (known : List (List Interval)) (wanted : List ℕ) : Type 0 where
  pub levels : length known ≡ length coefs
  pub parts : (i : ℕ) → i < length coefs → IsPartSearched bound (before_at [] coefs i) (drop i coefs) (nodes_at known i)
  pub closed : (i : ℕ) → i < length coefs → (g : Interval) → Contains (nodes_at known i) g → IsIntervalClosed (slice_index coefs i) (drop (i + 1) coefs) (nodes_at known (i + 1)) g
  pub path : (i : ℕ) → i < length wanted → IsWanted bound (before_at [] coefs i) (drop i coefs) (nodes_at known i) (slice_index wanted i)
  pub root : (0 < length wanted) ⊎ IsKnown (nodes_at known 0) bound

-- a child's residue, whose node is not known
abbrev pub IsMissing : ℕ → ℕ → List Interval → ℕ → ℕ → Type 0
IsMissing a whole next residue child =
    (((residue < whole) × (child ≡ residue)) ⊎ ((a ≤ residue) × (child ≡ residue - a))) × IsUnknown next child

-- what the false child says: the sums that it lies between, of which the true end has only the first, the sum of all
pub record IsOff (a whole : ℕ) (next : List Interval) (residue : ℕ) (side : Interval) : Type 0 where
  pub ends : whole ≤ residue → (side.low ≡ whole) × (side.top ≡ whole + a)
  pub node : residue < whole → Contains next side × LiesIn residue side

-- what the true child says, with the coefficient added: the false end lies below its coefficient
pub record IsOn (a : ℕ) (next : List Interval) (residue : ℕ) (side : Interval) : Type 0 where
  pub ends : residue < a → (side.low ≡ 0) × (side.top ≡ a)
  pub node : a ≤ residue → (h : Interval) × Contains next h × LiesIn (residue - a) h × (side.low ≡ a + h.low) × (side.top ≡ a + h.top)

-- the false child, or the true one, of the node that holds the residue is not known
abbrev pub LacksFalseChild : ℕ → List Interval → ℕ → Type 0
LacksFalseChild whole next residue = (residue < whole) × IsUnknown next residue

abbrev pub LacksTrueChild : ℕ → List Interval → ℕ → Type 0
LacksTrueChild a next residue = (a ≤ residue) × IsUnknown next (residue - a)

-- a node from its children
pub record IsJoined (a whole : ℕ) (next : List Interval) (residue : ℕ) (g : Interval) : Type 0 where
  pub off : Interval
  pub on : Interval
  pub is_off : IsOff a whole next residue off
  pub is_on : IsOn a next residue on
  pub low : g.low ≡ max off.low on.low
  pub top : g.top ≡ min off.top on.top

-- one more node
pub record IsGrown (nodes : List Interval) (g : Interval) (more : List Interval) : Type 0 where
  pub here : Contains more g
  pub keeps : (h : Interval) → Contains nodes h → Contains more h
  pub cases : (h : Interval) → Contains more h → (g ≡ h) ⊎ Contains nodes h
  pub apart : AreApart more
  pub longer : length more ≡ length nodes + 1

-- a look at a residue found its node, or misses a child
abbrev pub Looked : ℕ → ℕ → List Interval → ℕ → Look → Type 0
Looked a whole next residue (Missing child off) = IsMissing a whole next residue child × IfSome off (IsOff a whole next residue)
Looked a whole next residue (Found g) = IsJoined a whole next residue g

-- a search, with the sum of the coefficients after the levels at which residues are wanted
pub record IsSearching (c : BoundedSum) (known : List (List Interval)) (wanted : List ℕ) (left : ℕ) : Type 0 where
  pub state : IsSearch c.bound (coefs_of c.terms) known wanted
  pub left_is : left ≡ sum (drop (length wanted) (coefs_of c.terms))

-- what the false child of a wanted residue's node says, where it is kept
abbrev pub IsSideAt : BoundedSum → List (List Interval) → List ℕ → ℕ → Option Interval → Type 0
IsSideAt c known wanted i side =
    IfSome side (IsOff (slice_index (coefs_of c.terms) i) (sum (drop (i + 1) (coefs_of c.terms))) (nodes_at known (i + 1)) (slice_index wanted i))

-- beside a search: what the false child of each residue's node says, where it was kept, and a node of the level after the residues'
pub record IsKept (c : BoundedSum) (known : List (List Interval)) (wanted : List ℕ) (sides : List (Option Interval)) (last : Option Interval) : Type 0 where
  pub each : length sides ≡ length wanted
  pub offs : (i : ℕ) → i < length wanted → IsSideAt c known wanted i (slice_index_or sides i None)
  pub among : IfSome last (Contains (nodes_at known (length wanted)))

-- what a look at the last residue rests on: what is known of the next level, whose terms add up to a number, and what was kept
pub record IsSeen (known : List (List Interval)) (whole : ℕ) (top : Top) : Type 0 where
  pub apart : AreApart (nodes_at known (top.place + 1))
  pub fits : whole + top.coef < 2 ^ 100
  pub bounded : top.place < length known
  pub within : (h : Interval) → Contains (nodes_at known (top.place + 1)) h → (h.low ≤ whole) × (h.top ≤ whole)
  pub kept : IfSome top.off (IsOff top.coef whole (nodes_at known (top.place + 1)) top.residue)
  pub among : IfSome top.last (Contains (nodes_at known (top.place + 1)))

-- the last residue that is wanted, with its level, and what a look at it rests on
pub record IsTop (c : BoundedSum) (known : List (List Interval)) (wanted : List ℕ) (left : ℕ) (top : Top) : Type 0 where
  pub depth : top.place + 1 ≡ length wanted
  pub residue_is : top.residue ≡ slice_index wanted top.place
  pub coef_is : top.coef ≡ slice_index (coefs_of c.terms) top.place
  pub within : top.place < length c.terms
  pub seen : IsSeen known left top

-- the nodes of all levels, which are not more than a budget
abbrev pub AreAllNodes : BoundedSum → ℕ → List (List Interval) → Type 0
AreAllNodes c budget known = (known ≡ levels_of c) × (node_count (levels_of c) ≤ budget)

-- one more node is known and one residue less is wanted, or one more is wanted
pub record Advanced (joined : Bool) (known more : List (List Interval)) (wanted now : List ℕ) : Type 0 where
  pub found : joined ≡ true → (node_count more ≡ node_count known + 1) × (length now + 1 ≡ length wanted)
  pub wants : joined ≡ false → (node_count more ≡ node_count known) × (length now ≡ length wanted + 1)
