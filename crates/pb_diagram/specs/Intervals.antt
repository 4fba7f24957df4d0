-- The nodes of an interval diagram in the words of intervals (Abío and others 2012).
use Rattle.std.specs.Prelude.{◌≡◌, ◌≤◌, ◌<◌, ◌+◌, ◌-◌, ◌↔◌, ℕ, Bool, if◌then◌else◌, List, [], ◌∷◌, Contains, sum}
use Rattle.pb_diagram.specs.declared.interval.Interval.{Interval}
use Rattle.pb_diagram.specs.Levels.{level}

-- each ends not above each later one's beginning
abbrev pub AreApart : List Interval → Type 0
AreApart [] = Unit {0}
AreApart (g ∷ gs) = ((h : Interval) → Contains gs h → g.top ≤ h.low) × AreApart gs

-- the sum of a part of the numbers: each is taken where the list says so
abbrev pub part_sum : List Bool → List ℕ → ℕ
part_sum [] rest = 0
part_sum (taken ∷ part) [] = 0
part_sum (taken ∷ part) (a ∷ rest) = (if taken then a else 0) + part_sum part rest

abbrev pub IsPartSum : List ℕ → ℕ → Type 0
IsPartSum rest s = (part : List Bool) × (part_sum part rest ≡ s)

-- from the greatest sum of a part that is not above the residue to the next greater one
pub record IsIntervalOf (rest : List ℕ) (residue : ℕ) (g : Interval) : Type 0 where
  pub low_is_sum : IsPartSum rest g.low
  pub low_le : g.low ≤ residue
  pub greatest : (s : ℕ) → IsPartSum rest s → s ≤ residue → s ≤ g.low
  pub top_is_sum : IsPartSum rest g.top
  pub above : residue < g.top
  pub least : (s : ℕ) → IsPartSum rest s → residue < s → g.top ≤ s

-- the interval of the bound less the sum of some part of the coefficients before
abbrev pub IsReachedInterval : ℕ → List ℕ → List ℕ → Interval → Type 0
IsReachedInterval bound before rest g =
    (spent : ℕ) × (residue : ℕ) × IsPartSum before spent × (spent + residue ≡ bound) × IsIntervalOf rest residue g

-- the nodes of each level are these intervals, each once and in order
abbrev pub NodesAreIntervals : Type 0
NodesAreIntervals =
    (bound : ℕ) (before rest : List ℕ) → AreApart (level bound before rest) × ((g : Interval) → Contains (level bound before rest) g ↔ IsReachedInterval bound before rest g)

-- two residues have the same children: the same ends, and the same intervals
pub record HaveSameChildren (a : ℕ) (rest : List ℕ) (r s : ℕ) : Type 0 where
  pub true_end : (sum rest ≤ r) ↔ (sum rest ≤ s)
  pub false_child : (h : Interval) → IsIntervalOf rest r h ↔ IsIntervalOf rest s h
  pub false_end : (r < a) ↔ (s < a)
  pub true_child : a ≤ r → (h : Interval) → IsIntervalOf rest (r - a) h ↔ IsIntervalOf rest (s - a) h

-- which residue of a node is chosen does not matter to its children
abbrev pub ChildrenAreOfNodes : Type 0
ChildrenAreOfNodes =
    (a : ℕ) (rest : List ℕ) (r s : ℕ) (g : Interval) → IsIntervalOf (a ∷ rest) r g → IsIntervalOf (a ∷ rest) s g → HaveSameChildren a rest r s
