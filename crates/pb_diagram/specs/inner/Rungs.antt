-- All levels over the next one each, the last one first. It serves proofs alone.
use Rattle.std.specs.Prelude.{ℕ, ◌+◌, List, [], ◌∷◌, ◌++◌, length}
use Rattle.pb_norm.specs.Constraints.{Weighted}
use Rattle.pb_diagram.specs.declared.node.Node.{Node}
use Rattle.pb_diagram.specs.Guards.{Rung}
use Rattle.pb_diagram.specs.GuardedSteps.{rung_of}

-- the ids of the nodes' constraints and of the orders, and the first variable
abbrev pub rungs : ℕ → ℕ → ℕ → List Weighted → List (List Node) → List Rung
rungs base orders p [] levels = []
rungs base orders p (t ∷ ts) [] = []
rungs base orders p (t ∷ ts) (ns ∷ levels) = rungs base orders (p + length ns) ts levels ++ rung_of t ns levels p base orders ∷ []

-- the levels before the first one without nodes
abbrev pub risen : ℕ → ℕ → ℕ → List Weighted → List (List Node) → List Rung
risen base orders p [] levels = []
risen base orders p (t ∷ ts) [] = []
risen base orders p (t ∷ ts) ([] ∷ levels) = []
risen base orders p (t ∷ ts) ((n ∷ ns) ∷ levels) = risen base orders (p + length (n ∷ ns)) ts levels ++ rung_of t (n ∷ ns) levels p base orders ∷ []

-- the terms behind these
abbrev pub behind : List Weighted → List (List Node) → List Weighted
behind [] levels = []
behind (t ∷ ts) [] = t ∷ ts
behind (t ∷ ts) ([] ∷ levels) = t ∷ ts
behind (t ∷ ts) ((n ∷ ns) ∷ levels) = behind ts levels
