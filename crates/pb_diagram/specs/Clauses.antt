-- The clauses of an interval diagram, a fresh variable for each node (Abío and others 2012).
use Rattle.std.specs.Prelude.{ℕ, ◌+◌, ◌-◌, List, [], ◌∷◌, ◌++◌, if◌then◌else◌, nat_lt, nat_le, sum_by, length}
use Rattle.std.specs.List.{position_or_len, count_by}
use Rattle.pb_base.specs.declared.literal.Lit.{Lit}
use Rattle.pb_base.specs.Literals.{negated}
use Rattle.pb_norm.specs.Constraints.{Weighted, weight}
use Rattle.pb_norm.specs.BoundedSums.{BoundedSum}
use Rattle.pb_family.specs.Fresh.{positive_of}
use Rattle.pb_diagram.specs.declared.interval.Interval.{Interval}
use Rattle.pb_diagram.specs.Levels.{lies_in, levels_of}

-- the variable of the node of a level in which a residue lies, where the level's variables begin at a number
abbrev pub node_at : ℕ → List Interval → ℕ → Lit
node_at first nodes residue = positive_of (first + position_or_len (lies_in residue) nodes)

-- where the node is true, its false child is, unless that is the true end
abbrev pub false_clause : ℕ → ℕ → List Interval → ℕ → Interval → List (List Lit)
false_clause whole first next x g =
    if nat_le whole g.low then [] else (negated (positive_of x) ∷ node_at first next g.low ∷ []) ∷ []

-- where the node and its literal are true, its true child is, which is none at the false end
abbrev pub true_clause : Weighted → ℕ → List Interval → ℕ → Interval → List Lit
true_clause t first next x g =
    negated (positive_of x) ∷ negated t.lit ∷ (if nat_lt g.low t.coef then [] else node_at first next (g.low - t.coef) ∷ [])

-- The clauses of each node of a level. The coefficients after it add up to a number, and the variables of the next level's
-- nodes begin at another.
abbrev pub level_clauses : Weighted → ℕ → ℕ → List Interval → ℕ → List Interval → List (List Lit)
level_clauses t whole first next x [] = []
level_clauses t whole first next x (g ∷ gs) =
    false_clause whole first next x g ++ (true_clause t first next x g ∷ level_clauses t whole first next (x + 1) gs)

abbrev pub head_level : List (List Interval) → List Interval
head_level [] = []
head_level (nodes ∷ rest) = nodes

abbrev pub node_clauses : ℕ → List Weighted → List (List Interval) → List (List Lit)
node_clauses first [] levels = []
node_clauses first (t ∷ ts) [] = []
node_clauses first (t ∷ ts) (nodes ∷ levels) =
    level_clauses t (weight ts) (first + length nodes) (head_level levels) first nodes
    ++ node_clauses (first + length nodes) ts levels

-- the clauses of the nodes, and that the root is true
abbrev pub clauses_over : List Weighted → List (List Interval) → ℕ → List (List Lit)
clauses_over ts levels first = node_clauses first ts levels ++ ((positive_of first ∷ []) ∷ [])

-- ---- how many

abbrev pub node_count : List (List Interval) → ℕ
node_count levels = sum_by length levels

-- the nodes whose false child is not the true end: they begin below the sum of the coefficients after them
abbrev pub inner_count : List Weighted → List (List Interval) → ℕ
inner_count [] levels = 0
inner_count (t ∷ ts) [] = 0
inner_count (t ∷ ts) (nodes ∷ levels) = count_by (λ g. nat_lt g.low (weight ts)) nodes + inner_count ts levels

-- one for each node, one more for each inner one, and one for the root
abbrev pub clause_count_over : List Weighted → List (List Interval) → ℕ
clause_count_over ts levels = node_count levels + inner_count ts levels + 1

-- ---- of a bounded sum

abbrev pub diagram_clauses : BoundedSum → ℕ → List (List Lit)
diagram_clauses m first = clauses_over m.terms (levels_of m) first

-- how many fresh variables it has
abbrev pub diagram_fresh : BoundedSum → ℕ
diagram_fresh m = node_count (levels_of m)

-- how many clauses
abbrev pub diagram_size : BoundedSum → ℕ
diagram_size m = clause_count_over m.terms (levels_of m)
