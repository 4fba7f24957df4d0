-- How the clauses of an interval diagram are derived (our own): a node means that the terms from its level on add up to less than
-- its interval's end.
use Rattle.std.specs.Prelude.{ℕ, ◌+◌, ◌-◌, ◌*◌, List, [], ◌∷◌, ◌++◌, if◌then◌else◌, nat_lt, nat_le, length, map}
use Rattle.std.specs.List.{position_or_len}
use Rattle.pb_base.specs.Literals.{negated}
use Rattle.pb_norm.specs.Constraints.{Weighted, weight}
use Rattle.pb_norm.specs.BoundedSums.{BoundedSum, vars_of}
use Rattle.pb_norm.specs.Reduction.{opposite}
use Rattle.pb_steps.specs.declared.step.Step.{Step}
use Rattle.pb_derive.specs.Reifications.{Reification}
use Rattle.pb_derive.specs.Phases.{phases}
use Rattle.pb_derive.specs.Justifications.{Justification, by_justification}
use Rattle.pb_family.specs.Fresh.{positive_of}
use Rattle.pb_diagram.specs.declared.interval.Interval.{Interval}
use Rattle.pb_diagram.specs.Clauses.{node_at, true_clause, head_level}
use Rattle.pb_diagram.specs.Levels.{lies_in, levels_of}

-- ---- what the fresh variables mean

-- the terms' false literals weigh so much that the true ones stay below the interval's end
abbrev pub node_reification : ℕ → List Weighted → Interval → Reification
node_reification var ts g = record { var = var; sum = map opposite ts; least = weight ts + 1 - g.top }

abbrev pub level_reifications : ℕ → List Weighted → List Interval → List Reification
level_reifications var ts [] = []
level_reifications var ts (g ∷ gs) = node_reification var ts g ∷ level_reifications (var + 1) ts gs

-- of the nodes of each level, in the order of their numbers
abbrev pub node_reifications : ℕ → List Weighted → List (List Interval) → List Reification
node_reifications first [] levels = []
node_reifications first (t ∷ ts) [] = []
node_reifications first (t ∷ ts) (nodes ∷ levels) = level_reifications first (t ∷ ts) nodes ++ node_reifications (first + length nodes) ts levels

-- ---- why the clauses hold

-- a level's nodes, the number of its first variable, and the id of that variable's first constraint
pub record Below : Type 0 where
  pub nodes : List Interval
  pub first : ℕ
  pub id : ℕ

-- the second constraint of the node in which a residue lies
abbrev pub child_id : Below → ℕ → ℕ
child_id next residue = next.id + 2 * position_or_len (lies_in residue) next.nodes + 1

-- a node's first constraint and its false child's second one, without the level's literal
abbrev pub false_justifications : Weighted → ℕ → Below → ℕ → ℕ → Interval → List Justification
false_justifications t whole next x id g =
    if nat_le whole g.low
    then []
    else record { clause = negated (positive_of x) ∷ node_at next.first next.nodes g.low ∷ []; ids = id ∷ child_id next g.low ∷ []; weakened = t.lit.var ∷ [] } ∷ []

-- and its true child's second one; at the false end there is none, and the terms after the level's go
abbrev pub true_justification : Weighted → List Weighted → Below → ℕ → ℕ → Interval → Justification
true_justification t ts next x id g = record {
  clause = true_clause t next.first next.nodes x g;
  ids = id ∷ (if nat_lt g.low t.coef then [] else child_id next (g.low - t.coef) ∷ []);
  weakened = if nat_lt g.low t.coef then vars_of ts else [];
}

-- of each node of a level, whose variables begin at one number and whose ids at another
abbrev pub level_justifications : Weighted → List Weighted → Below → ℕ → ℕ → List Interval → List Justification
level_justifications t ts next x id [] = []
level_justifications t ts next x id (g ∷ gs) = false_justifications t (weight ts) next x id g ++ (true_justification t ts next x id g ∷ level_justifications t ts next (x + 1) (id + 2) gs)

abbrev pub below_of : ℕ → ℕ → List Interval → List (List Interval) → Below
below_of first id nodes levels = record { nodes = head_level levels; first = first + length nodes; id = id + 2 * length nodes }

abbrev pub node_justifications : ℕ → ℕ → List Weighted → List (List Interval) → List Justification
node_justifications first id [] levels = []
node_justifications first id (t ∷ ts) [] = []
node_justifications first id (t ∷ ts) (nodes ∷ levels) =
    level_justifications t ts (below_of first id nodes levels) first id nodes ++ node_justifications (first + length nodes) (id + 2 * length nodes) ts levels

-- the root is true: its second constraint, and the sum's own
abbrev pub top_justification : ℕ → ℕ → ℕ → Justification
top_justification first id own = record { clause = positive_of first ∷ []; ids = (id + 1) ∷ own ∷ []; weakened = [] }

abbrev pub justifications_over : List Weighted → List (List Interval) → ℕ → ℕ → ℕ → List Justification
justifications_over ts levels first id own = node_justifications first id ts levels ++ top_justification first id own ∷ []

-- ---- all steps

-- the first fresh variable, the id of the sum's constraint, and the next id
abbrev pub diagram_steps : BoundedSum → ℕ → ℕ → ℕ → List Step
diagram_steps m first own next = phases next (node_reifications first m.terms (levels_of m)) (map by_justification (justifications_over m.terms (levels_of m) first next own))
