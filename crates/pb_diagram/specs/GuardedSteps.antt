-- How the clauses of an interval diagram are derived with nodes over their children (our own): the nodes and their orders from the last level up,
-- the levels' sums by guards, for which the root's variable serves, the root's node, and then the clauses.
use Rattle.std.specs.Prelude.{ℕ, Bool, pos, min, ◌+◌, ◌-◌, ◌*◌, ◌^◌, ◌==◌, ◌&&◌, nat_le, nat_lt, List, [], ◌∷◌, ◌++◌, Option, None, Some, length, map, sum_by, if◌then◌else◌}
use Rattle.std.specs.List.{position_or_len}
use Rattle.pb_base.specs.declared.literal.Lit.{Lit}
use Rattle.pb_base.specs.Literals.{negated}
use Rattle.pb_norm.specs.Constraints.{Weighted, weight}
use Rattle.pb_norm.specs.BoundedSums.{BoundedSum}
use Rattle.pb_steps.specs.declared.op.PolOp.{PolOp}
use Rattle.pb_steps.specs.declared.op.PolOp.TheVariants.{Push, Axiom, Add, Div, Weaken}
use Rattle.pb_steps.specs.declared.step.Step.{Step}
use Rattle.pb_steps.specs.declared.step.Step.TheVariants.{Pol}
use Rattle.pb_derive.specs.Claims.{Claim, claim_steps}
use Rattle.pb_derive.specs.Deletions.{deletion_steps}
use Rattle.pb_derive.specs.Reifications.{Reification, reification_steps}
use Rattle.pb_family.specs.Fresh.{positive_of}
use Rattle.pb_diagram.specs.declared.interval.Interval.{Interval}
use Rattle.pb_diagram.specs.Clauses.{head_level}
use Rattle.pb_diagram.specs.Levels.{lies_in, levels_of}
use Rattle.pb_diagram.specs.declared.node.Node.{Node}
use Rattle.pb_diagram.specs.Guards.{Rung, level_reifications, child_reification, plus_times, order_lines, split_line, own_of, last_top, rung_steps, windows}

-- ---- nodes with their children

abbrev pub node_in : ℕ → ℕ → List Interval → Interval → Node
node_in coef whole next g = record {
  top = g.top;
  off = if nat_le whole g.low then None else Some (position_or_len (lies_in g.low) next);
  on = if nat_lt g.low coef then None else Some (position_or_len (lies_in (g.low - coef)) next);
}

abbrev pub nodes_in : List Weighted → List (List Interval) → List (List Node)
nodes_in [] levels = []
nodes_in (t ∷ ts) [] = []
nodes_in (t ∷ ts) (gs ∷ levels) = map (node_in t.coef (weight ts) (head_level levels)) gs ∷ nodes_in ts levels

abbrev pub first_nodes : List (List Node) → List Node
first_nodes [] = []
first_nodes (ns ∷ levels) = ns

abbrev pub count_nodes : List (List Node) → ℕ
count_nodes levels = sum_by length levels

-- ---- all nodes of the levels, the last level first

abbrev pub all_reifications : ℕ → List Weighted → List (List Node) → List Reification
all_reifications p [] levels = []
all_reifications p (t ∷ ts) [] = []
all_reifications p (t ∷ ts) (ns ∷ levels) = all_reifications (p + length ns) ts levels ++ level_reifications t.lit (p + length ns) p ns

-- ---- the order of each level, the last one first

-- the next id behind the orders
abbrev pub orders_end : ℕ → List (List Node) → ℕ
orders_end next [] = next
orders_end next (ns ∷ levels) = orders_end next levels + (length ns - 1)

-- the first id of the first level's order
abbrev pub head_order : ℕ → List (List Node) → ℕ
head_order next [] = next
head_order next (ns ∷ levels) = orders_end next levels

-- the ids of the nodes' constraints, the first variable, and the next id
abbrev pub all_orders : ℕ → ℕ → List Weighted → List (List Node) → ℕ → List Step
all_orders base p [] levels next = []
all_orders base p (t ∷ ts) [] next = []
all_orders base p (t ∷ ts) (ns ∷ levels) next =
    all_orders base (p + length ns) ts levels next ++ order_lines (head_order next levels) (p + length ns) (base + 2 * count_nodes levels) ns

-- ---- the levels' sums, the last one first

-- behind the last level with nodes, each literal's term is at least 0
abbrev pub all_terms : List Weighted → List PolOp
all_terms [] = []
all_terms (t ∷ ts) = plus_times t.coef (Axiom t.lit ∷ []) ++ all_terms ts

abbrev pub terms_line : ℕ → List Weighted → Step
terms_line v ts = Pol (Axiom (positive_of v) ∷ Weaken v ∷ all_terms ts)

-- the id of the first level's sum
abbrev pub climbs_at : ℕ → List (List Node) → ℕ
climbs_at next [] = next
climbs_at next ([] ∷ levels) = next
climbs_at next ((n ∷ ns) ∷ levels) = climbs_at next levels + 4

-- a level, by the ids of the nodes' constraints and the first one of an order
abbrev pub rung_of : Weighted → List Node → List (List Node) → ℕ → ℕ → ℕ → Rung
rung_of t ns levels p base orders = record {
  term = t;
  nodes = ns;
  next = first_nodes levels;
  var = p;
  after = p + length ns;
  counts = base + 2 * count_nodes levels;
  order = head_order orders levels;
}

-- the guard's variable, the ids of the nodes' constraints and of the orders, the first variable, and the next id
abbrev pub sums_steps : ℕ → ℕ → ℕ → ℕ → List Weighted → List (List Node) → ℕ → List Step
sums_steps v base orders p [] levels next = terms_line v [] ∷ []
sums_steps v base orders p (t ∷ ts) [] next = terms_line v (t ∷ ts) ∷ []
sums_steps v base orders p (t ∷ ts) ([] ∷ levels) next = terms_line v (t ∷ ts) ∷ []
sums_steps v base orders p (t ∷ ts) ((n ∷ ns) ∷ levels) next =
    sums_steps v base orders (p + length (n ∷ ns)) ts levels next ++ rung_steps v (rung_of t (n ∷ ns) levels p base orders) (climbs_at next levels)

-- ---- the root: its literal and the next level's false nodes weigh no more than the bound

abbrev pub root_goal : Rung → ℕ → ℕ → List PolOp
root_goal r own before = Push own ∷ Push before ∷ Add ∷ plus_times (r.term.coef - own_of r) (Axiom r.term.lit ∷ [])

-- the root is true
abbrev pub root_claim : Rung → ℕ → ℕ → Claim
root_claim r own before = record { step = split_line r (root_goal r own before) (r.term.coef + last_top r.next + last_top r.nodes + 1); clause = positive_of r.var ∷ [] }

-- ---- the clauses, each by the node's first constraint

abbrev pub spared_on : ℕ → Option ℕ → Option ℕ → List PolOp
spared_on q f None = []
spared_on q None (Some t) = Weaken (q + t) ∷ []
spared_on q (Some f) (Some t) = if f == t then [] else Weaken (q + t) ∷ []

abbrev pub off_claims_by : Lit → ℕ → ℕ → ℕ → Option ℕ → Option ℕ → List Claim
off_claims_by l q p forward None t = []
off_claims_by l q p forward (Some f) t =
    record { step = Pol (Push forward ∷ Weaken l.var ∷ spared_on q (Some f) t ++ Div (pos 3) ∷ []); clause = negated (positive_of p) ∷ positive_of (q + f) ∷ [] } ∷ []

abbrev pub off_claims : Lit → ℕ → ℕ → ℕ → Node → List Claim
off_claims l q p forward n = off_claims_by l q p forward n.off n.on

abbrev pub on_literals : ℕ → Option ℕ → List Lit
on_literals q None = []
on_literals q (Some t) = positive_of (q + t) ∷ []

abbrev pub spared_off : ℕ → Option ℕ → Option ℕ → List PolOp
spared_off q None t = []
spared_off q (Some f) None = Weaken (q + f) ∷ []
spared_off q (Some f) (Some t) = if f == t then [] else Weaken (q + f) ∷ []

abbrev pub on_claim : Lit → ℕ → ℕ → ℕ → Node → Claim
on_claim l q p forward n = record {
  step = Pol (Push forward ∷ spared_off q n.off n.on ++ Div (pos 3) ∷ []);
  clause = negated (positive_of p) ∷ negated l ∷ on_literals q n.on;
}

abbrev pub level_claims : Lit → ℕ → ℕ → ℕ → List Node → List Claim
level_claims l q p counts [] = []
level_claims l q p counts (n ∷ ns) = off_claims l q p counts n ++ (on_claim l q p counts n ∷ level_claims l q (p + 1) (counts + 2) ns)

abbrev pub all_claims : ℕ → ℕ → List Weighted → List (List Node) → List Claim
all_claims base p [] levels = []
all_claims base p (t ∷ ts) [] = []
all_claims base p (t ∷ ts) (ns ∷ levels) = level_claims t.lit (p + length ns) p (base + 2 * count_nodes levels) ns ++ all_claims base (p + length ns) ts levels

-- ---- the whole

-- the root's level, whose constraints have ids behind the next level's sum
abbrev pub root_of : Weighted → Node → List (List Node) → ℕ → ℕ → ℕ → Rung
root_of t n levels first orders before = record {
  term = t;
  nodes = n ∷ [];
  next = first_nodes levels;
  var = first;
  after = first + 1;
  counts = before + 1;
  order = head_order orders levels;
}

abbrev pub claims_over : Weighted → List Weighted → Node → List (List Node) → ℕ → ℕ → ℕ → ℕ → ℕ → List Claim
claims_over t ts n levels first own base orders before =
    level_claims t.lit (first + 1) first (before + 1) (n ∷ []) ++ (all_claims base (first + 1) ts levels ++ root_claim (root_of t n levels first orders before) own before ∷ [])

-- the root's reification and all clauses, by the next level's sum, which goes with it
abbrev pub root_steps : Weighted → List Weighted → Node → List (List Node) → ℕ → ℕ → ℕ → ℕ → ℕ → List Step
root_steps t ts n levels first own base orders before =
    reification_steps (before + 1) (child_reification t.lit (first + 1) first n ∷ [])
    ++ (claim_steps (before + 3) (claims_over t ts n levels first own base orders before) ++ deletion_steps 3 before 1)

-- behind the orders: the first level below the root has the variables from the second one on
abbrev pub core_steps : Weighted → List Weighted → Node → List (List Node) → ℕ → ℕ → ℕ → ℕ → ℕ → List Step
core_steps t ts n levels first own base orders sums =
    sums_steps first base orders (first + 1) ts levels sums ++ root_steps t ts n levels first own base orders (climbs_at sums levels)

-- behind the nodes below the root
abbrev pub ordered_steps : Weighted → List Weighted → Node → List (List Node) → ℕ → ℕ → ℕ → ℕ → List Step
ordered_steps t ts n levels first own base orders =
    all_orders base (first + 1) ts levels orders
    ++ (core_steps t ts n levels first own base orders (orders_end orders levels) ++ deletion_steps 1 orders (orders_end orders levels - orders))

abbrev pub guarded_over : Weighted → List Weighted → Node → List (List Node) → ℕ → ℕ → ℕ → List Step
guarded_over t ts n levels first own next =
    reification_steps next (all_reifications (first + 1) ts levels)
    ++ (ordered_steps t ts n levels first own next (next + 2 * count_nodes levels) ++ deletion_steps 2 next (count_nodes levels))

abbrev pub guarded_by : List Weighted → List (List Node) → ℕ → ℕ → ℕ → List Step
guarded_by [] levels first own next = []
guarded_by (t ∷ ts) [] first own next = []
guarded_by (t ∷ ts) ([] ∷ levels) first own next = []
guarded_by (t ∷ ts) ((n ∷ ns) ∷ levels) first own next = guarded_over t ts n levels first own next

abbrev pub guarded_steps : BoundedSum → ℕ → ℕ → ℕ → List Step
guarded_steps m first own next = guarded_by m.terms (nodes_in m.terms (levels_of m)) first own next

-- ---- where these steps are written: many terms, few nodes at a level, and short windows, so many ids a node on average

abbrev pub is_narrow : ℕ → List Node → Bool
is_narrow most ns = nat_lt (length ns) (2 ^ 14) && nat_le (windows ns) (most * length ns)

abbrev pub are_narrow : ℕ → List (List Node) → Bool
are_narrow most [] = Bool.true
are_narrow most (ns ∷ levels) = is_narrow most ns && are_narrow most levels

-- A node over its sum takes a term for each term of the sum, and a node over its children as many ids as its window. The guards of a sum of
-- few terms take more than they save.
abbrev pub is_guarded : BoundedSum → Bool
is_guarded m = nat_le 20 (length m.terms) && are_narrow (min 255 (length m.terms)) (nodes_in m.terms (levels_of m))
