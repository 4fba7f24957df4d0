-- The steps by guards, in the words of the types of the code that hands them over. It serves proofs alone.
use Rattle.std.specs.Prelude.{◌≡◌, ◌≤◌, ◌+◌, ◌-◌, ◌*◌, ℕ, false, List, drop, length, map, slice_index_or}
use Rattle.pb_norm.specs.Constraints.{Weighted, weights}
use Rattle.pb_steps.specs.declared.step.Step.{Step}
use Rattle.pb_derive.specs.Claims.{Claim}
use Rattle.pb_diagram.specs.declared.guarded.Guarded.{Guarded}
use Rattle.pb_diagram.specs.declared.guarded.Ladder.{Ladder}
use Rattle.pb_diagram.specs.declared.node.Node.{Node}
use Rattle.pb_diagram.specs.declared.tier.Tier.{Tier}
use Rattle.pb_diagram.specs.Guards.{Rung}
use Rattle.pb_diagram.specs.GuardedSteps.{claims_over, climbs_at, core_steps, count_nodes, guarded_over, head_order, ordered_steps, orders_end, root_steps}
use Rattle.pb_diagram.specs.inner.Parts.{nodes_from}
use Rattle.pb_diagram.specs.inner.Rungs.{risen, rungs}
use Rattle.pb_diagram.specs.inner.Tiers.{node_at, rung_in}

abbrev pub term_at : List Weighted → ℕ → Weighted
term_at ts i = slice_index_or ts i (record { coef = 0; lit = record { var = 0; positive = false } })

-- a level, by the next variable behind its own, and the ids of its nodes' constraints and of the next level's order
abbrev pub rung_at : List Weighted → List (List Node) → ℕ → ℕ → ℕ → ℕ → Rung
rung_at ts levels i after counts order = record {
  term = term_at ts i;
  nodes = nodes_from levels i;
  next = nodes_from levels (i + 1);
  var = after - length (nodes_from levels i);
  after = after;
  counts = counts;
  order = order;
}

-- ---- what the code has

abbrev pub terms_of : Guarded → List Weighted
terms_of g = weights g.terms.now

abbrev pub root_term : Guarded → Weighted
root_term g = term_at (terms_of g) 0

abbrev pub root_node : Guarded → Node
root_node g = node_at (nodes_from g.levels.now 0) 0

-- the terms and levels below the root
abbrev pub lower_terms : Guarded → List Weighted
lower_terms g = drop 1 (terms_of g)

abbrev pub lower : Guarded → List (List Node)
lower g = drop 1 g.levels.now

-- the first id of the orders, the next one behind them, and the last one's sum
abbrev pub orders_of : Guarded → ℕ
orders_of g = g.base + 2 * count_nodes (lower g)

abbrev pub sums_of : Guarded → ℕ
sums_of g = orders_end (orders_of g) (lower g)

abbrev pub held_of : Guarded → ℕ
held_of g = climbs_at (sums_of g) (lower g)

-- the levels from a place on, the last one first; on how many of them no sum is said; the first id of the first one's order, and the
-- next one behind all orders; and the first variable
pub record IsLadder (g : Guarded) (i : ℕ) (tiers : List Tier) (empty : ℕ) (first_order last : ℕ) (p : ℕ) : Type 0 where
  pub whole : map rung_in tiers ≡ rungs g.base (orders_of g) p (drop i (terms_of g)) (drop i g.levels.now)
  pub climbs : map rung_in (drop empty tiers) ≡ risen g.base (orders_of g) p (drop i (terms_of g)) (drop i g.levels.now)
  pub within : empty ≤ length tiers
  pub order : first_order ≡ head_order (orders_of g) (drop i g.levels.now)
  pub end : last ≡ orders_end (orders_of g) (drop i g.levels.now)
  pub var : p + count_nodes (drop i g.levels.now) ≡ g.first + g.fresh

abbrev pub IsLadderOf : Guarded → Ladder → Type 0
IsLadderOf g l = IsLadder g 1 l.tiers.items l.empty l.order l.end (g.first + 1)

-- ---- the steps

abbrev pub ordered_in : Guarded → List Step
ordered_in g = ordered_steps (root_term g) (lower_terms g) (root_node g) (lower g) g.first g.own g.base (orders_of g)

abbrev pub core_in : Guarded → List Step
core_in g = core_steps (root_term g) (lower_terms g) (root_node g) (lower g) g.first g.own g.base (orders_of g) (sums_of g)

abbrev pub root_in : Guarded → List Step
root_in g = root_steps (root_term g) (lower_terms g) (root_node g) (lower g) g.first g.own g.base (orders_of g) (held_of g)

abbrev pub claims_in : Guarded → List Claim
claims_in g = claims_over (root_term g) (lower_terms g) (root_node g) (lower g) g.first g.own g.base (orders_of g) (held_of g)

abbrev pub whole_in : Guarded → List Step
whole_in g = guarded_over (root_term g) (lower_terms g) (root_node g) (lower g) g.first g.own g.base
