-- All lines of the guarded derivation can be said, and how long they are.
use Rattle.std.proofs.Common.{◌≡◌, ◌≤◌, ◌<◌, ◌+◌, ◌*◌, ◌^◌, ℕ, eqb, List, [], ◌∷◌, length, refl, arith}
use Rattle.std.specs.Prelude.{All, Option, None, Some}
use Rattle.std.proofs.Math.Nat.{mul-le-mul_right}
use Rattle.std.proofs.lemmas.Bool.{cond_both}
use Rattle.std.proofs.lemmas.List.Elements.{All-head, All-tail, All-weaker}
use Rattle.pb_base.specs.declared.literal.Lit.{Lit}
use Rattle.pb_norm.specs.Constraints.{Weighted, AllPositive, weight}
use Rattle.pb_norm.proofs.AdditionSizes.{weight-cons}
use Rattle.pb_steps.specs.Sayable.{IsVariable}
use Rattle.pb_derive.specs.Reifications.{Reification, reification_steps}
use Rattle.pb_derive.proofs.Fine.{AreFine, fine_within, fine_append, fine_reifications}
use Rattle.pb_derive.proofs.FineStages.{fine_none}
use Rattle.pb_derive.proofs.Sayable.{IsSlimReification}
use Rattle.pb_derive.proofs.SlimRows.{slim_terms}
use Rattle.pb_diagram.specs.declared.node.Node.{Node}
use Rattle.pb_diagram.specs.Guards.{child_terms, child_reification, order_lines, last_top, windows}
use Rattle.pb_diagram.specs.GuardedSteps.{first_nodes, count_nodes, all_reifications, head_order, all_orders}
use Rattle.pb_diagram.specs.laws.FineLines.{LevelFits, Tame, orders_fine}
use Rattle.pb_diagram.specs.laws.GuardSplit.{IsIn}
use Rattle.pb_diagram.specs.laws.GuardedCounts.{orders-few}
use Rattle.pb_diagram.specs.laws.LevelShape.{IsOver, children_weaker, children_both, tops-le_last}
use Rattle.pb_diagram.specs.laws.LevelWorths.{AreChildren}
use Rattle.pb_diagram.specs.laws.NodesAdded.{child_each, all_each}
use Rattle.pb_diagram.specs.laws.NodesOver.{AreLevels, ends_within}
use Rattle.pb_diagram.specs.laws.OrderLines.{child-weight, least-is, has-le}
use Rattle.pb_diagram.specs.laws.RungFacts.{off_in, on_in, count-cons, first-count, length-all}

-- ---- nodes

pub child_few : (l : Lit) (q : ℕ) (f t : Option ℕ) → length (child_terms l q f t) ≤ 3
child_few l q None None = omega arith
child_few l q None (Some t) = omega arith
child_few l q (Some f) None = omega arith
child_few l q (Some f) (Some t) = cond_both (eqb f t) _ _ (λ ts. length ts ≤ 3) (λ _. omega arith) (λ _. omega arith)

pub child_slim : (l : Lit) (q count p : ℕ) (n : Node) → IsVariable l.var → 1 ≤ q → q + count ≤ 2 ^ 31 → IsVariable p → IsIn count n.off → IsIn count n.on → IsSlimReification (child_reification l q p n)
child_slim l q count p n own from under mine fs ts = record {
  sum = slim_terms (child_terms l q n.off n.on) (omega (arith, child-weight l q n.off n.on, has-le n.off, has-le n.on)) (child_each l q count (λ t. IsVariable t.lit.var) n.off n.on fs ts own (λ j k within some. (omega (arith, from), omega (arith, within, under))));
  var = mine;
  light = omega (arith, child-weight l q n.off n.on, least-is n.off, has-le n.off, has-le n.on);
}

-- the sum's terms, and levels over its nodes, within the limits of lines
pub record AreLimited (p limit : ℕ) (ts : List Weighted) (levels : List (List Node)) : Type 0 where
  pub shape : AreLevels ts levels
  pub vars : All (λ t. IsVariable t.lit.var) ts
  pub light : weight ts ≤ 2 ^ 100
  pub positive : AllPositive ts
  pub below : All (λ t. t.lit.var < p) ts
  pub within : p + count_nodes levels ≤ limit
  pub under : limit ≤ 2 ^ 31
  pub from : 1 ≤ p
  pub narrow : All (λ ns. (length ns < 2 ^ 14) × (windows ns ≤ 255 * length ns)) levels

abbrev Narrow : List Node → Type 0
Narrow ns = (length ns < 2 ^ 14) × (windows ns ≤ 255 * length ns)

pub limited_tail : (p limit : ℕ) (t : Weighted) (ts : List Weighted) (ns : List Node) (levels : List (List Node)) → AreLimited p limit (t ∷ ts) (ns ∷ levels) → AreLimited (p + length ns) limit ts levels
limited_tail p limit t ts ns levels h = record {
  shape = h.shape.1;
  vars = All-tail (λ (u : Weighted). IsVariable u.lit.var) t ts h.vars;
  light = omega (arith, weight-cons t ts, h.light);
  positive = All-tail (λ (u : Weighted). 0 < u.coef) t ts h.positive;
  below = All-weaker (λ (u : Weighted). u.lit.var < p) (λ (u : Weighted). u.lit.var < p + length ns) (λ u k. omega (arith, k)) ts (All-tail (λ (u : Weighted). u.lit.var < p) t ts h.below);
  within = omega (arith, h.within, count-cons ns levels);
  under = h.under;
  from = omega (arith, h.from);
  narrow = All-tail Narrow ns levels h.narrow;
}

first_narrow : (levels : List (List Node)) → All Narrow levels → length (first_nodes levels) < 2 ^ 14
first_narrow [] h = omega arith
first_narrow (ns ∷ levels) h = (All-head Narrow ns levels h).0

pub nodes_fine : (most p limit next : ℕ) (ts : List Weighted) (levels : List (List Node)) → 400 ≤ most → AreLimited p limit ts levels → 1 ≤ next → next + 2 * count_nodes levels < 2 ^ 63 → AreFine most (556 * count_nodes levels) (reification_steps next (all_reifications p ts levels))
nodes_fine most p limit next ts levels room h from small =
    let ms : List Reification = all_reifications p ts levels in
    let size = length-all p ts levels h.shape in
    let V : Weighted → Type 0 = λ t. IsVariable t.lit.var in
    fine_within most most ((238 + 106 * 3) * length ms) (556 * count_nodes levels) (reification_steps next ms) (omega arith) (omega (arith, size))
    (fine_reifications most 3 next ms (omega (arith, room)) from (omega (arith, small, size))
    (all_each IsSlimReification V p limit p ts levels h.shape h.vars (omega arith) h.within (λ t q count v n own low to within fs gs. child_slim t.lit q count v n own (omega (arith, h.from, low, to)) (omega (arith, within, h.under)) (omega (arith, h.from, low), omega (arith, to, within, h.under)) fs gs))
    (all_each (λ m. length m.sum ≤ 3) V p limit p ts levels h.shape h.vars (omega arith) h.within (λ t q count v n own low to within fs gs. child_few t.lit q n.off n.on)))

-- ---- a level

module _ (p limit base orders : ℕ) (t : Weighted) (ts : List Weighted) (ns : List Node) (levels : List (List Node)) (h : AreLimited p limit (t ∷ ts) (ns ∷ levels)) (base_from : 1 ≤ base) (base_under : base + 2 * count_nodes (ns ∷ levels) < 2 ^ 63) (orders_from : 1 ≤ orders) (orders_under : orders + 2 * count_nodes (ns ∷ levels) < 2 ^ 63) where
  abbrev q : ℕ
  q = p + length ns

  abbrev next : List Node
  next = first_nodes levels

  all : count_nodes (ns ∷ levels) ≡ length ns + count_nodes levels
  all = count-cons ns levels

  few : length next ≤ count_nodes levels
  few = first-count levels

  own_var : IsVariable t.lit.var
  own_var = All-head (λ (u : Weighted). IsVariable u.lit.var) t ts h.vars

  order_bounds : (orders ≤ head_order orders levels) × (head_order orders levels ≤ orders + count_nodes levels)
  order_bounds = by_levels levels
    where
      by_levels : (ls : List (List Node)) → (orders ≤ head_order orders ls) × (head_order orders ls ≤ orders + count_nodes ls)
      by_levels [] = (omega arith, omega arith)
      by_levels (ms ∷ ls) = let b = orders-few orders ls in (b.0, omega (arith, b.1, count-cons ms ls))

  pub level_fits : LevelFits t.lit (p + length ns) (head_order orders levels) (length (first_nodes levels))
  level_fits = record {
    own = own_var;
    from = omega (arith, h.from);
    under = omega (arith, h.within, all, few, h.under);
    order_from = omega (arith, orders_from, order_bounds.0);
    order_under = omega (arith, orders_under, order_bounds.1, all, few);
  }

  ends : last_top ns ≤ 2 ^ 100
  ends = omega (arith, ends_within (t ∷ ts) (ns ∷ levels) h.shape, h.light)

  next_ends : last_top next ≤ 2 ^ 100
  next_ends = omega (arith, ends_within ts levels h.shape.1, weight-cons t ts, h.light)

  pub nodes_tame : AreChildren (Tame t.lit (p + length ns) (head_order orders levels) (length (first_nodes levels)) level_fits) ns
  nodes_tame = children_weaker (λ n. IsOver t.coef next n × (n.top ≤ last_top ns)) (Tame t.lit q (head_order orders levels) (length next) level_fits)
      (λ n k. ((off_in next n.top n.off k.0.off, on_in t.coef next n.top n.on k.0.on), omega (arith, k.1, ends))) ns
      (children_both (IsOver t.coef next) (λ n. n.top ≤ last_top ns) ns h.shape.0.over (tops-le_last 0 ns h.shape.0.up))

  pub next_low : AreChildren (λ n. n.top ≤ 2 ^ 100) (first_nodes levels)
  next_low = children_weaker (λ n. n.top ≤ last_top next) (λ n. n.top ≤ 2 ^ 100) (λ n k. omega (arith, k, next_ends)) next (tops-le_last 0 next h.shape.0.rise)

  -- its order
  pub order_level_fine : (most : ℕ) → 721096 ≤ most → AreFine most (721096 * length ns) (order_lines (head_order orders levels) (p + length ns) (base + 2 * count_nodes levels) ns)
  order_level_fine most room =
      let c : ℕ = length next in
      let narrow = first_narrow levels (All-tail Narrow ns levels h.narrow) in
      let most_each : 44 * c + 200 ≤ 721096 = omega (arith, narrow) in
      fine_within most most ((44 * c + 200) * length ns) (721096 * length ns) _ (omega arith) (mul-le-mul_right (length ns) most_each)
      (orders_fine t.lit q (head_order orders levels) c level_fits most (base + 2 * count_nodes levels) t.coef next ns refl (omega (arith, most_each, room)) (omega (arith, base_from)) (omega (arith, base_under, all)) h.shape.0.over)

-- ---- all orders

pub all_orders_fine : (most p limit base orders : ℕ) (ts : List Weighted) (levels : List (List Node)) → 721096 ≤ most → AreLimited p limit ts levels → 1 ≤ base → base + 2 * count_nodes levels < 2 ^ 63 → 1 ≤ orders → orders + 2 * count_nodes levels < 2 ^ 63
    → AreFine most (721096 * count_nodes levels) (all_orders base p ts levels orders)
all_orders_fine most p limit base orders [] [] room h b_from b_under o_from o_under = fine_within most most 0 (721096 * 0) [] (omega arith) (omega arith) (fine_none most)
all_orders_fine most p limit base orders [] (ns ∷ levels) room h b_from b_under o_from o_under = absurd h.shape
all_orders_fine most p limit base orders (t ∷ ts) [] room h b_from b_under o_from o_under = absurd h.shape
all_orders_fine most p limit base orders (t ∷ ts) (ns ∷ levels) room h b_from b_under o_from o_under =
    let all = count-cons ns levels in
    fine_within most most (721096 * count_nodes levels + 721096 * length ns) (721096 * count_nodes (ns ∷ levels)) (all_orders base p (t ∷ ts) (ns ∷ levels) orders) (omega arith) (omega (arith, all))
    (fine_append most (721096 * count_nodes levels) (721096 * length ns) (all_orders base (p + length ns) ts levels orders) (order_lines (head_order orders levels) (p + length ns) (base + 2 * count_nodes levels) ns)
    (all_orders_fine most (p + length ns) limit base orders ts levels room (limited_tail p limit t ts ns levels h) b_from (omega (arith, b_under, all)) o_from (omega (arith, o_under, all)))
    (order_level_fine p limit base orders t ts ns levels h b_from b_under o_from o_under most room))
