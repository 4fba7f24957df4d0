-- The lines of the orders of all levels run, the last level first.
use Rattle.std.proofs.Common.{◌≡◌, ◌≤◌, ◌<◌, ◌+◌, ◌-◌, ◌*◌, ◌^◌, ℕ, List, [], ◌∷◌, length, subst, arith}
use Rattle.std.proofs.lemmas.List.Elements.{All-tail}
use Rattle.pb_norm.specs.Constraints.{Weighted}
use Rattle.pb_steps.specs.declared.step.Step.{Step}
use Rattle.pb_steps.specs.Database.{Database}
use Rattle.pb_derive.specs.Later.{Knows, IsNumbered}
use Rattle.pb_derive.proofs.Laters.{later_then}
use Rattle.pb_derive.proofs.Lines.{Added, added_none, added_then}
use Rattle.pb_diagram.specs.declared.node.Node.{Node}
use Rattle.pb_diagram.specs.Guards.{order_lines}
use Rattle.pb_diagram.specs.GuardedSteps.{first_nodes, count_nodes, orders_end, head_order, all_orders}
use Rattle.pb_diagram.specs.laws.NodesOver.{AreLevels, AreNarrow, first_narrow}
use Rattle.pb_diagram.specs.laws.NodeWorths.{IsOrdered, order_of}
use Rattle.pb_diagram.specs.laws.OrderRuns.{order_ran}
use Rattle.pb_diagram.specs.laws.RungFacts.{LevelsMeant, OrdersKnown, head_ordered, both_later, ordered_later, orders_later, beside_from, count-cons, first-count}

pub record OrdersRan (P : ℕ → Type 0) (db : Database) (steps : List Step) (orders p : ℕ) (levels : List (List Node)) : Type 0 where
  pub ids : ℕ
  pub added : Added P db steps ids
  pub at : added.ran.end.next ≡ orders_end orders levels
  pub known : OrdersKnown added.ran.end orders p levels

pub orders_ran : (P : ℕ → Type 0) (db : Database) (base orders p : ℕ) (ts : List Weighted) (levels : List (List Node)) → IsNumbered db → db.next ≡ orders → AreLevels ts levels → LevelsMeant db base p ts levels
    → p + count_nodes levels ≤ db.vars + 1 → AreNarrow levels → ((v : ℕ) → p ≤ v → v < p + count_nodes levels → P v) → OrdersRan P db (all_orders base p ts levels orders) orders p levels
orders_ran P db base orders p [] [] numbered at shape meant fits few named = record { ids = 0; added = added_none P db numbered; at = at; known = tt }
orders_ran P db base orders p [] (ns ∷ levels) numbered at shape meant fits few named = absurd shape
orders_ran P db base orders p (t ∷ ts) [] numbered at shape meant fits few named = absurd shape
orders_ran P db base orders p (t ∷ ts) (ns ∷ levels) numbered at shape meant fits few named =
    let all = count-cons ns levels in
    let q : ℕ = p + length ns in
    let next : List Node = first_nodes levels in
    let order : ℕ = head_order orders levels in
    let counts : ℕ = base + 2 * count_nodes levels in
    let rest = orders_ran P db base orders q ts levels numbered at shape.1 meant.1 (omega (arith, fits, all)) (All-tail (λ (ns : List Node). length ns < 2 ^ 20) ns levels few) (λ v from to. named v (omega (arith, from)) (omega (arith, to, all))) in
    let mid : Database = rest.added.ran.end in
    let grows = rest.added.ran.later in
    let few_next = first-count levels in
    let here = order_ran P order q (length next) t.lit p mid (orders_end orders levels) 0 counts ns grows.numbered rest.at (omega arith) (omega (arith, first_narrow levels (All-tail (λ (ns : List Node). length ns < 2 ^ 20) ns levels few))) (λ v from to. named v from (omega (arith, to, all)))
    (λ end later.
    let o : IsOrdered end order q (length next) = ordered_later P mid end later grows.numbered order q (length next) (head_ordered mid orders q levels rest.known) in
    let whole = later_then P db mid end grows later in
    (o, beside_from P end t.lit order q p t.coef next o (omega (arith, fits, all, few_next, whole.vars)) p 0 counts ns (omega arith) (both_later P db end whole numbered t.lit q p counts ns meant.0) shape.0.over shape.0.sorted)) in
    let end : Database = here.added.ran.end in
    let last = here.added.ran.later in
    record {
      ids = rest.ids + (length ns - 1);
      added = added_then P db (all_orders base q ts levels orders) (order_lines order q counts ns) rest.ids (length ns - 1) rest.added here.added;
      at = omega (arith, here.added.ran.next, rest.at);
      known = (
        (λ j id e less. subst (λ (k : ℕ). Knows end id (order_of p k)) (let same : 0 + j ≡ j = omega arith in same) (here.known j id e less)),
        orders_later P mid end last grows.numbered orders q levels rest.known,
      );
    }
