-- How many lines the guarded derivation has.
use Rattle.std.proofs.Common.{◌≡◌, ◌≤◌, ◌+◌, ◌-◌, ◌*◌, ℕ, List, [], ◌∷◌, ◌++◌, length, refl, ap, arith, length-append}
use Rattle.std.proofs.lemmas.List.{length-map}
use Rattle.std.proofs.lemmas.List.Sums.{sum_by-cons}
use Rattle.pb_norm.specs.Constraints.{Weighted, weight}
use Rattle.pb_norm.specs.BoundedSums.{BoundedSum, IsProper}
use Rattle.pb_steps.specs.declared.step.Step.{Step}
use Rattle.pb_derive.specs.Claims.{Claim, claim_steps}
use Rattle.pb_derive.specs.Deletions.{deletion_steps}
use Rattle.pb_derive.specs.Reifications.{Reification, reification_steps}
use Rattle.pb_derive.proofs.Phases.{length-reifications, length-claims, length-deletions}
use Rattle.pb_diagram.specs.declared.interval.Interval.{Interval}
use Rattle.pb_diagram.specs.Clauses.{head_level, node_count, clause_count_over, diagram_fresh, diagram_size}
use Rattle.pb_diagram.specs.declared.node.Node.{Node}
use Rattle.pb_diagram.specs.Guards.{Rung, child_reification, order_lines, rung_steps}
use Rattle.pb_diagram.specs.GuardedSteps.{node_in, nodes_in, count_nodes, all_reifications, orders_end, head_order, all_orders, climbs_at, rung_of, sums_steps, claims_over, root_steps, core_steps, ordered_steps, guarded_over, guarded_by, guarded_steps}
use Rattle.pb_diagram.specs.Levels.{coefs_of, levels_of}
use Rattle.pb_diagram.specs.inner.Links.{AreLinked, IsRootNode}
use Rattle.pb_diagram.specs.laws.DiagramLaws.{linked}
use Rattle.pb_diagram.specs.laws.GuardedClauses.{count-nodes}
use Rattle.pb_diagram.specs.laws.GuardedDerives.{linked-length, claims-clauses}
use Rattle.pb_diagram.specs.laws.LevelFacts.{levels_root}
use Rattle.pb_diagram.specs.laws.LinkedCounts.{linked_counts}
use Rattle.pb_diagram.specs.laws.NodesOver.{AreLevels, AreStanding, levels_stand, nodes_levels}
use Rattle.pb_diagram.specs.laws.RungFacts.{count-cons, length-all}

order-lines : (order q counts : ℕ) (ns : List Node) → length (order_lines order q counts ns) ≡ length ns - 1
order-lines order q counts [] = refl
order-lines order q counts (n ∷ []) = refl
order-lines order q counts (n ∷ m ∷ ns) = omega (arith, order-lines order q (counts + 2) (m ∷ ns))

pub all-orders : (base p : ℕ) (ts : List Weighted) (levels : List (List Node)) (next : ℕ) → AreLevels ts levels → length (all_orders base p ts levels next) + next ≡ orders_end next levels
all-orders base p [] [] next h = omega arith
all-orders base p [] (ns ∷ levels) next h = absurd h
all-orders base p (t ∷ ts) [] next h = absurd h
all-orders base p (t ∷ ts) (ns ∷ levels) next h =
    let q : ℕ = p + length ns in
    let order : ℕ = head_order next levels in
    let counts : ℕ = base + 2 * count_nodes levels in
    omega (arith, length-append (all_orders base q ts levels next) (order_lines order q counts ns), order-lines order q counts ns, all-orders base q ts levels next h.1)

pub orders-few : (next : ℕ) (levels : List (List Node)) → (next ≤ orders_end next levels) × (orders_end next levels ≤ next + count_nodes levels)
orders-few next [] = (omega arith, omega arith)
orders-few next (ns ∷ levels) = let rest = orders-few next levels in (omega (arith, rest.0), omega (arith, rest.1, count-cons ns levels))

pub climbs-few : (next : ℕ) (levels : List (List Node)) → (next ≤ climbs_at next levels) × (climbs_at next levels ≤ next + 4 * count_nodes levels)
climbs-few next [] = (omega arith, omega arith)
climbs-few next ([] ∷ levels) = (omega arith, omega arith)
climbs-few next ((n ∷ ns) ∷ levels) = let rest = climbs-few next levels in (omega (arith, rest.0), omega (arith, rest.1, count-cons (n ∷ ns) levels))

sums-lines : (v base orders p : ℕ) (ts : List Weighted) (levels : List (List Node)) (next : ℕ) → length (sums_steps v base orders p ts levels next) ≤ 1 + 5 * count_nodes levels
sums-lines v base orders p [] levels next = omega arith
sums-lines v base orders p (t ∷ ts) [] next = omega arith
sums-lines v base orders p (t ∷ ts) ([] ∷ levels) next = omega arith
sums-lines v base orders p (t ∷ ts) ((n ∷ ns) ∷ levels) next =
    let q : ℕ = p + length (n ∷ ns) in
    let r : Rung = rung_of t (n ∷ ns) levels p base orders in
    let held : ℕ = climbs_at next levels in
    let five : length (rung_steps v r held) ≡ 5 = refl in
    omega (arith, length-append (sums_steps v base orders q ts levels next) (rung_steps v r held), five, sums-lines v base orders q ts levels next, count-cons (n ∷ ns) levels)

pub over-lines : (t : Weighted) (ts : List Weighted) (n : Node) (levels : List (List Node)) (first own next claims : ℕ) → AreLevels ts levels
    → length (claims_over t ts n levels first own next (next + 2 * count_nodes levels) (climbs_at (orders_end (next + 2 * count_nodes levels) levels) levels)) ≡ claims
    → length (guarded_over t ts n levels first own next) ≤ 10 * count_nodes levels + 2 * claims + 4
over-lines t ts n levels first own next claims shape count =
    let c : ℕ = count_nodes levels in
    let orders : ℕ = next + 2 * c in
    let sums : ℕ = orders_end orders levels in
    let held : ℕ = climbs_at sums levels in
    let ms : List Reification = all_reifications (first + 1) ts levels in
    let cs : List Claim = claims_over t ts n levels first own next orders held in
    let climbs : List Step = sums_steps first next orders (first + 1) ts levels sums in
    let root : List Step = root_steps t ts n levels first own next orders held in
    let reds : List Step = reification_steps (held + 1) (child_reification t.lit (first + 1) first n ∷ []) in
    let last : List Step = claim_steps (held + 3) cs ++ deletion_steps 3 held 1 in
    let core : List Step = core_steps t ts n levels first own next orders sums in
    let all : List Step = all_orders next (first + 1) ts levels orders in
    let ordered : List Step = ordered_steps t ts n levels first own next orders in
    omega (
      arith,
      length-append (reification_steps next ms) (ordered ++ deletion_steps 2 next c),
      length-append ordered (deletion_steps 2 next c),
      length-append all (core ++ deletion_steps 1 orders (sums - orders)),
      length-append core (deletion_steps 1 orders (sums - orders)),
      length-append climbs root,
      length-append reds last,
      length-append (claim_steps (held + 3) cs) (deletion_steps 3 held 1),
      length-reifications next ms,
      length-all (first + 1) ts levels shape,
      length-reifications (held + 1) (child_reification t.lit (first + 1) first n ∷ []),
      length-claims (held + 3) cs,
      length-deletions 3 held 1,
      length-deletions 1 orders (sums - orders),
      length-deletions 2 next c,
      all-orders next (first + 1) ts levels orders shape,
      (orders-few orders levels).1,
      sums-lines first next orders (first + 1) ts levels sums,
      count,
    )

lines_by : (ts : List Weighted) (levels : List (List Interval)) (bound first own next : ℕ) → AreLinked ts levels → AreStanding levels → IsRootNode bound levels → length (guarded_by ts (nodes_in ts levels) first own next) ≤ 8 * (node_count levels + clause_count_over ts levels)
lines_by [] levels bound first own next links stands root = omega arith
lines_by (t ∷ ts) [] bound first own next links stands root = omega arith
lines_by (t ∷ ts) ([] ∷ levels) bound first own next links stands root = omega arith
lines_by (t ∷ ts) ((g ∷ k ∷ gs) ∷ levels) bound first own next links stands root = absurd (omega (arith, ap length root.is))
lines_by (t ∷ ts) ((g ∷ []) ∷ levels) bound first own next links stands root =
    let n : Node = node_in t.coef (weight ts) (head_level levels) g in
    let below : List (List Node) = nodes_in ts levels in
    let orders : ℕ = next + 2 * count_nodes below in
    let held : ℕ = climbs_at (orders_end orders below) below in
    let cs : List Claim = claims_over t ts n below first own next orders held in
    let count : node_count ((g ∷ []) ∷ levels) ≡ 1 + count_nodes below = omega (arith, sum_by-cons (length {A = Interval}) (g ∷ []) levels, count-nodes ts levels (linked-length ts levels links.1)) in
    let claims : length cs ≡ clause_count_over (t ∷ ts) ((g ∷ []) ∷ levels) =
    omega (arith, length-map cs (λ (c : Claim). c.clause), ap length (claims-clauses t ts g levels first own next orders held), linked_counts (t ∷ ts) ((g ∷ []) ∷ levels) links first) in
    omega (arith, over-lines t ts n below first own next (length cs) (nodes_levels ts levels links.1 stands.1) refl, claims, count)

-- at most eight for each fresh variable and each clause
pub guarded_lines : (m : BoundedSum) → IsProper m → (first own next : ℕ) → length (guarded_steps m first own next) ≤ 8 * (diagram_fresh m + diagram_size m)
guarded_lines m proper first own next = lines_by m.terms (levels_of m) m.bound first own next (linked m) (levels_stand m.bound [] (coefs_of m.terms)) (levels_root m.bound m.terms proper.heavy)
