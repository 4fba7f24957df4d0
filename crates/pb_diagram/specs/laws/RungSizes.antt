-- The numbers in a level's lines have room, where its nodes are fewer than 2^20 and end below 2^100.
use Rattle.std.proofs.Common.{◌≡◌, ◌≢◌, ◌≤◌, ◌<◌, ◌+◌, ◌-◌, ◌*◌, ◌^◌, ℕ, suc, List, [], ◌∷◌, length, map, arith}
use Rattle.std.specs.Prelude.{min, max}
use Rattle.std.proofs.Math.Nat.{mul-le-mul_left, mul-le-mul_right}
use Rattle.std.proofs.lemmas.List.Sums.{sum_by-append}
use Rattle.pb_norm.specs.Constraints.{Weighted, weight}
use Rattle.pb_norm.proofs.AdditionSizes.{weight-cons}
use Rattle.pb_norm.specs.Reduction.{opposite}
use Rattle.pb_steps.specs.Database.{Database}
use Rattle.pb_derive.specs.Later.{Knows}
use Rattle.pb_derive.specs.Reifications.{spare, forward_of, reverse_of}
use Rattle.pb_derive.proofs.Opposites.{weight-opposite}
use Rattle.pb_family.specs.Fresh.{positive_of}
use Rattle.pb_diagram.specs.declared.node.Node.{Node}
use Rattle.pb_diagram.specs.Guards.{Rung, weighing, missed_of, rises, guard, own_of, last_top, off_of, on_of, reach_by}
use Rattle.pb_diagram.specs.laws.ClimbLines.{climb_of, climb_size}
use Rattle.pb_diagram.specs.laws.GuardSplit.{IsRung, split_size}
use Rattle.pb_diagram.specs.laws.GuardReification.{guard_weight}
use Rattle.pb_diagram.specs.laws.LevelShape.{tops-le_last}
use Rattle.pb_diagram.specs.laws.LevelWorths.{climbed, place_degree, on_size, AreChildren}
use Rattle.pb_diagram.specs.laws.RungLines.{rises-weight}
use Rattle.pb_diagram.specs.laws.StepSums.{AreUp}

place_degree-le : (reach : ℕ → ℕ) (k j : ℕ) (ns : List Node) → AreChildren (λ n. n.top ≤ k) ns → place_degree reach j ns ≤ length ns * k
place_degree-le reach k j [] h = omega arith
place_degree-le reach k j (n ∷ ns) h =
    let more : length (n ∷ ns) * k ≡ length ns * k + k = omega arith in
    omega (arith, h.0, more, place_degree-le reach k (suc j) ns h.1)

on_size-le : (one own low : ℕ) (ns : List Node) → 1 ≤ one → on_size one own low ns ≤ climbed low ns * one
on_size-le one own low [] some = omega arith
on_size-le one own low (n ∷ ns) some =
    let c : ℕ = min n.top own - low in
    let k : ℕ = n.top - max own low in
    let whole : ((n.top - low) * 1 + climbed n.top ns) * one ≡ (n.top - low) * one + climbed n.top ns * one = one_and (n.top - low) (climbed n.top ns) one in
    let parts : c * one + k * one ≤ (n.top - low) * one = two_and c k (n.top - low) one (omega arith) in
    let little : c * 1 ≤ c * one = mul-le-mul_left c some in
    omega (arith, whole, parts, little, on_size-le one own n.top ns some)
  where
    one_and : (i j k : ℕ) → (i * 1 + j) * k ≡ i * k + j * k
    one_and i j k = grind arith

    two_and : (i j m k : ℕ) → i + j ≤ m → i * k + j * k ≤ m * k
    two_and i j m k le =
        let whole : (i + j) * k ≡ i * k + j * k = split i j k in
        let more : (i + j) * k ≤ m * k = mul-le-mul_right k le in
        omega (arith, whole, more)
      where
        split : (i j k : ℕ) → (i + j) * k ≡ i * k + j * k
        split i j k = grind arith

-- some numbers below limits
product-le : (i j m k : ℕ) → i ≤ m → j ≤ k → i * j ≤ m * k
product-le i j m k le lesser = let one : i * j ≤ m * j = mul-le-mul_right j le in let two : m * j ≤ m * k = mul-le-mul_left m lesser in omega (arith, one, two)

-- a level's ends and how many nodes there are
pub record IsModest (r : Rung) : Type 0 where
  pub ends : last_top r.nodes ≤ 2 ^ 100
  pub next_ends : last_top r.next ≤ 2 ^ 100
  pub next_few : length r.next < 2 ^ 20

module _ (r : Rung) (modest : IsModest r) (up : AreUp 0 r.nodes) (rise : AreUp 0 r.next) (top : last_top r.nodes ≡ climbed 0 r.nodes) where
  abbrev count : ℕ
  count = length r.next

  places-le : (reach : ℕ → ℕ) → place_degree reach 0 r.next ≤ 2 ^ 20 * 2 ^ 100
  places-le reach =
      let each = place_degree-le reach (last_top r.next) 0 r.next (tops-le_last 0 r.next rise) in
      omega (arith, each, product-le count (last_top r.next) (2 ^ 20) (2 ^ 100) (omega (arith, modest.next_few)) modest.next_ends)

  ons-le : on_size (10 + 6 * count) (own_of r) 0 r.nodes ≤ 2 ^ 100 * (2 ^ 23)
  ons-le =
      let each = on_size-le (10 + 6 * count) (own_of r) 0 r.nodes (omega arith) in
      omega (arith, each, product-le (climbed 0 r.nodes) (10 + 6 * count) (2 ^ 100) (2 ^ 23) (omega (arith, top, modest.ends)) (omega (arith, modest.next_few)))

  -- both of a level's long sums by what is begun with
  pub sums_small : (bytes : ℕ) → bytes ≤ 2 ^ 104 → bytes + 9 * climbed 0 r.nodes + 3 * place_degree (reach_by off_of r.nodes) 0 r.next + 1 + (bytes + on_size (10 + 6 * length r.next) (own_of r) 0 r.nodes + 3 * place_degree (λ j. reach_by on_of r.nodes j - own_of r) 0 r.next) < 2 ^ 126
  sums_small bytes little =
      omega (arith, little, top, modest.ends, places-le (reach_by off_of r.nodes), places-le (λ j. reach_by on_of r.nodes j - own_of r), ons-le)

module _ (db : Database) (r : Rung) (v id : ℕ) (here : IsRung db r) (first : v < r.var) (other : v ≢ r.term.lit.var) (modest : IsModest r) where
  abbrev sum : List Weighted
  sum = (guard v r).sum

  sum-weight : weight sum ≡ own_of r + climbed 0 r.next + climbed 0 r.nodes
  sum-weight = guard_weight v r first other here.low here.high here.up here.rise

  reverse-weight : weight (reverse_of (guard v r)).terms ≡ spare (guard v r) + weight sum
  reverse-weight = omega (arith, weight-cons (weighing (spare (guard v r)) (positive_of v)) (map opposite sum), weight-opposite sum)

  pub split_small : (known : Knows db id (reverse_of (guard v r))) → split_size db r v id here first other known < 2 ^ 126
  split_small known =
      sums_small r modest here.up here.rise here.top (weight (reverse_of (guard v r)).terms + (reverse_of (guard v r)).degree) (omega (arith, reverse-weight, sum-weight, here.top, here.last, modest.ends, modest.next_ends))

  forward-weight : weight (forward_of (guard v r)).terms ≡ last_top r.nodes + weight sum
  forward-weight = weight-cons (weighing (last_top r.nodes) (missed_of v)) sum

  pub climb_small : (forward unit before : ℕ) (ts : List Weighted) → r.term.coef + weight ts ≤ 2 ^ 100 → climb_size db r v forward unit before ts here first other < 2 ^ 126
  climb_small forward unit before ts light =
      let rest : weight (climb_of ts r.after r.next).terms ≡ weight ts + climbed 0 r.next = omega (arith, sum_by-append (λ (t : Weighted). t.coef) ts (rises positive_of r.after 0 r.next), rises-weight positive_of r.after 0 r.next) in
      omega (arith, forward-weight, sum-weight, rest, here.top, here.last, modest.ends, modest.next_ends, light)
