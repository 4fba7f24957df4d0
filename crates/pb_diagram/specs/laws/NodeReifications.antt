-- What the reifications of a diagram's nodes are by themselves, and by their places. It serves proofs alone.
use Rattle.std.proofs.Common.{◌≡◌, ◌≢◌, ◌≤◌, ◌<◌, ◌+◌, ◌-◌, ◌*◌, ℕ, zero, suc, List, [], ◌∷◌, length, get_or, refl, subst, arith, inl, inr, length-append}
use Rattle.std.specs.Prelude.{Contains, All}
use Rattle.std.specs.List.{position_or_len}
use Rattle.std.proofs.lemmas.Bool.{cases_lt}
use Rattle.std.proofs.lemmas.List.{length-map}
use Rattle.std.proofs.lemmas.List.Elements.{All-nil, All-cons, All-append, All-tail, All-map}
use Rattle.std.proofs.lemmas.List.Sums.{sum_by-cons}
use Rattle.pb_base.proofs.Members.{Contains-here, Contains-there}
use Rattle.pb_base.proofs.Pairs.{AllPairs-tail, AllPairs-map}
use Rattle.pb_norm.specs.Constraints.{Weighted, Constraint, weight}
use Rattle.pb_norm.specs.Reduction.{opposite}
use Rattle.pb_norm.proofs.AdditionSizes.{weight-cons}
use Rattle.pb_derive.specs.Reifications.{Reification, forward_of, reverse_of}
use Rattle.pb_derive.proofs.InRow.{AreInRow, row-append}
use Rattle.pb_derive.proofs.Justified.{ReificationsKnown, known_front, known_back, IsReached, IsSum}
use Rattle.pb_derive.proofs.Opposites.{weight-opposite}
use Rattle.pb_diagram.specs.declared.interval.Interval.{Interval}
use Rattle.pb_diagram.specs.Clauses.{head_level, node_count}
use Rattle.pb_diagram.specs.DiagramSteps.{node_reification, level_reifications, node_reifications}
use Rattle.pb_diagram.specs.Levels.{lies_in, levels_from}
use Rattle.pb_diagram.specs.laws.LevelFacts.{node_of}
use Rattle.pb_diagram.specs.inner.Links.{Child, Linked, AreLinked}

-- ---- nodes by their places

abbrev pub IsNodeAt : List Interval → ℕ → Interval → Type 0
IsNodeAt nodes p g = (p < length nodes) × (get_or nodes p g ≡ g)

pub child_at : (nodes : List Interval) (residue shift end : ℕ) (c : Child nodes residue shift end) → IsNodeAt nodes (position_or_len (lies_in residue) nodes) c.interval
child_at nodes residue shift end c = (c.within, c.is)

-- no interval ends above a number
abbrev pub AreWithin : ℕ → List Interval → Type 0
AreWithin whole nodes = (p : ℕ) (g : Interval) → IsNodeAt nodes p g → g.top ≤ whole

-- no interval of a level ends above the sum of the terms from there on
pub tops_within : (ts : List Weighted) (levels : List (List Interval)) → AreLinked ts levels → AreWithin (weight ts) (head_level levels)
tops_within [] [] linked p g at = absurd (omega (arith, at.0))
tops_within [] (nodes ∷ levels) linked p g at = absurd linked
tops_within (t ∷ ts) [] linked p g at = absurd linked
tops_within (t ∷ ts) (nodes ∷ levels) linked p g at =
    let links : Linked t.coef (weight ts) (head_level levels) g = subst (λ (h : Interval). Linked t.coef (weight ts) (head_level levels) h) at.1 (linked.0 p g at.0) in
    let sum = weight-cons t ts in
    elim (cases_lt g.low t.coef) as (λ _. g.top ≤ weight (t ∷ ts)) [
      | inl below ↦ let ends = links.full below in omega arith
      | inr above ↦
          let child = links.on above in
          let ends = child.ends in
          let top = tops_within ts levels linked.1 (position_or_len (lies_in (g.low - t.coef)) (head_level levels)) child.interval (child_at (head_level levels) (g.low - t.coef) t.coef g.top child) in
          omega arith
    ]

-- each node ends above its beginning
abbrev pub AreRising : List (List Interval) → Type 0
AreRising [] = Unit {0}
AreRising (nodes ∷ levels) = ((g : Interval) → Contains nodes g → g.low < g.top) × AreRising levels

pub levels_rise : (bound : ℕ) (before rest : List ℕ) → AreRising (levels_from bound before rest)
levels_rise bound before [] = tt
levels_rise bound before (a ∷ rest) = ((λ g h. (node_of bound before (a ∷ rest) g h).interval.rises), levels_rise bound (a ∷ before) rest)

-- ---- the reifications by their places

pub length-level : (var : ℕ) (ts : List Weighted) (gs : List Interval) → length (level_reifications var ts gs) ≡ length gs
length-level var ts [] = refl
length-level var ts (g ∷ gs) = let more = length-level (var + 1) ts gs in omega arith

pub length-nodes : (first : ℕ) (ts : List Weighted) (levels : List (List Interval)) → AreLinked ts levels → length (node_reifications first ts levels) ≡ node_count levels
length-nodes first [] [] linked = refl
length-nodes first [] (nodes ∷ levels) linked = absurd linked
length-nodes first (t ∷ ts) [] linked = absurd linked
length-nodes first (t ∷ ts) (nodes ∷ levels) linked =
    let here = level_reifications first (t ∷ ts) nodes in
    let later = node_reifications (first + length nodes) ts levels in
    omega (arith, length-append here later, length-level first (t ∷ ts) nodes, length-nodes (first + length nodes) ts levels linked.1, sum_by-cons (length {A = Interval}) nodes levels)

get_or-level : (var : ℕ) (ts : List Weighted) (gs : List Interval) (p v : ℕ) (g : Interval) → IsNodeAt gs p g → var + p ≡ v → get_or (level_reifications var ts gs) p (node_reification v ts g) ≡ node_reification v ts g
get_or-level var ts [] p v g at e = absurd (omega (arith, at.0))
get_or-level var ts (h ∷ gs) zero v g at e = let same : var ≡ v = omega arith in λ i. node_reification (same i) ts (at.1 i)
get_or-level var ts (h ∷ gs) (suc p) v g at e = get_or-level (var + 1) ts gs p v g (omega (arith, at.0), at.1) (omega arith)

-- what is known of the nodes of a level
abbrev pub LevelKnown : (ℕ → Constraint → Type 0) → ℕ → ℕ → List Weighted → List Interval → Type 0
LevelKnown K first id ts nodes = (p : ℕ) (g : Interval) → IsNodeAt nodes p g → K (id + 2 * p) (forward_of (node_reification (first + p) ts g)) × K (id + 2 * p + 1) (reverse_of (node_reification (first + p) ts g))

pub level_known : (K : ℕ → Constraint → Type 0) (first id : ℕ) (t : Weighted) (ts : List Weighted) (nodes : List Interval) (levels : List (List Interval)) → ReificationsKnown K id (node_reifications first (t ∷ ts) (nodes ∷ levels)) → LevelKnown K first id (t ∷ ts) nodes
level_known K first id t ts nodes levels known p g at =
    let here = level_reifications first (t ∷ ts) nodes in
    known_front K id here (node_reifications (first + length nodes) ts levels) known p (node_reification (first + p) (t ∷ ts) g)
    (record { within = omega (arith, at.0, length-level first (t ∷ ts) nodes); here = get_or-level first (t ∷ ts) nodes p (first + p) g at refl })

pub levels_known : (K : ℕ → Constraint → Type 0) (first id : ℕ) (t : Weighted) (ts : List Weighted) (nodes : List Interval) (levels : List (List Interval)) → ReificationsKnown K id (node_reifications first (t ∷ ts) (nodes ∷ levels)) → ReificationsKnown K (id + 2 * length nodes) (node_reifications (first + length nodes) ts levels)
levels_known K first id t ts nodes levels known = known_back K id (length nodes) (level_reifications first (t ∷ ts) nodes) (node_reifications (first + length nodes) ts levels) (length-level first (t ∷ ts) nodes) known

-- ---- they stand in a row

level_row : (var : ℕ) (ts : List Weighted) (gs : List Interval) → AreInRow var (level_reifications var ts gs)
level_row var ts [] = tt
level_row var ts (g ∷ gs) = (refl, level_row (var + 1) ts gs)

pub nodes_row : (first : ℕ) (ts : List Weighted) (levels : List (List Interval)) → AreInRow first (node_reifications first ts levels)
nodes_row first [] levels = tt
nodes_row first (t ∷ ts) [] = tt
nodes_row first (t ∷ ts) (nodes ∷ levels) =
    let e : first + length nodes ≡ first + length (level_reifications first (t ∷ ts) nodes) = omega (arith, length-level first (t ∷ ts) nodes) in
    row-append first (level_reifications first (t ∷ ts) nodes) (node_reifications (first + length nodes) ts levels) (level_row first (t ∷ ts) nodes)
    (subst (λ (n : ℕ). AreInRow n (node_reifications (first + length nodes) ts levels)) e (nodes_row (first + length nodes) ts levels))

-- ---- each can be reached

sum_tail : (low : ℕ) (t : Weighted) (ts : List Weighted) → IsSum low (t ∷ ts) → IsSum low ts
sum_tail low t ts h =
    let light = h.light in
    let sum = weight-cons t ts in
    record {
      below = All-tail (λ (u : Weighted). u.lit.var < low) t ts h.below;
      apart = AllPairs-tail (λ (u v : Weighted). u.lit.var ≢ v.lit.var) t ts h.apart;
      positive = All-tail (λ (u : Weighted). 0 < u.coef) t ts h.positive;
      light = omega arith;
    }

node_reached : (low var : ℕ) (ts : List Weighted) (g : Interval) → IsSum low ts → 1 ≤ g.top → g.top ≤ weight ts → IsReached low (node_reification var ts g)
node_reached low var ts g sum some top =
    let light = sum.light in
    let same = weight-opposite ts in
    record {
      below = All-map (λ (t : Weighted). t.lit.var < low) opposite ts sum.below;
      apart = AllPairs-map (λ (u v : Weighted). u.lit.var ≢ v.lit.var) (λ (u v : Weighted). u.lit.var ≢ v.lit.var) opposite (λ u v h. h) ts sum.apart;
      positive = All-map (λ (t : Weighted). 0 < t.coef) opposite ts sum.positive;
      some = omega arith;
      reached = omega arith;
      light = omega arith;
    }

-- ---- what holds of each

level_each : (Q : Reification → Type 0) (var : ℕ) (ts : List Weighted) (gs : List Interval) → ((v : ℕ) (g : Interval) → Contains gs g → Q (node_reification v ts g)) → All Q (level_reifications var ts gs)
level_each Q var ts [] each = All-nil Q
level_each Q var ts (g ∷ gs) each =
    All-cons Q (node_reification var ts g) (level_reifications (var + 1) ts gs) (each var g (Contains-here g gs)) (level_each Q (var + 1) ts gs (λ v h m. each v h (Contains-there g gs h m)))

-- by what holds of the terms and the levels from each level on
nodes_each : (Q : Reification → Type 0) (H : List Weighted → List (List Interval) → Type 0)
    → ((t : Weighted) (ts : List Weighted) (nodes : List Interval) (levels : List (List Interval)) → H (t ∷ ts) (nodes ∷ levels) → H ts levels × ((v : ℕ) (g : Interval) → Contains nodes g → Q (node_reification v (t ∷ ts) g)))
    → (first : ℕ) (ts : List Weighted) (levels : List (List Interval)) → H ts levels → All Q (node_reifications first ts levels)
nodes_each Q H step first [] levels h = All-nil Q
nodes_each Q H step first (t ∷ ts) [] h = All-nil Q
nodes_each Q H step first (t ∷ ts) (nodes ∷ levels) h =
    let next = step t ts nodes levels h in
    All-append Q (level_reifications first (t ∷ ts) nodes) (node_reifications (first + length nodes) ts levels) (level_each Q first (t ∷ ts) nodes next.1) (nodes_each Q H step (first + length nodes) ts levels next.0)

pub nodes_reached : (low first : ℕ) (ts : List Weighted) (levels : List (List Interval)) → AreLinked ts levels → AreRising levels → IsSum low ts → All (IsReached low) (node_reifications first ts levels)
nodes_reached low first ts levels linked rising sum =
    nodes_each (IsReached low) (λ us ls. AreLinked us ls × AreRising ls × IsSum low us)
    (λ t us nodes ls h. (
      (h.0.1, h.1.1, sum_tail low t us h.2),
      (λ v g m.
          let up = h.1.0 g m in
          node_reached low v (t ∷ us) g h.2 (omega arith) (tops_within (t ∷ us) (nodes ∷ ls) h.0 m.0 g (m.1, m.2))),
    ))
    first ts levels (linked, rising, sum)

-- what holds of each term holds of those of each reification
pub nodes_terms : (P : Weighted → Type 0) (first : ℕ) (ts : List Weighted) (levels : List (List Interval)) → All (λ t. P (opposite t)) ts → All (λ m. All P m.sum) (node_reifications first ts levels)
nodes_terms P first ts levels h =
    nodes_each (λ m. All P m.sum) (λ us ls. All (λ t. P (opposite t)) us) (λ t us nodes ls k. (All-tail (λ (u : Weighted). P (opposite u)) t us k, (λ v g m. All-map P opposite (t ∷ us) k))) first ts levels h

-- a reification's sum is of no more terms than the whole
pub nodes_few : (n first : ℕ) (ts : List Weighted) (levels : List (List Interval)) → length ts ≤ n → All (λ m. length m.sum ≤ n) (node_reifications first ts levels)
nodes_few n first ts levels h =
    nodes_each (λ m. length m.sum ≤ n) (λ us ls. length us ≤ n) (λ t us nodes ls k. (omega (arith, k), (λ v g m. omega (arith, length-map (t ∷ us) opposite, k)))) first ts levels h
