-- The nodes of an interval diagram with their children: each level is one over the next.
use Rattle.std.proofs.Common.{◌≡◌, ◌≤◌, ◌<◌, ◌-◌, ◌^◌, ℕ, zero, suc, Bool, true, false, cond, leb, ltb, List, [], ◌∷◌, length, map, get_or, refl, ap, ◌∙◌, arith, inl, inr}
use Rattle.std.specs.Prelude.{All, Contains, Option, None, Some}
use Rattle.std.specs.List.{position_or_len}
use Rattle.std.proofs.lemmas.Bool.{cases_lt, leb-true, leb-false, ltb-true, ltb-false}
use Rattle.std.proofs.lemmas.List.{length-map}
use Rattle.std.proofs.lemmas.List.Elements.{All-head, All-tail, Contains-get_or}
use Rattle.std.proofs.lemmas.List.Sums.{passes_at_first}
use Rattle.pb_base.proofs.Members.{Contains-here, Contains-there}
use Rattle.pb_norm.specs.Constraints.{Weighted, weight}
use Rattle.pb_norm.proofs.AdditionSizes.{weight-cons}
use Rattle.pb_diagram.specs.declared.interval.Interval.{Interval}
use Rattle.pb_diagram.specs.Clauses.{head_level}
use Rattle.pb_diagram.specs.declared.node.Node.{Node}
use Rattle.pb_diagram.specs.Guards.{last_top}
use Rattle.pb_diagram.specs.GuardedSteps.{node_in, nodes_in, first_nodes}
use Rattle.pb_diagram.specs.Intervals.{AreApart}
use Rattle.pb_diagram.specs.Levels.{lies_in, levels_from}
use Rattle.pb_diagram.specs.inner.Links.{HasPlace, Linked, AreLinked, StandApart}
use Rattle.pb_diagram.specs.laws.LevelFacts.{lies_in_true, level_apart, node_of}
use Rattle.pb_diagram.specs.laws.LevelShape.{top_at, OffOver, OnOver, NotBehind, IsOver, OffLe, OnLe, IsBefore, AreSorted, IsLevel, level-covered}
use Rattle.pb_diagram.specs.laws.LevelWorths.{AreChildren}
use Rattle.pb_diagram.specs.laws.StepSums.{AreUp}

-- ---- where a residue is looked for

-- an earlier node ends before a later one begins
pub apart_at : (nodes : List Interval) (i j : ℕ) (d : Interval) → AreApart nodes → i < j → j < length nodes → (get_or nodes i d).top ≤ (get_or nodes j d).low
apart_at [] i j d apart below within = absurd (omega (arith, within))
apart_at (g ∷ gs) i zero d apart below within = absurd (omega (arith, below))
apart_at (g ∷ gs) zero (suc j) d apart below within = apart.0 (get_or gs j d) (Contains-get_or gs j d (omega (arith, within)))
apart_at (g ∷ gs) (suc i) (suc j) d apart below within = apart_at gs i j d apart.1 (omega (arith, below)) (omega (arith, within))

-- a greater residue is not before a smaller one
place_up : (nodes : List Interval) → AreApart nodes → (r s : ℕ) → r ≤ s → HasPlace nodes r → HasPlace nodes s → position_or_len (lies_in r) nodes ≤ position_or_len (lies_in s) nodes
place_up nodes apart r s le here there =
    let i : ℕ = position_or_len (lies_in r) nodes in
    let j : ℕ = position_or_len (lies_in s) nodes in
    let d : Interval = record { low = 0; top = 0 } in
    elim (cases_lt j i) as (λ _. i ≤ j) [
      | inl before ↦
          let of_r = lies_in_true r (get_or nodes i d) (passes_at_first (lies_in r) nodes d here) in
          let of_s = lies_in_true s (get_or nodes j d) (passes_at_first (lies_in s) nodes d there) in
          absurd (omega (arith, apart_at nodes j i d apart before here, of_r.0, of_s.1, le))
      | inr after ↦ after
    ]

-- ---- a node, and a later one

module _ (a whole : ℕ) (gs : List Interval) (next : List Node) (count : length next ≡ length gs) (tops : (p : ℕ) (c : Interval) → p < length gs → get_or gs p c ≡ c → top_at next p ≡ c.top) (apart : AreApart gs) where
  abbrev off_of : Bool → ℕ → Option ℕ
  off_of b low = cond {A = Option ℕ} b None (Some (position_or_len (lies_in low) gs))

  abbrev on_of : Bool → ℕ → Option ℕ
  on_of b low = cond {A = Option ℕ} b None (Some (position_or_len (lies_in (low - a)) gs))

  node_over : (g : Interval) → Linked a whole gs g → IsOver a next (node_in a whole gs g)
  node_over g linked = record { off = off_over (leb whole g.low) refl; on = on_over (ltb g.low a) refl; pair = pair_over (leb whole g.low) (ltb g.low a) refl refl }
    where
      off_over : (b : Bool) → leb whole g.low ≡ b → OffOver next g.top (off_of b g.low)
      off_over true e = tt
      off_over false e =
          let c = linked.off (leb-false whole g.low e) in
          (omega (arith, c.within, count), omega (arith, c.ends, tops (position_or_len (lies_in g.low) gs) c.interval c.within c.is))

      on_over : (b : Bool) → ltb g.low a ≡ b → OnOver a next g.top (on_of b g.low)
      on_over true e = linked.full (ltb-true g.low a e)
      on_over false e =
          let c = linked.on (ltb-false g.low a e) in
          (omega (arith, c.within, count), omega (arith, c.ends, tops (position_or_len (lies_in (g.low - a)) gs) c.interval c.within c.is))

      pair_over : (b c : Bool) → leb whole g.low ≡ b → ltb g.low a ≡ c → NotBehind (off_of b g.low) (on_of c g.low)
      pair_over true c e f = tt
      pair_over false true e f = tt
      pair_over false false e f = place_up gs apart (g.low - a) g.low (omega arith) (linked.on (ltb-false g.low a f)).within (linked.off (leb-false whole g.low e)).within

  node_before : (g h : Interval) → Linked a whole gs g → Linked a whole gs h → g.low ≤ h.low → IsBefore (node_in a whole gs g) (node_in a whole gs h)
  node_before g h one other le = record { off = offs (leb whole g.low) (leb whole h.low) refl refl; on = ons (ltb g.low a) (ltb h.low a) refl refl }
    where
      offs : (b c : Bool) → leb whole g.low ≡ b → leb whole h.low ≡ c → OffLe (off_of b g.low) (off_of c h.low)
      offs true true e f = tt
      offs true false e f = absurd (omega (arith, leb-true whole g.low e, leb-false whole h.low f, le))
      offs false true e f = tt
      offs false false e f = place_up gs apart g.low h.low le (one.off (leb-false whole g.low e)).within (other.off (leb-false whole h.low f)).within

      ons : (b c : Bool) → ltb g.low a ≡ b → ltb h.low a ≡ c → OnLe (on_of b g.low) (on_of c h.low)
      ons true true e f = tt
      ons true false e f = tt
      ons false true e f = absurd (omega (arith, ltb-false g.low a e, ltb-true h.low a f, le))
      ons false false e f = place_up gs apart (g.low - a) (h.low - a) (omega (arith, le)) (one.on (ltb-false g.low a e)).within (other.on (ltb-false h.low a f)).within

  nodes_over : (hs : List Interval) → All (Linked a whole gs) hs → AreChildren (IsOver a next) (map (node_in a whole gs) hs)
  nodes_over [] linked = tt
  nodes_over (h ∷ hs) linked = (node_over h (All-head (Linked a whole gs) h hs linked), nodes_over hs (All-tail (Linked a whole gs) h hs linked))

  nodes_before : (g : Interval) → Linked a whole gs g → (hs : List Interval) → ((h : Interval) → Contains hs h → g.low ≤ h.low) → All (Linked a whole gs) hs → AreChildren (IsBefore (node_in a whole gs g)) (map (node_in a whole gs) hs)
  nodes_before g one [] low linked = tt
  nodes_before g one (h ∷ hs) low linked = (
    node_before g h one (All-head (Linked a whole gs) h hs linked) (low h (Contains-here h hs)),
    nodes_before g one hs (λ k m. low k (Contains-there h hs k m)) (All-tail (Linked a whole gs) h hs linked),
  )

  nodes_sorted : (hs : List Interval) → AreApart hs → ((h : Interval) → Contains hs h → h.low < h.top) → All (Linked a whole gs) hs → AreSorted (map (node_in a whole gs) hs)
  nodes_sorted [] apart_hs rise linked = tt
  nodes_sorted (h ∷ hs) apart_hs rise linked =
      let up = rise h (Contains-here h hs) in (
        nodes_before h (All-head (Linked a whole gs) h hs linked) hs (λ k m. omega (arith, up, apart_hs.0 k m)) (All-tail (Linked a whole gs) h hs linked),
        nodes_sorted hs apart_hs.1 (λ k m. rise k (Contains-there h hs k m)) (All-tail (Linked a whole gs) h hs linked),
      )

-- ---- their ends

nodes_up : (f : Interval → Node) → ((g : Interval) → (f g).top ≡ g.top) → (low : ℕ) (hs : List Interval) → AreApart hs → ((h : Interval) → Contains hs h → h.low < h.top) → ((h : Interval) → Contains hs h → low ≤ h.low) → AreUp low (map f hs)
nodes_up f same low [] apart rise least = tt
nodes_up f same low (h ∷ hs) apart rise least =
    let here = Contains-here h hs in (
      omega (arith, same h, least h here, rise h here),
      nodes_up f same (f h).top hs apart.1 (λ k m. rise k (Contains-there h hs k m)) (λ k m. omega (arith, same h, apart.0 k m)),
    )

top_map : (f : Interval → Node) → ((g : Interval) → (f g).top ≡ g.top) → (hs : List Interval) (p : ℕ) (c : Interval) → p < length hs → get_or hs p c ≡ c → top_at (map f hs) p ≡ c.top
top_map f same [] p c within is = absurd (omega (arith, within))
top_map f same (h ∷ hs) zero c within is = same h ∙ ap (λ (g : Interval). g.top) is
top_map f same (h ∷ hs) (suc p) c within is = top_map f same hs p c (omega (arith, within)) is

-- ---- all levels

abbrev pub AreStanding : List (List Interval) → Type 0
AreStanding [] = Unit {0}
AreStanding (gs ∷ levels) = StandApart gs × AreStanding levels

pub levels_stand : (bound : ℕ) (before rest : List ℕ) → AreStanding (levels_from bound before rest)
levels_stand bound before [] = tt
levels_stand bound before (a ∷ rest) = (record { apart = level_apart bound before (a ∷ rest); rise = λ g h. (node_of bound before (a ∷ rest) g h).interval.rises }, levels_stand bound (a ∷ before) rest)

head_stands : (levels : List (List Interval)) → AreStanding levels → AreApart (head_level levels)
head_stands [] h = tt
head_stands (gs ∷ levels) h = h.0.apart

pub next_count : (ts : List Weighted) (levels : List (List Interval)) → AreLinked ts levels → length (first_nodes (nodes_in ts levels)) ≡ length (head_level levels)
next_count [] [] linked = refl
next_count [] (gs ∷ levels) linked = absurd linked
next_count (t ∷ ts) [] linked = absurd linked
next_count (t ∷ ts) (gs ∷ levels) linked = length-map gs (node_in t.coef (weight ts) (head_level levels))

next_tops : (ts : List Weighted) (levels : List (List Interval)) → AreLinked ts levels → (p : ℕ) (c : Interval) → p < length (head_level levels) → get_or (head_level levels) p c ≡ c → top_at (first_nodes (nodes_in ts levels)) p ≡ c.top
next_tops [] [] linked p c within is = absurd (omega (arith, within))
next_tops [] (gs ∷ levels) linked p c within is = absurd linked
next_tops (t ∷ ts) [] linked p c within is = absurd linked
next_tops (t ∷ ts) (gs ∷ levels) linked p c within is = top_map (node_in t.coef (weight ts) (head_level levels)) (λ g. refl) gs p c within is

next_up : (ts : List Weighted) (levels : List (List Interval)) → AreStanding levels → AreUp 0 (first_nodes (nodes_in ts levels))
next_up [] levels h = tt
next_up (t ∷ ts) [] h = tt
next_up (t ∷ ts) (gs ∷ levels) h = nodes_up (node_in t.coef (weight ts) (head_level levels)) (λ g. refl) 0 gs h.0.apart h.0.rise (λ k m. omega arith)

-- each is one over the next
abbrev pub AreLevels : List Weighted → List (List Node) → Type 0
AreLevels [] [] = Unit {0}
AreLevels [] (ns ∷ levels) = ⊥
AreLevels (t ∷ ts) [] = ⊥
AreLevels (t ∷ ts) (ns ∷ levels) = IsLevel t.coef ns (first_nodes levels) × AreLevels ts levels

pub nodes_levels : (ts : List Weighted) (levels : List (List Interval)) → AreLinked ts levels → AreStanding levels → AreLevels ts (nodes_in ts levels)
nodes_levels [] levels linked stands = tt
nodes_levels (t ∷ ts) [] linked stands = absurd linked
nodes_levels (t ∷ ts) (gs ∷ levels) linked stands =
    let hs : List Interval = head_level levels in
    let next : List Node = first_nodes (nodes_in ts levels) in
    let count = next_count ts levels linked.1 in
    let tops = next_tops ts levels linked.1 in
    let apart = head_stands levels stands.1 in (
      record {
        up = next_up (t ∷ ts) (gs ∷ levels) stands;
        rise = next_up ts levels stands.1;
        over = nodes_over t.coef (weight ts) hs next count tops apart gs linked.0;
        sorted = nodes_sorted t.coef (weight ts) hs next count tops apart gs stands.0.apart stands.0.rise linked.0;
      },
      nodes_levels ts levels linked.1 stands.1,
    )

-- no node ends above the sum of the terms from its level on
pub ends_within : (ts : List Weighted) (levels : List (List Node)) → AreLevels ts levels → last_top (first_nodes levels) ≤ weight ts
ends_within [] [] h = omega arith
ends_within [] (ns ∷ levels) h = absurd h
ends_within (t ∷ ts) [] h = absurd h
ends_within (t ∷ ts) (ns ∷ levels) h = omega (arith, weight-cons t ts, level-covered t.coef ns (first_nodes levels) h.0, ends_within ts levels h.1)

-- few nodes at each level
abbrev pub AreNarrow : List (List Node) → Type 0
AreNarrow levels = All (λ ns. length ns < 2 ^ 20) levels

pub first_narrow : (levels : List (List Node)) → AreNarrow levels → length (first_nodes levels) < 2 ^ 20
first_narrow [] h = omega arith
first_narrow (ns ∷ levels) h = All-head (λ (ns : List Node). length ns < 2 ^ 20) ns levels h
