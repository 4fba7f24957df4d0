-- The place of the node that holds a residue.
use Rattle.std.proofs.Common.{◌≡◌, ◌<◌, ◌≤◌, ℕ, true, false, leb, List, [], ◌∷◌, length, get_or, ap, arith, inl, inr, zero, suc}
use Rattle.std.specs.List.{position_or_len}
use Rattle.std.specs.List.Sorted.{IsNonDecreasingBy, IsPartitionedBy, IsPartitionPoint}
use Rattle.std.proofs.lemmas.Bool.{cases_lt, cases_order, leb-true, leb-false}
use Rattle.std.proofs.lemmas.List.Elements.{Contains-get_or}
use Rattle.std.proofs.lemmas.List.Sorted.{IsPartitionedBy-leb}
use Rattle.std.proofs.lemmas.List.Sums.{passes_at_first}
use Rattle.pb_diagram.specs.declared.interval.Interval.{Interval}
use Rattle.pb_diagram.specs.Levels.{lies_in}
use Rattle.pb_diagram.specs.laws.LevelFacts.{lies_in_true}
use Rattle.pb_diagram.specs.Intervals.{AreApart}
use Rattle.pb_diagram.specs.inner.Links.{AreInOrder, StandApart}

-- an earlier node ends before a later one begins
apart_at : (nodes : List Interval) (i j : ℕ) (d : Interval) → AreApart nodes → i < j → j < length nodes → (get_or nodes i d).top ≤ (get_or nodes j d).low
apart_at [] i j d apart below within = absurd (omega arith)
apart_at (g ∷ gs) i zero d apart below within = absurd (omega arith)
apart_at (g ∷ gs) zero (suc j) d apart below within = apart.0 (get_or gs j d) (Contains-get_or gs j d (omega arith))
apart_at (g ∷ gs) (suc i) (suc j) d apart below within = apart_at gs i j d apart.1 (omega arith) (omega arith)

-- by their places
pub in_order : (nodes : List Interval) → StandApart nodes → AreInOrder nodes
in_order nodes stands i d within = (stands.rise (get_or nodes i d) (Contains-get_or nodes i d within), λ k below. apart_at nodes k i d stands.apart below within)

ends_rise : (nodes : List Interval) → AreInOrder nodes → IsNonDecreasingBy (λ g. g.top) nodes
ends_rise nodes order i j d le within =
    elim (cases_lt i j) as (λ _. (get_or nodes i d).top ≤ (get_or nodes j d).top) [
      | inl below ↦ let at = order j d within in omega (arith, at.0, at.1 i below)
      | inr past ↦ let same : i ≡ j = omega arith in let e = ap (λ (k : ℕ). (get_or nodes k d).top) same in omega arith
    ]

pub ends_part : (nodes : List Interval) (residue : ℕ) → AreInOrder nodes → IsPartitionedBy (λ g. leb g.top residue) nodes
ends_part nodes residue order = IsPartitionedBy-leb (λ g. g.top) nodes residue (ends_rise nodes order)

pub place_is : (nodes : List Interval) (residue i : ℕ) → AreInOrder nodes → position_or_len (lies_in residue) nodes < length nodes → i ≤ length nodes
    → IsPartitionPoint (λ g. leb g.top residue ≡ true) (λ g. leb g.top residue ≡ false) nodes i → i ≡ position_or_len (lies_in residue) nodes
place_is nodes residue i order held bound point =
    let p = position_or_len (lies_in residue) nodes in
    let d : Interval = record { low = 0; top = 0 } in
    let inside = lies_in_true residue (get_or nodes p d) (passes_at_first (lies_in residue) nodes d held) in
    elim (cases_order i p) as (λ _. i ≡ p) [
      | inl same ↦ same
      | inr apart ↦ elim apart as (λ _. i ≡ p) [
        | inl below ↦
            let order = (order p d held).1 i below in
            let above = leb-false (get_or nodes i d).top residue (point.1 i d (omega arith) (omega arith)) in
            absurd (omega (arith, inside.0))
        | inr past ↦
            let ended = leb-true (get_or nodes p d).top residue (point.0 p d (omega arith) past) in
            absurd (omega (arith, inside.1))
      ]
    ]

-- a node that holds the residue is the one
pub place_at : (nodes : List Interval) (residue i : ℕ) (d : Interval) → AreInOrder nodes → position_or_len (lies_in residue) nodes < length nodes → i < length nodes → (get_or nodes i d).low ≤ residue → residue < (get_or nodes i d).top
    → i ≡ position_or_len (lies_in residue) nodes
place_at nodes residue i d order held within from below =
    let p = position_or_len (lies_in residue) nodes in
    let inside = lies_in_true residue (get_or nodes p d) (passes_at_first (lies_in residue) nodes d held) in
    elim (cases_order i p) as (λ _. i ≡ p) [
      | inl same ↦ same
      | inr apart ↦ elim apart as (λ _. i ≡ p) [
        | inl before ↦ let ends = (order p d held).1 i before in absurd (omega (arith, inside.0))
        | inr past ↦ let ends = (order i d within).1 p past in absurd (omega (arith, inside.1))
      ]
    ]
