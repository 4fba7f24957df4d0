-- A node from its children.
use Rattle.std.proofs.Common.{◌≡◌, ◌<◌, ◌≤◌, ◌+◌, ◌-◌, ◌⊎◌, ℕ, List, ◌∷◌, sym, subst, arith, inl, inr}
use Rattle.std.specs.Prelude.{Contains, sum}
use Rattle.std.proofs.lemmas.Bool.{cases_lt, cases_order}
use Rattle.pb_diagram.specs.declared.interval.Interval.{Interval}
use Rattle.pb_diagram.specs.inner.Nodes.{LiesIn, IsInterval, IsResidue, IsNode}
use Rattle.pb_diagram.specs.laws.Search.{IsPartSearched, IsKnown, IsIntervalClosed, IsJoined}
use Rattle.pb_diagram.specs.Sums.{sums}
use Rattle.pb_diagram.specs.laws.SumFacts.{sums_without, sums_with, sums_cases, sums_none, sums_all, sums-le, sum-cons}

-- what is known of a child, shifted: a sum of both that holds the residue, and none of its kind between
record Side (ss : List ℕ) (residue : ℕ) (side : Interval) : Type 0 where
  low_in : Contains ss side.low
  top_in : Contains ss side.top
  inside : LiesIn residue side

off_side : (bound a : ℕ) (before rest : List ℕ) (next : List Interval) (residue : ℕ) (g : Interval) → IsPartSearched bound (a ∷ before) rest next → residue < sum (a ∷ rest) → IsJoined a (sum rest) next residue g
    → (off : Interval) → (sum rest ≤ residue → (off.low ≡ sum rest) × (off.top ≡ sum rest + a)) → (residue < sum rest → Contains next off × LiesIn residue off) → Side (sums (a ∷ rest)) residue off
off_side bound a before rest next residue g part below joined off at_end at_node =
    let all = sum-cons a rest in
    elim (cases_lt residue (sum rest)) as (λ _. Side (sums (a ∷ rest)) residue off) [
      | inl inner ↦
          let found = at_node inner in
          let interval = (part.is_node off found.0).interval in
          record { low_in = sums_without a rest off.low interval.low_in; top_in = sums_without a rest off.top interval.top_in; inside = found.1 }
      | inr past ↦
          let ends = at_end past in
          let top : a + sum rest ≡ off.top = omega (arith, ends.1) in
          record {
            low_in = subst (λ (s : ℕ). Contains (sums (a ∷ rest)) s) (sym ends.0) (sums_without a rest (sum rest) (sums_all rest));
            top_in = subst (λ (s : ℕ). Contains (sums (a ∷ rest)) s) top (sums_with a rest (sum rest) (sums_all rest));
            inside = (omega (arith, ends.0), omega (arith, ends.1));
          }
    ]

on_side : (bound a : ℕ) (before rest : List ℕ) (next : List Interval) (residue : ℕ) → IsPartSearched bound (a ∷ before) rest next
    → (on : Interval) → (residue < a → (on.low ≡ 0) × (on.top ≡ a)) → (a ≤ residue → (h : Interval) × Contains next h × LiesIn (residue - a) h × (on.low ≡ a + h.low) × (on.top ≡ a + h.top)) → Side (sums (a ∷ rest)) residue on
on_side bound a before rest next residue part on at_end at_node =
    elim (cases_lt residue a) as (λ _. Side (sums (a ∷ rest)) residue on) [
      | inl full ↦
          let ends = at_end full in
          let top : a + 0 ≡ on.top = omega (arith, ends.1) in
          record {
            low_in = subst (λ (s : ℕ). Contains (sums (a ∷ rest)) s) (sym ends.0) (sums_none (a ∷ rest));
            top_in = subst (λ (s : ℕ). Contains (sums (a ∷ rest)) s) top (sums_with a rest 0 (sums_none rest));
            inside = (omega (arith, ends.0), omega (arith, ends.1));
          }
      | inr room ↦
          let found = at_node room in
          let h = found.0 in
          let interval = (part.is_node h found.1).interval in
          let bounds = found.2 in
          let low = found.3 in
          let top = found.4 in
          record {
            low_in = subst (λ (s : ℕ). Contains (sums (a ∷ rest)) s) (sym low) (sums_with a rest h.low interval.low_in);
            top_in = subst (λ (s : ℕ). Contains (sums (a ∷ rest)) s) (sym top) (sums_with a rest h.top interval.top_in);
            inside = (omega arith, omega arith);
          }
    ]

pub record JoinedNode (bound a : ℕ) (before rest : List ℕ) (next : List Interval) (residue : ℕ) (g : Interval) : Type 0 where
  pub node : IsNode bound before (a ∷ rest) g
  pub inside : LiesIn residue g
  pub closed : IsIntervalClosed a rest next g

pub joined_node : (bound a : ℕ) (before rest : List ℕ) (next : List Interval) (residue : ℕ) (g : Interval) → IsPartSearched bound (a ∷ before) rest next → IsResidue bound before residue → residue < sum (a ∷ rest) → IsJoined a (sum rest) next residue g
    → JoinedNode bound a before rest next residue g
joined_node bound a before rest next residue g part reached below joined =
    let off = joined.off in
    let on = joined.on in
    let off_is = off_side bound a before rest next residue g part below joined off joined.is_off.ends joined.is_off.node in
    let on_is = on_side bound a before rest next residue part on joined.is_on.ends joined.is_on.node in
    let off_in = off_is.inside in
    let on_in = on_is.inside in
    let low = joined.low in
    let top = joined.top in
    let inside : LiesIn residue g = (omega arith, omega arith) in
    let low_in : Contains (sums (a ∷ rest)) g.low = elim (cases_lt off.low on.low) as (λ _. Contains (sums (a ∷ rest)) g.low) [
      | inl less ↦ let e : on.low ≡ g.low = omega arith in subst (λ (s : ℕ). Contains (sums (a ∷ rest)) s) e on_is.low_in
      | inr more ↦ let e : off.low ≡ g.low = omega arith in subst (λ (s : ℕ). Contains (sums (a ∷ rest)) s) e off_is.low_in
    ] in
    let top_in : Contains (sums (a ∷ rest)) g.top = elim (cases_lt off.top on.top) as (λ _. Contains (sums (a ∷ rest)) g.top) [
      | inl less ↦ let e : off.top ≡ g.top = omega arith in subst (λ (s : ℕ). Contains (sums (a ∷ rest)) s) e off_is.top_in
      | inr more ↦ let e : on.top ≡ g.top = omega arith in subst (λ (s : ℕ). Contains (sums (a ∷ rest)) s) e on_is.top_in
    ] in
    let next_sum : (s : ℕ) → Contains (sums (a ∷ rest)) s → g.low < s → g.top ≤ s = λ s h above.
    elim (sums_cases a rest s h) as (λ _. g.top ≤ s) [
      | inl without ↦ elim (cases_lt residue (sum rest)) as (λ _. g.top ≤ s) [
        | inl inner ↦
            let found = joined.is_off.node inner in
            let up = (part.is_node off found.0).interval.next s without (omega arith) in
            omega arith
        | inr past ↦
            let ends = joined.is_off.ends past in
            let most = sums-le rest s without in
            absurd (omega (arith, ends.0))
      ]
      | inr with_a ↦ elim (cases_lt residue a) as (λ _. g.top ≤ s) [
        | inl full ↦ let ends = joined.is_on.ends full in let e = with_a.2 in omega (arith, ends.1)
        | inr room ↦
            let found = joined.is_on.node room in
            let e = with_a.2 in
            let starts = found.3 in
            let stops = found.4 in
            let up = (part.is_node found.0 found.1).interval.next with_a.0 with_a.1 (omega arith) in
            omega arith
      ]
    ] in
    record {
      node = record {
        interval = record { low_in = low_in; top_in = top_in; rises = omega (arith, inside.0, inside.1); next = next_sum };
        residue = residue;
        reached = reached;
        inside = inside;
      };
      inside = inside;
      closed = record {
        off = λ inner.
            elim (cases_lt residue (sum rest)) as (λ _. IsKnown next g.low) [
              | inl less ↦ let found = joined.is_off.node less in (off, found.0, (omega arith, omega (arith, inside.0)))
              | inr past ↦ let ends = joined.is_off.ends past in absurd (omega (arith, ends.0))
            ];
        on = λ room.
            let room_too : a ≤ residue = omega (arith, inside.0) in
            let found = joined.is_on.node room_too in
            let starts = found.3 in
            let stops = found.4 in
            let bounds = found.2 in
            (found.0, found.1, (omega arith, omega (arith, inside.0)));
      };
    }

-- a node that holds a residue stands apart from the nodes that do not
pub apart_from : (ss : List ℕ) (g h : Interval) (residue : ℕ) → IsInterval ss g → IsInterval ss h → LiesIn residue g → ¬ LiesIn residue h → (h.top ≤ g.low) ⊎ (g.top ≤ h.low)
apart_from ss g h residue is_g is_h in_g not_h =
    elim (cases_order g.low h.low) as (λ _. (h.top ≤ g.low) ⊎ (g.top ≤ h.low)) [
      | inl same ↦
          let rises = is_g.rises in
          let rises_too = is_h.rises in
          let one = is_h.next g.top is_g.top_in (omega arith) in
          let two = is_g.next h.top is_h.top_in (omega arith) in
          absurd (not_h (omega (arith, in_g.0), omega (arith, in_g.1)))
      | inr apart ↦ elim apart as (λ _. (h.top ≤ g.low) ⊎ (g.top ≤ h.low)) [
        | inl below ↦ inr (is_g.next h.low is_h.low_in below)
        | inr above ↦ inl (is_h.next g.low is_g.low_in above)
      ]
    ]
