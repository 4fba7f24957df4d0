-- The levels' sums run, the last one first.
use Rattle.std.proofs.Common.{◌≡◌, ◌≢◌, ◌≤◌, ◌<◌, ◌+◌, ◌*◌, ◌^◌, ℕ, List, [], ◌∷◌, length, refl, arith}
use Rattle.std.specs.Prelude.{All}
use Rattle.std.proofs.lemmas.List.Elements.{All-head, All-tail, All-append, All-weaker}
use Rattle.pb_base.proofs.Pairs.{AllPairs-tail}
use Rattle.pb_norm.specs.Constraints.{Weighted, AllPositive, weight}
use Rattle.pb_norm.proofs.AdditionSizes.{weight-cons}
use Rattle.pb_steps.specs.Database.{Database}
use Rattle.pb_derive.specs.Forms.{AreApartTerms}
use Rattle.pb_derive.specs.Later.{IsOther, IsUnnamed, IsNumbered}
use Rattle.pb_derive.proofs.Holding.{OrBetween, before, between, holding_none, holding_same, holding_added}
use Rattle.pb_derive.proofs.Lines.{line_ran}
use Rattle.pb_derive.proofs.Running.{runs_append}
use Rattle.pb_family.specs.Fresh.{positive_of}
use Rattle.pb_diagram.specs.declared.node.Node.{Node}
use Rattle.pb_diagram.specs.Guards.{Rung, rises}
use Rattle.pb_diagram.specs.GuardedSteps.{first_nodes, count_nodes, head_order, terms_line, climbs_at, rung_of, sums_steps}
use Rattle.pb_diagram.specs.laws.ClimbLines.{climb_of}
use Rattle.pb_diagram.specs.laws.GuardReification.{rises_each}
use Rattle.pb_diagram.specs.laws.LevelShape.{some_last}
use Rattle.pb_diagram.specs.laws.NodesOver.{AreLevels, AreNarrow, first_narrow, ends_within}
use Rattle.pb_diagram.specs.laws.RungFacts.{LevelsMeant, OrdersKnown, head_ordered, both_later, ordered_later, rung_is, count-cons, first-count}
use Rattle.pb_diagram.specs.laws.RungRuns.{Below, MayClimb, ClimbRan, rung_ran}
use Rattle.pb_diagram.specs.laws.StepSums.{AreUp}
use Rattle.pb_diagram.specs.laws.TermsLine.{terms_adds}

-- what the proofs ask of a sum's terms
pub record AreTerms (low : ℕ) (ts : List Weighted) : Type 0 where
  pub below : All (λ t. t.lit.var < low) ts
  pub apart : AreApartTerms ts
  pub positive : AllPositive ts
  pub light : weight ts ≤ 2 ^ 100

pub terms_tail : (low : ℕ) (t : Weighted) (ts : List Weighted) → AreTerms low (t ∷ ts) → AreTerms low ts
terms_tail low t ts h = record {
  below = All-tail (λ (u : Weighted). u.lit.var < low) t ts h.below;
  apart = AllPairs-tail (λ (u v : Weighted). u.lit.var ≢ v.lit.var) t ts h.apart;
  positive = All-tail (λ (u : Weighted). 0 < u.coef) t ts h.positive;
  light = omega (arith, weight-cons t ts, h.light);
}

-- what holds of the terms of a level's sum
pub climb_each : (Q : Weighted → Type 0) (ts : List Weighted) (p : ℕ) (ns : List Node) → AreUp 0 ns → All Q ts → ((v n : ℕ) → p ≤ v → v < p + length ns → 0 < n → Q (record { coef = n; lit = positive_of v })) → All Q (climb_of ts p ns).terms
climb_each Q ts p ns up h each = All-append Q ts (rises positive_of p 0 ns) h (rises_each Q positive_of p 0 ns up each)

-- a database in which all is known of nodes and orders, and the guard's variable is free
pub record MayStartClimbs (limit : ℕ) (base : Database) (v : ℕ) : Type 0 where
  pub original : base.original < v
  pub fits : limit ≤ base.vars + 1
  pub numbered : IsNumbered base
  pub unnamed : IsUnnamed v base

module _ (limit : ℕ) (base : Database) (v nodes orders next : ℕ) (here : MayStartClimbs limit base v) (at : base.next ≡ next) where
  abbrev P : ℕ → Type 0
  P = Below limit

  -- the lines' variables
  abbrev Q : ℕ → Type 0
  Q w = (w < limit) × (w ≢ v)

  bottom_ran : (p : ℕ) (ts : List Weighted) → AreTerms v ts → v < p → v < limit → ClimbRan limit base base v (terms_line v ts ∷ []) next (climb_of ts p [])
  bottom_ran p ts terms first small =
      let named : All (λ t. Q t.lit.var) (climb_of ts p []).terms =
      climb_each (λ t. Q t.lit.var) ts p [] tt (All-weaker (λ (t : Weighted). t.lit.var < v) (λ (t : Weighted). Q t.lit.var) (λ t low. (omega (arith, low, small), (λ e. omega (arith, e, low)))) ts terms.below) (λ w n from to some. absurd (omega (arith, from, to))) in
      let known : All (λ t. t.lit.var ≤ base.vars) ts = All-weaker (λ (t : Weighted). t.lit.var < v) (λ (t : Weighted). t.lit.var ≤ base.vars) (λ t low. omega (arith, low, small, here.fits)) ts terms.below in
      let low : All (λ t. t.lit.var < p) ts = All-weaker (λ (t : Weighted). t.lit.var < v) (λ (t : Weighted). t.lit.var < p) (λ t k. omega (arith, k, first)) ts terms.below in
      let line = line_ran Q base (terms_line v ts) next (climb_of ts p []) here.numbered at (terms_adds base Q v p ts (omega (arith, small, here.fits)) known low terms.apart terms.positive named terms.light) in
      let end : Database = line.added.ran.end in
      let M : ℕ → Type 0 = OrBetween (λ i. ⊥) base.next end.next in
      let holds = holding_added Q base base (λ i. ⊥) (terms_line v ts ∷ []) 1 (holding_none Q base here.numbered) line.added in
      let size : end.next ≡ next + 1 = omega (arith, line.added.ran.next, at) in
      record {
        end = end;
        runs = line.added.ran.runs;
        holding = holding_same Q P base end M (λ i. i ≡ next) (λ w q. q.0)
            (λ i m. elim m as (λ _. i ≡ next) [ before none ↦ absurd none | between from to ↦ omega (arith, from, to, size, at) ])
            (λ i same. between (omega (arith, same, at)) (omega (arith, same, size))) holds;
        at = size;
        unnamed = line.added.ran.later.unnamed v (λ q. q.1 refl) here.unnamed;
        known = line.known;
      }

  pub sums_ran : (p : ℕ) (ts : List Weighted) (levels : List (List Node)) → AreLevels ts levels → LevelsMeant base nodes p ts levels → OrdersKnown base orders p levels → AreTerms v ts → AreNarrow levels → v < p → p + count_nodes levels ≤ limit → v < limit
      → ClimbRan limit base base v (sums_steps v nodes orders p ts levels next) (climbs_at next levels) (climb_of ts p (first_nodes levels))
  sums_ran p [] [] shape meant known terms narrow first within small = bottom_ran p [] terms first small
  sums_ran p [] (ns ∷ levels) shape meant known terms narrow first within small = absurd shape
  sums_ran p (t ∷ ts) [] shape meant known terms narrow first within small = absurd shape
  sums_ran p (t ∷ ts) ([] ∷ levels) shape meant known terms narrow first within small = bottom_ran p (t ∷ ts) terms first small
  sums_ran p (t ∷ ts) ((n ∷ ns) ∷ levels) shape meant known terms narrow first within small =
      let here_nodes : List Node = n ∷ ns in
      let q : ℕ = p + length here_nodes in
      let all = count-cons here_nodes levels in
      let few = first-count levels in
      let less = terms_tail v t ts terms in
      let rest = sums_ran q ts levels shape.1 meant.1 known.1 less (All-tail (λ (ns : List Node). length ns < 2 ^ 20) here_nodes levels narrow) (omega (arith, first)) (omega (arith, within, all)) small in
      let held : ℕ = climbs_at next levels in
      let r : Rung = rung_of t here_nodes levels p nodes orders in
      let own : t.lit.var < v = All-head (λ (t : Weighted). t.lit.var < v) t ts terms.below in
      let some = some_last 0 n ns shape.0.up in
      let coef : 0 < t.coef = All-head (λ (t : Weighted). 0 < t.coef) t ts terms.positive in
      let may : MayClimb limit base rest.end v r ts held = record {
        holding = rest.holding;
        at = rest.at;
        unnamed = rest.unnamed;
        known = rest.known;
        rung = λ d later. rung_is d r shape.0 (ordered_later P base d later here.numbered (head_order orders levels) q (length (first_nodes levels)) (head_ordered base orders q levels known.1))
            (omega (arith, within, all, few, here.fits, later.vars)) (omega (arith, own, first)) (omega arith) coef some (both_later P base d later here.numbered t.lit q p (nodes + 2 * count_nodes levels) here_nodes meant.0);
        modest = record {
          ends = omega (arith, ends_within (t ∷ ts) (here_nodes ∷ levels) shape, terms.light);
          next_ends = omega (arith, ends_within ts levels shape.1, less.light);
          next_few = first_narrow levels (All-tail (λ (ns : List Node). length ns < 2 ^ 20) here_nodes levels narrow);
        };
        light = omega (arith, weight-cons t ts, terms.light);
        some = some;
        original = here.original;
        first = first;
        other = λ e. omega (arith, e, own);
        limited = omega (arith, within, all, few);
        fits = here.fits;
        apart = terms.apart;
        positive = terms.positive;
        low = terms.below;
        named = climb_each (λ u. u.lit.var < limit) (t ∷ ts) p here_nodes shape.0.up (All-weaker (λ (u : Weighted). u.lit.var < v) (λ (u : Weighted). u.lit.var < limit) (λ u low. omega (arith, low, small)) (t ∷ ts) terms.below) (λ w m from to more. omega (arith, to, within, all));
        apart_v = climb_each (IsOther v) (t ∷ ts) p here_nodes shape.0.up (All-weaker (λ (u : Weighted). u.lit.var < v) (IsOther v) (λ u low e. omega (arith, e, low)) (t ∷ ts) terms.below) (λ w m from to more e. omega (arith, e, from, first));
      } in
      let done = rung_ran limit base rest.end v r ts held may in
      record {
        end = done.end;
        runs = runs_append base rest.end done.end (sums_steps v nodes orders q ts levels next) _ [] [] rest.runs done.runs;
        holding = done.holding;
        at = done.at;
        unnamed = done.unnamed;
        known = done.known;
      }
