-- A level's guard may be added where its variable is new.
use Rattle.std.proofs.Common.{◌≡◌, ◌≢◌, ◌≤◌, ◌<◌, ◌+◌, ◌-◌, ◌^◌, ℕ, List, [], ◌∷◌, ◌++◌, length, refl, arith}
use Rattle.std.specs.Prelude.{All}
use Rattle.std.proofs.lemmas.List.Elements.{All-nil, All-cons, All-head, All-tail, All-append, All-weaker}
use Rattle.std.proofs.lemmas.List.Kept.{AllPairs-cons}
use Rattle.std.proofs.lemmas.List.Sums.{sum_by-append}
use Rattle.pb_base.specs.declared.literal.Lit.{Lit}
use Rattle.pb_base.proofs.Pairs.{AllPairs-nil, AllPairs-head, AllPairs-tail}
use Rattle.pb_norm.specs.Constraints.{Weighted, weight}
use Rattle.pb_norm.proofs.AdditionSizes.{weight-cons}
use Rattle.pb_steps.specs.Database.{Database}
use Rattle.pb_derive.specs.Forms.{AreApartTerms}
use Rattle.pb_derive.specs.Later.{IsOther, IsUnnamed}
use Rattle.pb_derive.specs.Reifications.{forward_of}
use Rattle.pb_derive.specs.inner.Meant.{IsReification, NamesNot, AreReifications}
use Rattle.pb_family.specs.Fresh.{positive_of}
use Rattle.pb_diagram.specs.declared.node.Node.{Node}
use Rattle.pb_diagram.specs.Guards.{Rung, weighing, missed_of, rises, guard, own_of, last_top}
use Rattle.pb_diagram.specs.laws.LevelWorths.{climbed}
use Rattle.pb_diagram.specs.laws.RungLines.{rises-weight}
use Rattle.pb_diagram.specs.laws.StepSums.{AreUp}

abbrev Apart : Weighted → Weighted → Type 0
Apart s t = s.lit.var ≢ t.lit.var

-- what holds of each rise
pub rises_each : (Q : Weighted → Type 0) (literal : ℕ → Lit) (p low : ℕ) (ns : List Node) → AreUp low ns → ((v n : ℕ) → p ≤ v → v < p + length ns → 0 < n → Q (weighing n (literal v))) → All Q (rises literal p low ns)
rises_each Q literal p low [] up each = All-nil Q
rises_each Q literal p low (n ∷ ns) up each =
    All-cons Q (weighing (n.top - low) (literal p)) (rises literal (p + 1) n.top ns) (each p (n.top - low) (omega arith) (omega arith) (omega (arith, up.0)))
    (rises_each Q literal (p + 1) n.top ns up.1 (λ v m from to some. each v m (omega (arith, from)) (omega (arith, to)) some))

rises_apart : (literal : ℕ → Lit) → ((v : ℕ) → (literal v).var ≡ v) → (p low : ℕ) (ns : List Node) → AreUp low ns → AreApartTerms (rises literal p low ns)
rises_apart literal same p low [] up = AllPairs-nil Apart
rises_apart literal same p low (n ∷ ns) up =
    AllPairs-cons Apart (weighing (n.top - low) (literal p)) (rises literal (p + 1) n.top ns)
    (rises_each (Apart (weighing (n.top - low) (literal p))) literal (p + 1) n.top ns up.1 (λ v m from to some e. omega (arith, same p, same v, e, from)))
    (rises_apart literal same (p + 1) n.top ns up.1)

-- terms of higher variables, and others behind them
apart_above : (ts us : List Weighted) (m : ℕ) → AreApartTerms ts → AreApartTerms us → All (λ t. m ≤ t.lit.var) ts → All (λ u. u.lit.var < m) us → AreApartTerms (ts ++ us)
apart_above [] us m h k high low = k
apart_above (t ∷ ts) us m h k high low =
    let above = All-head (λ (x : Weighted). m ≤ x.lit.var) t ts high in
    AllPairs-cons Apart t (ts ++ us)
    (All-append (Apart t) ts us (AllPairs-head Apart t ts h) (All-weaker (λ (u : Weighted). u.lit.var < m) (Apart t) (λ u below e. omega (arith, above, below, e)) us low))
    (apart_above ts us m (AllPairs-tail Apart t ts h) k (All-tail (λ (x : Weighted). m ≤ x.lit.var) t ts high) low)

module _ (v : ℕ) (r : Rung) (first : v < r.var) (other : v ≢ r.term.lit.var) (low : r.term.lit.var < r.var) (high : r.var + length r.nodes ≤ r.after) (up : AreUp 0 r.nodes) (rise : AreUp 0 r.next) where
  abbrev below : List Weighted
  below = rises missed_of r.after 0 r.next

  abbrev here : List Weighted
  here = rises positive_of r.var 0 r.nodes

  abbrev own : Weighted
  own = weighing (own_of r) r.term.lit

  -- what holds of each term
  pub guard_each : (Q : Weighted → Type 0) → Q (weighing (own_of r) r.term.lit) → ((w n : ℕ) → r.after ≤ w → w < r.after + length r.next → 0 < n → Q (weighing n (missed_of w)))
      → ((w n : ℕ) → r.var ≤ w → w < r.var + length r.nodes → 0 < n → Q (weighing n (positive_of w))) → All Q (guard v r).sum
  guard_each Q one belows heres = All-cons Q own (below ++ here) one (All-append Q below here (rises_each Q missed_of r.after 0 r.next rise belows) (rises_each Q positive_of r.var 0 r.nodes up heres))

  guard_apart : AreApartTerms (guard v r).sum
  guard_apart =
      AllPairs-cons Apart own (below ++ here)
      (All-append (Apart own) below here (rises_each (Apart own) missed_of r.after 0 r.next rise (λ w n from to some e. omega (arith, e, from, low, high))) (rises_each (Apart own) positive_of r.var 0 r.nodes up (λ w n from to some e. omega (arith, e, from, low))))
      (apart_above below here r.after (rises_apart missed_of (λ w. refl) r.after 0 r.next rise) (rises_apart positive_of (λ w. refl) r.var 0 r.nodes up)
      (rises_each (λ t. r.after ≤ t.lit.var) missed_of r.after 0 r.next rise (λ w n from to some. from)) (rises_each (λ u. u.lit.var < r.after) positive_of r.var 0 r.nodes up (λ w n from to some. omega (arith, to, high))))

  pub guard_weight : weight (guard v r).sum ≡ own_of r + climbed 0 r.next + climbed 0 r.nodes
  guard_weight = omega (arith, weight-cons own (below ++ here), sum_by-append (λ (t : Weighted). t.coef) below here, rises-weight missed_of r.after 0 r.next, rises-weight positive_of r.var 0 r.nodes)

  pub guard_added : (P : ℕ → Type 0) (db : Database) → db.original < v → r.after + length r.next ≤ db.vars + 1 → 0 < own_of r → 0 < last_top r.nodes → own_of r + climbed 0 r.next + climbed 0 r.nodes + last_top r.nodes < 2 ^ 124
      → IsUnnamed v db → P v → P r.term.lit.var → ((w : ℕ) → r.var ≤ w → w < r.after + length r.next → P w) → AreReifications P db (guard v r ∷ [])
  guard_added P db original fits counted some light unnamed named_v named_l named = record {
    each = All-cons (IsReification db.original db.vars) (guard v r) []
        (record {
          fresh = original;
          known = omega (arith, first, high, fits);
          sum_known = guard_each (λ t. t.lit.var ≤ db.vars) (omega (arith, low, high, fits)) (λ w n from to more. omega (arith, to, fits)) (λ w n from to more. omega (arith, to, high, fits));
          apart = guard_apart;
          positive = guard_each (λ t. 0 < t.coef) counted (λ w n from to more. more) (λ w n from to more. more);
          other = guard_each (IsOther v) other (λ w n from to more e. omega (arith, e, from, first, high)) (λ w n from to more e. omega (arith, e, from, first));
          some = some;
          light = omega (arith, guard_weight, light);
        })
        (All-nil (IsReification db.original db.vars));
    named = All-cons (λ m. All (λ t. P t.lit.var) (forward_of m).terms) (guard v r) []
        (All-cons (λ (t : Weighted). P t.lit.var) (weighing (last_top r.nodes) (missed_of v)) (guard v r).sum named_v
        (guard_each (λ t. P t.lit.var) named_l (λ w n from to more. named w (omega (arith, from, high)) to) (λ w n from to more. named w from (omega (arith, to, high)))))
        (All-nil (λ m. All (λ t. P t.lit.var) (forward_of m).terms));
    unnamed = All-cons (λ m. IsUnnamed m.var db) (guard v r) [] unnamed (All-nil (λ m. IsUnnamed m.var db));
    in_order = AllPairs-cons NamesNot (guard v r) [] (All-nil (NamesNot (guard v r))) (AllPairs-nil NamesNot);
  }
