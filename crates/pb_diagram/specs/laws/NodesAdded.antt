-- The nodes' reifications may be added, the last level first, since each names later variables alone.
use Rattle.std.proofs.Common.{◌≡◌, ◌≢◌, ◌≤◌, ◌<◌, ◌+◌, ℕ, Bool, true, false, cond, eqb, List, [], ◌∷◌, ◌++◌, length, refl, arith}
use Rattle.std.specs.Prelude.{All, AllPairs, Option, None, Some}
use Rattle.std.proofs.lemmas.Bool.{both_ways, eq-eqb}
use Rattle.std.proofs.lemmas.List.Elements.{All-nil, All-cons, All-head, All-tail, All-append, All-weaker}
use Rattle.std.proofs.lemmas.List.Kept.{AllPairs-cons}
use Rattle.pb_base.specs.declared.literal.Lit.{Lit}
use Rattle.pb_base.specs.Literals.{negated}
use Rattle.pb_base.proofs.Pairs.{AllPairs-nil, AllPairs-head, AllPairs-tail}
use Rattle.pb_norm.specs.Constraints.{Weighted}
use Rattle.pb_steps.specs.Database.{Database}
use Rattle.pb_derive.specs.Forms.{AreApartTerms}
use Rattle.pb_derive.specs.Later.{IsOther, IsUnnamed}
use Rattle.pb_derive.specs.Reifications.{Reification, forward_of}
use Rattle.pb_derive.specs.inner.Meant.{IsReification, NamesNot, AreReifications}
use Rattle.pb_family.specs.Fresh.{positive_of}
use Rattle.pb_diagram.specs.declared.node.Node.{Node}
use Rattle.pb_diagram.specs.Guards.{weighing, missed_of, child_terms, child_least, child_reification, level_reifications}
use Rattle.pb_diagram.specs.GuardedSteps.{first_nodes, count_nodes, all_reifications}
use Rattle.pb_diagram.specs.laws.FewTerms.{apart_one, apart_two, apart_three}
use Rattle.pb_diagram.specs.laws.GuardSplit.{IsIn}
use Rattle.pb_diagram.specs.laws.LevelShape.{IsOver}
use Rattle.pb_diagram.specs.laws.LevelWorths.{AreChildren}
use Rattle.pb_diagram.specs.laws.NodesOver.{AreLevels}
use Rattle.pb_diagram.specs.laws.OrderLines.{child-weight, least-is, has-le}
use Rattle.pb_diagram.specs.laws.RungFacts.{off_in, on_in, count-cons, first-count}

pairs_append : (R : Reification → Reification → Type 0) (ms ns : List Reification) → AllPairs R ms → AllPairs R ns → All (λ m. All (R m) ns) ms → AllPairs R (ms ++ ns)
pairs_append R [] ns h k cross = k
pairs_append R (m ∷ ms) ns h k cross =
    AllPairs-cons R m (ms ++ ns) (All-append (R m) ms ns (AllPairs-head R m ms h) (All-head (λ (m : Reification). All (R m) ns) m ms cross))
    (pairs_append R ms ns (AllPairs-tail R m ms h) k (All-tail (λ (m : Reification). All (R m) ns) m ms cross))

-- ---- a node's terms

module _ (l : Lit) (q count : ℕ) where
  pub child_each : (Q : Weighted → Type 0) (f t : Option ℕ) → IsIn count f → IsIn count t → Q (weighing 1 (negated l)) → ((j n : ℕ) → j < count → 0 < n → Q (weighing n (positive_of (q + j)))) → All Q (child_terms l q f t)
  child_each Q None None fs ts own each = All-cons Q (weighing 1 (negated l)) [] own (All-nil Q)
  child_each Q None (Some t) fs ts own each = All-cons Q (weighing 1 (negated l)) (weighing 1 (positive_of (q + t)) ∷ []) own (All-cons Q (weighing 1 (positive_of (q + t))) [] (each t 1 ts (omega arith)) (All-nil Q))
  child_each Q (Some f) None fs ts own each = All-cons Q (weighing 2 (positive_of (q + f))) (weighing 1 (negated l) ∷ []) (each f 2 fs (omega arith)) (All-cons Q (weighing 1 (negated l)) [] own (All-nil Q))
  child_each Q (Some f) (Some t) fs ts own each = both (eqb f t)
    where
      both : (b : Bool) → All Q (cond b (weighing 3 (positive_of (q + f)) ∷ weighing 1 (negated l) ∷ []) (weighing 2 (positive_of (q + f)) ∷ weighing 1 (negated l) ∷ weighing 1 (positive_of (q + t)) ∷ []))
      both true = All-cons Q (weighing 3 (positive_of (q + f))) (weighing 1 (negated l) ∷ []) (each f 3 fs (omega arith)) (All-cons Q (weighing 1 (negated l)) [] own (All-nil Q))
      both false =
          All-cons Q (weighing 2 (positive_of (q + f))) (weighing 1 (negated l) ∷ weighing 1 (positive_of (q + t)) ∷ []) (each f 2 fs (omega arith))
          (All-cons Q (weighing 1 (negated l)) (weighing 1 (positive_of (q + t)) ∷ []) own (All-cons Q (weighing 1 (positive_of (q + t))) [] (each t 1 ts (omega arith)) (All-nil Q)))

  child_apart : (f t : Option ℕ) → l.var < q → AreApartTerms (child_terms l q f t)
  child_apart None None low = apart_one (weighing 1 (negated l))
  child_apart None (Some t) low = apart_two (weighing 1 (negated l)) (weighing 1 (positive_of (q + t))) (λ e. omega (arith, e, low))
  child_apart (Some f) None low = apart_two (weighing 2 (positive_of (q + f))) (weighing 1 (negated l)) (λ e. omega (arith, e, low))
  child_apart (Some f) (Some t) low = both (eqb f t) refl
    where
      both : (b : Bool) → eqb f t ≡ b → AreApartTerms (cond b (weighing 3 (positive_of (q + f)) ∷ weighing 1 (negated l) ∷ []) (weighing 2 (positive_of (q + f)) ∷ weighing 1 (negated l) ∷ weighing 1 (positive_of (q + t)) ∷ []))
      both true e = apart_two (weighing 3 (positive_of (q + f))) (weighing 1 (negated l)) (λ e. omega (arith, e, low))
      both false e =
          let other : f ≢ t = λ same. both_ways (eqb f t) e (eq-eqb f t same) in
          apart_three (weighing 2 (positive_of (q + f))) (weighing 1 (negated l)) (weighing 1 (positive_of (q + t))) (λ e. omega (arith, e, low)) (λ e. other (omega (arith, e))) (λ e. omega (arith, e, low))

-- ---- one node

pub child_added : (original vars : ℕ) (l : Lit) (q count p : ℕ) (n : Node) → original < p → l.var < p → p < q → q + count ≤ vars + 1 → IsIn count n.off → IsIn count n.on → IsReification original vars (child_reification l q p n)
child_added original vars l q count p n fresh low high fits fs ts = record {
  fresh = fresh;
  known = omega (arith, high, fits);
  sum_known = child_each l q count (λ t. t.lit.var ≤ vars) n.off n.on fs ts (omega (arith, low, high, fits)) (λ j k within some. omega (arith, within, fits));
  apart = child_apart l q count n.off n.on (omega (arith, low, high));
  positive = child_each l q count (λ t. 0 < t.coef) n.off n.on fs ts (omega arith) (λ j k within some. some);
  other = child_each l q count (IsOther p) n.off n.on fs ts (λ e. omega (arith, e, low)) (λ j k within some e. omega (arith, e, high));
  some = omega (arith, least-is n.off);
  light = omega (arith, child-weight l q n.off n.on, least-is n.off, has-le n.off, has-le n.on);
}

-- what holds of each variable that it names
pub child_named : (Q : ℕ → Type 0) (l : Lit) (q count p : ℕ) (n : Node) → IsIn count n.off → IsIn count n.on → Q p → Q l.var → ((w : ℕ) → q ≤ w → w < q + count → Q w) → All (λ t. Q t.lit.var) (forward_of (child_reification l q p n)).terms
child_named Q l q count p n fs ts mine own each =
    All-cons (λ (t : Weighted). Q t.lit.var) (weighing (child_least n.off) (missed_of p)) (child_terms l q n.off n.on) mine (child_each l q count (λ t. Q t.lit.var) n.off n.on fs ts own (λ j k within some. each (q + j) (omega arith) (omega (arith, within))))

-- ---- a level

module _ (l : Lit) (q a : ℕ) (next : List Node) where
  abbrev size : ℕ
  size = length next

  pub level_each : (R : Reification → Type 0) (p : ℕ) (ns : List Node) → AreChildren (IsOver a next) ns → ((v : ℕ) (n : Node) → p ≤ v → v < p + length ns → IsIn size n.off → IsIn size n.on → R (child_reification l q v n)) → All R (level_reifications l q p ns)
  level_each R p [] over each = All-nil R
  level_each R p (n ∷ ns) over each =
      All-cons R (child_reification l q p n) (level_reifications l q (p + 1) ns) (each p n (omega arith) (omega arith) (off_in next n.top n.off over.0.off) (on_in a next n.top n.on over.0.on))
      (level_each R (p + 1) ns over.1 (λ v m from to fs ts. each v m (omega (arith, from)) (omega (arith, to)) fs ts))

  level_in_order : (p : ℕ) (ns : List Node) → l.var < p → p + length ns ≤ q → AreChildren (IsOver a next) ns → AllPairs NamesNot (level_reifications l q p ns)
  level_in_order p [] low high over = AllPairs-nil NamesNot
  level_in_order p (n ∷ ns) low high over =
      AllPairs-cons NamesNot (child_reification l q p n) (level_reifications l q (p + 1) ns)
      (level_each (NamesNot (child_reification l q p n)) (p + 1) ns over.1 (λ v m from to fs ts.
      child_named (λ w. v ≢ w) l q size p n (off_in next n.top n.off over.0.off) (on_in a next n.top n.on over.0.on) (λ e. omega (arith, e, from)) (λ e. omega (arith, e, from, low)) (λ w above below e. omega (arith, e, above, to, high))))
      (level_in_order (p + 1) ns (omega (arith, low)) (omega (arith, high)) over.1)

-- ---- all levels

pub all_each : (R : Reification → Type 0) (S : Weighted → Type 0) (low limit p : ℕ) (ts : List Weighted) (levels : List (List Node)) → AreLevels ts levels → All S ts → low ≤ p → p + count_nodes levels ≤ limit
    → ((t : Weighted) (q count v : ℕ) (n : Node) → S t → low ≤ v → v < q → q + count ≤ limit → IsIn count n.off → IsIn count n.on → R (child_reification t.lit q v n)) → All R (all_reifications p ts levels)
all_each R S low limit p [] levels shape h le within each = All-nil R
all_each R S low limit p (t ∷ ts) [] shape h le within each = All-nil R
all_each R S low limit p (t ∷ ts) (ns ∷ levels) shape h le within each =
    let q : ℕ = p + length ns in
    let next : List Node = first_nodes levels in
    let all = count-cons ns levels in
    let few = first-count levels in
    let own = All-head S t ts h in
    All-append R (all_reifications q ts levels) (level_reifications t.lit q p ns) (all_each R S low limit q ts levels shape.1 (All-tail S t ts h) (omega (arith, le)) (omega (arith, within, all)) each)
    (level_each t.lit q t.coef next R p ns shape.0.over (λ v n from to fs gs. each t q (length next) v n own (omega (arith, from, le)) to (omega (arith, within, all, few)) fs gs))

all_in_order : (p : ℕ) (ts : List Weighted) (levels : List (List Node)) → AreLevels ts levels → All (λ t. t.lit.var < p) ts → AllPairs NamesNot (all_reifications p ts levels)
all_in_order p [] levels shape low = AllPairs-nil NamesNot
all_in_order p (t ∷ ts) [] shape low = AllPairs-nil NamesNot
all_in_order p (t ∷ ts) (ns ∷ levels) shape low =
    let q : ℕ = p + length ns in
    let Low : Weighted → Type 0 = λ u. u.lit.var < p in
    let here : List Reification = level_reifications t.lit q p ns in
    let rest = All-tail Low t ts low in
    pairs_append NamesNot (all_reifications q ts levels) here (all_in_order q ts levels shape.1 (All-weaker Low (λ (u : Weighted). u.lit.var < q) (λ u k. omega (arith, k)) ts rest))
    (level_in_order t.lit q t.coef (first_nodes levels) p ns (All-head Low t ts low) (omega arith) shape.0.over)
    (all_each (λ m. All (NamesNot m) here) Low q (q + count_nodes levels) q ts levels shape.1 rest (omega arith) (omega arith)
    (λ u r count v n under from to fits fs gs. level_each t.lit q t.coef (first_nodes levels) (NamesNot (child_reification u.lit r v n)) p ns shape.0.over
    (λ w m above below os is. child_named (λ x. w ≢ x) u.lit r count v n fs gs (λ e. omega (arith, e, below, from)) (λ e. omega (arith, e, under, above)) (λ x past within e. omega (arith, e, past, to, below, from)))))

pub nodes_added : (P : ℕ → Type 0) (db : Database) (p : ℕ) (ts : List Weighted) (levels : List (List Node)) → AreLevels ts levels → All (λ t. t.lit.var < p) ts → All (λ t. P t.lit.var) ts → db.original < p → p + count_nodes levels ≤ db.vars + 1
    → ((w : ℕ) → p ≤ w → w < p + count_nodes levels → P w × IsUnnamed w db) → AreReifications P db (all_reifications p ts levels)
nodes_added P db p ts levels shape low named original fits fresh =
    let limit : ℕ = p + count_nodes levels in
    let Low : Weighted → Type 0 = λ u. u.lit.var < p in
    let Both : Weighted → Type 0 = λ u. (u.lit.var < p) × P u.lit.var in
    let both : All Both ts = λ k d w. (low k d w, named k d w) in
    record {
      each = all_each (IsReification db.original db.vars) Low p limit p ts levels shape low (omega arith) (omega arith)
          (λ t q count v n under from to within fs gs. child_added db.original db.vars t.lit q count v n (omega (arith, original, from)) (omega (arith, under, from)) to (omega (arith, within, fits)) fs gs);
      named = all_each (λ m. All (λ t. P t.lit.var) (forward_of m).terms) Both p limit p ts levels shape both (omega arith) (omega arith)
          (λ t q count v n own from to within fs gs. child_named P t.lit q count v n fs gs (fresh v from (omega (arith, to, within))).0 own.1 (λ w past less. (fresh w (omega (arith, past, to, from)) (omega (arith, less, within))).0));
      unnamed = all_each (λ m. IsUnnamed m.var db) Low p limit p ts levels shape low (omega arith) (omega arith) (λ t q count v n under from to within fs gs. (fresh v from (omega (arith, to, within))).1);
      in_order = all_in_order p ts levels shape low;
    }
