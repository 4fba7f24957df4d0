-- What is known of the nodes of each level, and what a level is by that.
use Rattle.std.proofs.Common.{◌≡◌, ◌≤◌, ◌<◌, ◌+◌, ◌*◌, ℕ, suc, List, [], ◌∷◌, ◌++◌, length, refl, subst, arith, length-append}
use Rattle.std.specs.Prelude.{Option, None, Some}
use Rattle.std.proofs.lemmas.List.Sums.{sum_by-cons}
use Rattle.pb_base.specs.declared.literal.Lit.{Lit}
use Rattle.pb_norm.specs.Constraints.{Weighted, Constraint}
use Rattle.pb_steps.specs.Database.{Database}
use Rattle.pb_derive.specs.Later.{Knows, IsNumbered, IsLater}
use Rattle.pb_derive.specs.Reifications.{Reification, forward_of, reverse_of}
use Rattle.pb_derive.specs.inner.Meant.{AreMeant}
use Rattle.pb_derive.proofs.Laters.{later_knows, known_below}
use Rattle.pb_diagram.specs.declared.node.Node.{Node}
use Rattle.pb_diagram.specs.Guards.{Rung, child_reification, level_reifications, last_top}
use Rattle.pb_diagram.specs.GuardedSteps.{first_nodes, count_nodes, all_reifications, orders_end, head_order}
use Rattle.pb_diagram.specs.laws.GuardSplit.{IsRung, IsIn}
use Rattle.pb_diagram.specs.laws.LevelShape.{OffOver, OnOver, OffLe, OnLe, IsOver, AreSorted, IsLevel, children_weaker, level-ons, level-off_steps, level-on_steps, level-off_above, level-on_above, level-covered}
use Rattle.pb_diagram.specs.laws.LevelWorths.{climbed, IsPlaceOf, AreNodesKnown, AreChildren}
use Rattle.pb_diagram.specs.laws.NodesOver.{AreLevels}
use Rattle.pb_diagram.specs.laws.NodeWorths.{IsOrdered, order_of, all_but}
use Rattle.pb_diagram.specs.laws.OrderLines.{IsOffPair, IsOnPair, child-weight, least-is}
use Rattle.pb_diagram.specs.laws.OrderRuns.{AreBeside}
use Rattle.pb_diagram.specs.laws.RungLines.{climbed-last}
use Rattle.pb_diagram.specs.laws.StepSums.{AreUp}

-- ---- children stand in the next level

pub off_in : (next : List Node) (top : ℕ) (f : Option ℕ) → OffOver next top f → IsIn (length next) f
off_in next top None h = tt
off_in next top (Some f) h = h.0

pub on_in : (a : ℕ) (next : List Node) (top : ℕ) (t : Option ℕ) → OnOver a next top t → IsIn (length next) t
on_in a next top None h = tt
on_in a next top (Some t) h = h.0

-- ---- both constraints of nodes

pub record IsNodeKnown (db : Database) (l : Lit) (q p id : ℕ) (n : Node) : Type 0 where
  pub first : Knows db id (forward_of (child_reification l q p n))
  pub second : Knows db (id + 1) (reverse_of (child_reification l q p n))

-- of a level, whose nodes' constraints have the ids from one on
abbrev pub AreBothKnown : Database → Lit → ℕ → ℕ → ℕ → List Node → Type 0
AreBothKnown db l q p counts [] = Unit {0}
AreBothKnown db l q p counts (n ∷ ns) = IsNodeKnown db l q p counts n × AreBothKnown db l q (p + 1) (counts + 2) ns

-- of all levels
abbrev pub LevelsMeant : Database → ℕ → ℕ → List Weighted → List (List Node) → Type 0
LevelsMeant db base p [] levels = Unit {0}
LevelsMeant db base p (t ∷ ts) [] = Unit {0}
LevelsMeant db base p (t ∷ ts) (ns ∷ levels) = AreBothKnown db t.lit (p + length ns) p (base + 2 * count_nodes levels) ns × LevelsMeant db base (p + length ns) ts levels

pub level_meant : (db : Database) (l : Lit) (q p counts : ℕ) (ns : List Node) → AreMeant db counts (level_reifications l q p ns) → AreBothKnown db l q p counts ns
level_meant db l q p counts [] h = tt
level_meant db l q p counts (n ∷ ns) h = (
  record { first = h.0.first; second = h.0.second (omega (arith, child-weight l q n.off n.on, least-is n.off)) },
  level_meant db l q (p + 1) (counts + 2) ns h.1,
)

meant_append : (db : Database) (id : ℕ) (ms ns : List Reification) → AreMeant db id (ms ++ ns) → AreMeant db id ms × AreMeant db (id + 2 * length ms) ns
meant_append db id [] ns h = (tt, subst (λ (i : ℕ). AreMeant db i ns) (let e : id ≡ id + 2 * 0 = omega arith in e) h)
meant_append db id (m ∷ ms) ns h =
    let rest = meant_append db (id + 2) ms ns h.1 in
    ((h.0, rest.0), subst (λ (i : ℕ). AreMeant db i ns) (let e : id + 2 + 2 * length ms ≡ id + 2 * length (m ∷ ms) = omega arith in e) rest.1)

pub length-level : (l : Lit) (q p : ℕ) (ns : List Node) → length (level_reifications l q p ns) ≡ length ns
length-level l q p [] = refl
length-level l q p (n ∷ ns) = omega (arith, length-level l q (p + 1) ns)

pub count-cons : (ns : List Node) (levels : List (List Node)) → count_nodes (ns ∷ levels) ≡ length ns + count_nodes levels
count-cons ns levels = sum_by-cons (length {A = Node}) ns levels

pub first-count : (levels : List (List Node)) → length (first_nodes levels) ≤ count_nodes levels
first-count [] = omega arith
first-count (ns ∷ levels) = omega (arith, count-cons ns levels)

pub length-all : (p : ℕ) (ts : List Weighted) (levels : List (List Node)) → AreLevels ts levels → length (all_reifications p ts levels) ≡ count_nodes levels
length-all p [] [] h = refl
length-all p [] (ns ∷ levels) h = absurd h
length-all p (t ∷ ts) [] h = absurd h
length-all p (t ∷ ts) (ns ∷ levels) h =
    let later = all_reifications (p + length ns) ts levels in
    let here = level_reifications t.lit (p + length ns) p ns in
    omega (arith, length-append later here, length-all (p + length ns) ts levels h.1, length-level t.lit (p + length ns) p ns, count-cons ns levels)

pub levels_meant : (db : Database) (base p : ℕ) (ts : List Weighted) (levels : List (List Node)) → AreLevels ts levels → AreMeant db base (all_reifications p ts levels) → LevelsMeant db base p ts levels
levels_meant db base p [] levels h meant = tt
levels_meant db base p (t ∷ ts) [] h meant = tt
levels_meant db base p (t ∷ ts) (ns ∷ levels) h meant =
    let later = all_reifications (p + length ns) ts levels in
    let here = level_reifications t.lit (p + length ns) p ns in
    let parts = meant_append db base later here meant in
    let e : base + 2 * length later ≡ base + 2 * count_nodes levels = omega (arith, length-all (p + length ns) ts levels h.1) in (
      level_meant db t.lit (p + length ns) p (base + 2 * count_nodes levels) ns (subst (λ (i : ℕ). AreMeant db i here) e parts.1),
      levels_meant db base (p + length ns) ts levels h.1 parts.0,
    )

-- ---- the orders

abbrev pub OrdersKnown : Database → ℕ → ℕ → List (List Node) → Type 0
OrdersKnown db orders p [] = Unit {0}
OrdersKnown db orders p (ns ∷ levels) = IsOrdered db (orders_end orders levels) p (length ns) × OrdersKnown db orders (p + length ns) levels

pub head_ordered : (db : Database) (orders q : ℕ) (levels : List (List Node)) → OrdersKnown db orders q levels → IsOrdered db (head_order orders levels) q (length (first_nodes levels))
head_ordered db orders q [] h = λ j id e less. absurd (omega (arith, less))
head_ordered db orders q (ns ∷ levels) h = h.0

-- ---- they stay known

module _ (P : ℕ → Type 0) (db end : Database) (later : IsLater P db end) (numbered : IsNumbered db) where
  stays : (id : ℕ) (s : Constraint) → Knows db id s → Knows end id s
  stays id s k = later_knows P db end id s later (known_below db id s numbered k) k

  pub both_later : (l : Lit) (q p counts : ℕ) (ns : List Node) → AreBothKnown db l q p counts ns → AreBothKnown end l q p counts ns
  both_later l q p counts [] h = tt
  both_later l q p counts (n ∷ ns) h = (
    record { first = stays counts (forward_of (child_reification l q p n)) h.0.first; second = stays (counts + 1) (reverse_of (child_reification l q p n)) h.0.second },
    both_later l q (p + 1) (counts + 2) ns h.1,
  )

  pub levels_later : (base p : ℕ) (ts : List Weighted) (levels : List (List Node)) → LevelsMeant db base p ts levels → LevelsMeant end base p ts levels
  levels_later base p [] levels h = tt
  levels_later base p (t ∷ ts) [] h = tt
  levels_later base p (t ∷ ts) (ns ∷ levels) h = (both_later t.lit (p + length ns) p (base + 2 * count_nodes levels) ns h.0, levels_later base (p + length ns) ts levels h.1)

  pub ordered_later : (order q count : ℕ) → IsOrdered db order q count → IsOrdered end order q count
  ordered_later order q count h = λ j id e less. stays id (order_of q j) (h j id e less)

  pub orders_later : (orders p : ℕ) (levels : List (List Node)) → OrdersKnown db orders p levels → OrdersKnown end orders p levels
  orders_later orders p [] h = tt
  orders_later orders p (ns ∷ levels) h = (ordered_later (orders_end orders levels) p (length ns) h.0, orders_later orders (p + length ns) levels h.1)

-- ---- a level

nodes_known : (db : Database) (l : Lit) (q p counts : ℕ) (ns : List Node) → AreBothKnown db l q p counts ns → AreNodesKnown db l q p counts ns
nodes_known db l q p counts [] h = tt
nodes_known db l q p counts (n ∷ ns) h = (h.0.second, nodes_known db l q (p + 1) (counts + 2) ns h.1)

pub climbed-all : (ns : List Node) → AreUp 0 ns → last_top ns ≡ climbed 0 ns
climbed-all [] up = refl
climbed-all (n ∷ ns) up = omega (arith, climbed-last 0 n ns up)

pub rung_is : (db : Database) (r : Rung) → IsLevel r.term.coef r.nodes r.next → IsOrdered db r.order r.after (length r.next) → r.after + length r.next ≤ db.vars + 1 → r.term.lit.var < r.var → r.var + length r.nodes ≤ r.after
    → 0 < r.term.coef → 0 < last_top r.nodes → AreBothKnown db r.term.lit r.after r.var r.counts r.nodes → IsRung db r
rung_is db r level ordered fits low high coef some known =
    let top = climbed-all r.nodes level.up in
    let last = climbed-all r.next level.rise in
    record {
      ordered = ordered;
      fits = fits;
      up = level.up;
      rise = level.rise;
      low = low;
      high = high;
      known_lit = omega (arith, low, high, fits);
      counted = omega (arith, coef, some);
      enough = omega (arith, top);
      top = top;
      last = last;
      covered = omega (arith, level-covered r.term.coef r.nodes r.next level, top, last);
      known = nodes_known db r.term.lit r.after r.var r.counts r.nodes known;
      offs = children_weaker (IsOver r.term.coef r.next) (λ n. IsIn (length r.next) n.off) (λ n h. off_in r.next n.top n.off h.off) r.nodes level.over;
      places = children_weaker (IsOver r.term.coef r.next) (λ n. IsPlaceOf db.vars r.after n.on) (λ n h. place_of n.top n.on h.on) r.nodes level.over;
      ons = level-ons r.term.coef r.nodes r.next level;
      off_steps = level-off_steps r.term.coef r.nodes r.next level;
      on_steps = level-on_steps r.term.coef r.nodes r.next level;
      off_above = level-off_above r.term.coef r.nodes r.next level;
      on_above = level-on_above r.term.coef r.nodes r.next level;
    }
  where
    place_of : (top : ℕ) (t : Option ℕ) → OnOver r.term.coef r.next top t → IsPlaceOf db.vars r.after t
    place_of top None k = tt
    place_of top (Some t) k = omega (arith, k.0, fits)

-- ---- nodes beside each other

module _ (P : ℕ → Type 0) (db : Database) (l : Lit) (order q p a : ℕ) (next : List Node) (ordered : IsOrdered db order q (length next)) (fits : q + length next ≤ db.vars + 1) where
  off_pair : (k : ℕ) (f g : Option ℕ) (top end : ℕ) → OffLe f g → OffOver next top f → OffOver next end g → IsOffPair db order q (length next) ordered (all_but (p + suc k)) f g
  off_pair k None None top end le one other = tt
  off_pair k None (Some g) top end le one other = le
  off_pair k (Some f) None top end le one other = omega (arith, one.0, fits)
  off_pair k (Some f) (Some g) top end le one other = (le, other.0)

  on_pair : (k : ℕ) (t u : Option ℕ) (top end : ℕ) → OnLe t u → OnOver a next top t → OnOver a next end u → IsOnPair db order q (length next) ordered (all_but (p + suc k)) t u
  on_pair k None None top end le one other = tt
  on_pair k None (Some u) top end le one other = omega (arith, other.0, fits)
  on_pair k (Some t) None top end le one other = le
  on_pair k (Some t) (Some u) top end le one other = (le, other.0)

  pub beside_from : (v k counts : ℕ) (ns : List Node) → v ≡ p + k → AreBothKnown db l q v counts ns → AreChildren (IsOver a next) ns → AreSorted ns → AreBeside P order q (length next) l p db ordered k counts ns
  beside_from v k counts [] e known over sorted = tt
  beside_from v k counts (n ∷ []) e known over sorted = tt
  beside_from v k counts (n ∷ m ∷ ns) e known over sorted =
      let f : v + 1 ≡ p + suc k = omega (arith, e) in
      let i : counts + 2 + 1 ≡ counts + 3 = omega arith in (
        subst (λ (w : ℕ). Knows db counts (forward_of (child_reification l q w n))) e known.0.first,
        (
          subst (λ (w : ℕ). Knows db (counts + 3) (reverse_of (child_reification l q w m))) f (subst (λ (j : ℕ). Knows db j (reverse_of (child_reification l q (v + 1) m))) i known.1.0.second),
          (
            off_pair k n.off m.off n.top m.top sorted.0.0.off over.0.off over.1.0.off,
            (on_pair k n.on m.on n.top m.top sorted.0.0.on over.0.on over.1.0.on, beside_from (v + 1) (suc k) (counts + 2) (m ∷ ns) f known.1 over.1 sorted.1),
          ),
        ),
      )
