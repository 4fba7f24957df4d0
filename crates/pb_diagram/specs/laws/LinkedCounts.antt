-- How many clauses there are, and what they name. It serves proofs alone.
use Rattle.std.proofs.Common.{◌≡◌, ◌<◌, ◌≤◌, ◌+◌, ◌-◌, ◌⊎◌, ℕ, Bool, true, false, ltb, leb, List, [], ◌∷◌, length, refl, ap, arith, inl, inr, length-append}
use Rattle.std.specs.Prelude.{Contains, All, map}
use Rattle.std.specs.List.{count_by}
use Rattle.std.proofs.lemmas.Bool.{cases_lt, lt-ltb, le-ltb, le-leb, lt-leb, cond-true, cond-false}
use Rattle.std.proofs.lemmas.List.Elements.{All-cons, All-nil, All-append}
use Rattle.std.proofs.lemmas.List.Sums.{sum_by-cons, count_by-le-length}
use Rattle.pb_base.specs.declared.literal.Lit.{Lit}
use Rattle.pb_norm.specs.Constraints.{Weighted, weight}
use Rattle.pb_base.specs.Literals.{negated}
use Rattle.pb_family.specs.Fresh.{positive_of}
use Rattle.pb_base.proofs.Members.{Contains-here, Contains-there, Contains-map}
use Rattle.pb_family.proofs.UnitSums.{count_by-cons_true, count_by-cons_false}
use Rattle.pb_family.specs.Families.{NamesOnly}
use Rattle.pb_diagram.specs.declared.interval.Interval.{Interval}
use Rattle.pb_diagram.specs.Clauses.{node_at, false_clause, true_clause, level_clauses, head_level, node_clauses, clauses_over, node_count, inner_count, clause_count_over}
use Rattle.pb_diagram.specs.inner.Links.{AreLinked, IsRootNode}
use Rattle.pb_diagram.specs.laws.ClauseRows.{NodeRows, from_node_rows}
use Rattle.pb_diagram.specs.laws.LinkedNodes.{place, linked_at, head_le}

length_level : (t : Weighted) (whole first : ℕ) (next : List Interval) (x : ℕ) (nodes : List Interval) → length (level_clauses t whole first next x nodes) ≡ length nodes + count_by (λ g. ltb g.low whole) nodes
length_level t whole first next x [] = refl
length_level t whole first next x (g ∷ gs) =
    let clause : List Lit = negated (positive_of x) ∷ node_at first next g.low ∷ [] in
    let rest = length_level t whole first next (x + 1) gs in
    let joined = length-append (false_clause whole first next x g) (true_clause t first next x g ∷ level_clauses t whole first next (x + 1) gs) in
    elim (cases_lt g.low whole) as (λ _. length (level_clauses t whole first next x (g ∷ gs)) ≡ length (g ∷ gs) + count_by (λ g. ltb g.low whole) (g ∷ gs)) [
      | inl below ↦
          let one = ap length (cond-false (leb whole g.low) [] (clause ∷ []) (lt-leb whole g.low below)) in
          let counted = count_by-cons_true (λ (g : Interval). ltb g.low whole) g gs (lt-ltb g.low whole below) in
          omega arith
      | inr above ↦
          let one = ap length (cond-true (leb whole g.low) [] (clause ∷ []) (le-leb whole g.low above)) in
          let counted = count_by-cons_false (λ (g : Interval). ltb g.low whole) g gs (le-ltb g.low whole above) in
          omega arith
    ]

length_nodes : (first : ℕ) (ts : List Weighted) (levels : List (List Interval)) → AreLinked ts levels → length (node_clauses first ts levels) ≡ node_count levels + inner_count ts levels
length_nodes first [] [] linked = refl
length_nodes first [] (nodes ∷ levels) linked = absurd linked
length_nodes first (t ∷ ts) [] linked = absurd linked
length_nodes first (t ∷ ts) (nodes ∷ levels) linked =
    let here = level_clauses t (weight ts) (first + length nodes) (head_level levels) first nodes in
    omega (
      arith,
      length-append here (node_clauses (first + length nodes) ts levels),
      length_level t (weight ts) (first + length nodes) (head_level levels) first nodes,
      length_nodes (first + length nodes) ts levels linked.1,
      sum_by-cons (length {A = Interval}) nodes levels,
    )

pub linked_counts : (ts : List Weighted) (levels : List (List Interval)) → AreLinked ts levels → (first : ℕ) → length (clauses_over ts levels first) ≡ clause_count_over ts levels
linked_counts ts levels linked first =
    omega (arith, length-append (node_clauses first ts levels) ((positive_of first ∷ []) ∷ []), length_nodes first ts levels linked)

-- each inner node is a node
pub inner-le : (ts : List Weighted) (ls : List (List Interval)) → inner_count ts ls ≤ node_count ls
inner-le [] ls = omega arith
inner-le (t ∷ ts) [] = omega arith
inner-le (t ∷ ts) (nodes ∷ ls) = omega (arith, inner-le ts ls, count_by-le-length (λ (g : Interval). ltb g.low (weight ts)) nodes, sum_by-cons (length {A = Interval}) nodes ls)

-- ---- names

node_rows_named : (N : Lit → Type 0) (first end : ℕ) → ((x : ℕ) (b : Bool) → first ≤ x → x < end → N (record { var = x; positive = b })) → (start : ℕ) (ts : List Weighted) (levels : List (List Interval)) → AreLinked ts levels
    → ((t : Weighted) → Contains ts t → N (negated t.lit)) → first ≤ start → start + node_count levels ≤ end → NodeRows (All N) start ts levels
node_rows_named N first end fresh start [] levels linked own low high = tt
node_rows_named N first end fresh start (t ∷ ts) [] linked own low high = tt
node_rows_named N first end fresh start (t ∷ ts) (nodes ∷ levels) linked own low high =
    let next = head_level levels in
    let count = sum_by-cons (length {A = Interval}) nodes levels in
    let head = head_le levels in
    let two = λ (a b : Lit) (ha : N a) (hb : N b). All-cons N a (b ∷ []) ha (All-cons N b [] hb (All-nil N)) in
    let m = own t (Contains-here t ts) in (
      (λ p g within is.
          let links = linked_at t ts nodes levels linked p g within is in
          let x : N (negated (positive_of (start + p))) = fresh (start + p) false (omega arith) (omega arith) in
          record {
            off = λ inner.
                let there = (links.off inner).within in
                two (negated (positive_of (start + p))) (node_at (start + length nodes) next g.low) x (fresh (start + length nodes + place g.low next) true (omega arith) (omega arith));
            on = λ room.
                let there = (links.on room).within in
                All-cons N (negated (positive_of (start + p))) (negated t.lit ∷ node_at (start + length nodes) next (g.low - t.coef) ∷ []) x
                (two (negated t.lit) (node_at (start + length nodes) next (g.low - t.coef)) m (fresh (start + length nodes + place (g.low - t.coef) next) true (omega arith) (omega arith)));
            full = λ full. two (negated (positive_of (start + p))) (negated t.lit) x m;
          }),
      node_rows_named N first end fresh (start + length nodes) ts levels linked.1 (λ u h. own u (Contains-there t ts u h)) (omega arith) (omega arith),
    )

pub linked_names : (ts : List Weighted) (bound : ℕ) (levels : List (List Interval)) → AreLinked ts levels → IsRootNode bound levels → (first : ℕ) → NamesOnly ts first (node_count levels) (clauses_over ts levels first)
linked_names ts bound levels linked root first =
    let N : Lit → Type 0 = λ l. Contains (map (λ t. t.lit.var) ts) l.var ⊎ ((first ≤ l.var) × (l.var < first + node_count levels)) in
    let some : 0 < node_count levels = omega (arith, ap length root.is, head_le levels) in
    All-append (All N) (node_clauses first ts levels) ((positive_of first ∷ []) ∷ [])
    (from_node_rows (All N) first ts levels (node_rows_named N first (first + node_count levels) (λ x b low high. inr (low, high)) first ts levels linked (λ t h. inl (Contains-map (λ (t : Weighted). t.lit.var) ts t h)) (omega arith) (omega arith)))
    (All-cons (All N) (positive_of first ∷ []) [] (All-cons N (positive_of first) [] (inr (omega arith, omega arith)) (All-nil N)) (All-nil (All N)))
