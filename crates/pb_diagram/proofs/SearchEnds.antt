-- Where a search for the nodes of a diagram ends, and how many it knows.
use Rattle.std.proofs.Common.{◌≡◌, ◌<◌, ◌≤◌, ◌+◌, ℕ, List, [], ◌∷◌, length, get_or, drop, sym, ◌∙◌, subst, arith, inl, inr, zero, suc}
use Rattle.std.specs.Prelude.{Contains}
use Rattle.std.proofs.lemmas.Bool.{cases_lt}
use Rattle.std.proofs.lemmas.List.{drop_more, same_lists, get_or_default}
use Rattle.std.proofs.lemmas.List.Sums.{sum_by-cons}
use Rattle.pb_diagram.specs.declared.interval.Interval.{Interval}
use Rattle.pb_diagram.specs.Clauses.{node_count}
use Rattle.pb_diagram.specs.Levels.{level, levels_from}
use Rattle.pb_diagram.specs.inner.Nodes.{LiesIn, IsInterval, IsResidue, IsNode}
use Rattle.pb_diagram.specs.laws.LevelFacts.{first_residue, node_of, listed_node, level_apart, node_around, same_interval}
use Rattle.pb_diagram.specs.laws.Search.{nodes_at, before_at, IsPartSearched, IsIntervalClosed, IsSearch}
use Rattle.pb_diagram.specs.Sums.{sums}
use Rattle.pb_diagram.specs.laws.SumFacts.{sums_without, sums_with, sums_cases, sums_none, sums-le, sum-cons}
use Rattle.pb_diagram.proofs.SameNodes.{same_nodes, length_within}
use Rattle.pb_diagram.proofs.SearchSteps.{before_at_next, levels_from_length, levels_from_at, before_at_first, next_part}

-- a node that holds a residue which a known node holds is that one
known_node : (ss : List ℕ) (nodes : List Interval) (g h : Interval) (residue : ℕ) → IsInterval ss g → IsInterval ss h → LiesIn residue g → LiesIn residue h → Contains nodes g → Contains nodes h
known_node ss nodes g h residue is_g is_h in_g in_h among = subst (λ (j : Interval). Contains nodes j) (same_interval ss g h residue is_g is_h in_g in_h) among

-- a node of the next level has a parent, whose child it is
child_known : (bound a : ℕ) (before rest : List ℕ) (nodes next : List Interval)
    → ((g : Interval) → IsNode bound before (a ∷ rest) g → Contains nodes g)
    → IsPartSearched bound (a ∷ before) rest next
    → ((g : Interval) → Contains nodes g → IsIntervalClosed a rest next g)
    → (h : Interval) → IsNode bound (a ∷ before) rest h → Contains next h
child_known bound a before rest nodes next complete part closed h node =
    let r = node.residue in
    let bounds = node.inside in
    let whole = node.reached.whole in
    let all = sum-cons a rest in
    let most = sums-le rest h.top node.interval.top_in in
    elim (sums_cases a before node.reached.spent node.reached.is_sum) as (λ _. Contains next h) [
      | inl without ↦
          let parent = node_around bound before (a ∷ rest) r (record { spent = node.reached.spent; is_sum = without; whole = whole }) (omega arith) in
          let g = parent.0 in
          let in_g = parent.2 in
          let child = (closed g (complete g parent.1)).off (omega arith) in
          let is_child = (part.is_node child.0 child.1).interval in
          let in_child = child.2 in
          let up = parent.1.interval.next child.0.top (sums_without a rest child.0.top is_child.top_in) (omega arith) in
          known_node (sums rest) next child.0 h r is_child node.interval (omega arith, omega arith) bounds child.1
      | inr with_a ↦
          let spent = with_a.2 in
          let parent = node_around bound before (a ∷ rest) (r + a) (record { spent = with_a.0; is_sum = with_a.1; whole = omega arith }) (omega arith) in
          let g = parent.0 in
          let in_g = parent.2 in
          let one : a + 0 ≡ a = omega arith in
          let room : a ≤ g.low = elim (cases_lt g.low a) as (λ _. a ≤ g.low) [
            | inl below ↦
                let up = parent.1.interval.next a (subst (λ (s : ℕ). Contains (sums (a ∷ rest)) s) one (sums_with a rest 0 (sums_none rest))) below in
                absurd (omega arith)
            | inr le ↦ le
          ] in
          let child = (closed g (complete g parent.1)).on room in
          let is_child = (part.is_node child.0 child.1).interval in
          let in_child = child.2 in
          let up = parent.1.interval.next (a + child.0.top) (sums_with a rest child.0.top is_child.top_in) (omega arith) in
          known_node (sums rest) next child.0 h r is_child node.interval (omega arith, omega arith) bounds child.1
    ]

complete_at : (bound : ℕ) (coefs : List ℕ) (known : List (List Interval)) → IsSearch bound coefs known [] → (i : ℕ) → i < length coefs → (g : Interval) → IsNode bound (before_at [] coefs i) (drop i coefs) g → Contains (nodes_at known i) g
complete_at bound coefs known search zero within g node =
    elim search.root as (λ _. Contains (nodes_at known 0) g) [
      | inl some ↦ absurd (omega arith)
      | inr root ↦
          let is_root = ((search.parts 0 within).is_node root.0 root.1).interval in
          let start : node.residue ≡ bound = first_residue bound node.residue (subst (λ (l : List ℕ). IsResidue bound l node.residue) (before_at_first [] coefs) node.reached) in
          let inside = subst (λ (n : ℕ). LiesIn n g) start node.inside in
          known_node (sums (drop 0 coefs)) (nodes_at known 0) root.0 g bound is_root node.interval root.2 inside root.1
    ]
complete_at bound coefs known search (suc i) within g node =
    let shift : suc i ≡ i + 1 = omega arith in
    let less : i < length coefs = omega arith in
    let a = get_or coefs i 0 in
    let before = before_at [] coefs i in
    let rest = drop (i + 1) coefs in
    let next = nodes_at known (i + 1) in
    let node_here : IsNode bound (a ∷ before) rest g =
    subst (λ (l : List ℕ). IsNode bound l rest g) (before_at_next [] coefs i less) (subst (λ (n : ℕ). IsNode bound (before_at [] coefs n) (drop n coefs) g) shift node) in
    subst (λ (n : ℕ). Contains (nodes_at known n) g) (sym shift)
    (child_known bound a before rest (nodes_at known i) next
    (λ h is_node. complete_at bound coefs known search i less h (subst (λ (l : List ℕ). IsNode bound before l h) (sym (drop_more coefs i 0 less)) is_node))
    (next_part bound coefs known [] search i less)
    (search.closed i less)
    g node_here)

rises_of : (bound : ℕ) (before rest : List ℕ) (nodes : List Interval) → ((g : Interval) → Contains nodes g → IsNode bound before rest g) → (g : Interval) → Contains nodes g → g.low < g.top
rises_of bound before rest nodes is_node g among = (is_node g among).interval.rises

pub search_ends : (bound : ℕ) (coefs : List ℕ) (known : List (List Interval)) → IsSearch bound coefs known [] → known ≡ levels_from bound [] coefs
search_ends bound coefs known search =
    let same_length = search.levels in
    same_lists known (levels_from bound [] coefs) (search.levels ∙ sym (levels_from_length bound [] coefs)) (λ k d below.
    let within : k < length coefs = omega arith in
    let before = before_at [] coefs k in
    let rest = drop k coefs in
    let part = search.parts k within in
    let same : nodes_at known k ≡ level bound before rest = same_nodes (nodes_at known k) (level bound before rest) part.apart (level_apart bound before rest)
    (rises_of bound before rest (nodes_at known k) part.is_node)
    (rises_of bound before rest (level bound before rest) (node_of bound before rest))
    (λ g among. listed_node bound before rest g (part.is_node g among))
    (λ g among. complete_at bound coefs known search k within g (node_of bound before rest g among)) in
    get_or_default known k d [] below ∙ same ∙ sym (levels_from_at bound [] coefs k within)
    ∙ get_or_default (levels_from bound [] coefs) k [] d (omega (arith, levels_from_length bound [] coefs)))

-- ---- counts

sum_pointwise : (xs ys : List (List Interval)) → length xs ≡ length ys → ((k : ℕ) → k < length xs → length (nodes_at xs k) ≤ length (nodes_at ys k)) → node_count xs ≤ node_count ys
sum_pointwise [] [] same each = omega arith
sum_pointwise [] (y ∷ ys) same each = absurd (omega arith)
sum_pointwise (x ∷ xs) [] same each = absurd (omega arith)
sum_pointwise (x ∷ xs) (y ∷ ys) same each =
    omega (
      arith,
      sum_by-cons (length {A = Interval}) x xs,
      sum_by-cons (length {A = Interval}) y ys,
      (let head : length x ≤ length y = each 0 (omega arith) in head),
      sum_pointwise xs ys (omega arith) (λ k below. each (suc k) (omega arith)),
    )

-- no more nodes are known than there are
pub search_count : (bound : ℕ) (coefs : List ℕ) (known : List (List Interval)) (wanted : List ℕ) → IsSearch bound coefs known wanted → node_count known ≤ node_count (levels_from bound [] coefs)
search_count bound coefs known wanted search =
    sum_pointwise known (levels_from bound [] coefs) (search.levels ∙ sym (levels_from_length bound [] coefs)) (λ k below.
    let same_length = search.levels in
    let within : k < length coefs = omega arith in
    let before = before_at [] coefs k in
    let rest = drop k coefs in
    let part = search.parts k within in
    subst (λ (l : List Interval). length (nodes_at known k) ≤ length l) (sym (levels_from_at bound [] coefs k within))
    (length_within (nodes_at known k) (level bound before rest) part.apart (level_apart bound before rest)
    (rises_of bound before rest (nodes_at known k) part.is_node)
    (rises_of bound before rest (level bound before rest) (node_of bound before rest))
    (λ g among. listed_node bound before rest g (part.is_node g among))))
