-- Each clause of a table follows from the constraints that its justification names.
use Rattle.std.proofs.Common.{◌≡◌, ◌≤◌, ◌<◌, ◌^◌, ℕ, List, [], ◌∷◌, ◌++◌, length, map, refl, ap, sym, ◌∙◌, arith, append-nil}
use Rattle.std.specs.Prelude.{Contains, All}
use Rattle.std.proofs.lemmas.List.Elements.{All-nil, All-append}
use Rattle.pb_base.specs.Literals.{negated}
use Rattle.pb_base.proofs.Members.{Contains-nil, Contains-here, Contains-there, among_from}
use Rattle.pb_norm.specs.Constraints.{Weighted, Constraint, weight}
use Rattle.pb_derive.specs.Reifications.{forward_of, reverse_of}
use Rattle.pb_derive.proofs.Justified.{IsJustified, IsWhole, ReificationsKnown}
use Rattle.pb_derive.proofs.Sides.{side_none, side_fresh, follows_pair}
use Rattle.pb_tree.specs.Pairs.{Pair}
use Rattle.pb_tree.specs.Scheme.{Scheme, values, output}
use Rattle.pb_tree.specs.Tree.{Tree, empty, leaf, node, tree_of}
use Rattle.pb_tree.specs.TreeSteps.{leaves, reifications, justifications}
use Rattle.pb_tree.proofs.AlongJustifications.{clause_in}
use Rattle.pb_tree.proofs.PairLists.{map-append, map-map}
use Rattle.pb_tree.proofs.PairJustifications.{IsPositive, justifications_clauses, justifications_justified, all_map}
use Rattle.pb_tree.proofs.Sums.{IsLawful}
use Rattle.pb_tree.proofs.TreeDerives.{UpTo, justifications_whole}
use Rattle.pb_tree.proofs.TreeReifications.{reification, output_known}
use Rattle.pb_tree.proofs.TreeParts.{AreFromParts, IsOver, value_le}
use Rattle.pb_gentot.specs.BoundTable.{uncut, table_values, table_clauses, neighbours}
use Rattle.pb_gentot.specs.BoundTableSteps.{neighbour_justification, table_justifications}
use Rattle.pb_gentot.specs.Generalized.{generalized}
use Rattle.pb_gentot.specs.GeneralizedSteps.{generalized_pairs}
use Rattle.pb_gentot.specs.laws.ByPairs.{generalized_by_pairs}
use Rattle.pb_gentot.specs.laws.GeneralizedLaws.{Always, generalized_lawful}
use Rattle.pb_gentot.proofs.Neighbours.{neighbour_cases}
use Rattle.pb_gentot.proofs.Emitting.{rising_values}

-- two values of a node
neighbour_justified : (K : ℕ → Constraint → Type 0) (s : Scheme) (W : ℕ → Type 0) → IsLawful s W → AreFromParts s → (low : ℕ) (l r : Tree) (first id : ℕ) → IsOver s low (node l r) → weight (leaves (node l r)) < 2 ^ 100
    → ReificationsKnown K id (reifications s (node l r) first) → (p : Pair) → Contains (values s (node l r)) p.left → Contains (values s (node l r)) p.right → p.left ≤ p.right → IsJustified K (neighbour_justification s (node l r) first id p)
neighbour_justified K s W laws from low l r first id over light known p hu hv le =
    let t = node l r in
    let o = output s t first in
    let u = p.left in
    let v = p.right in
    let clause = negated (o v) ∷ o u ∷ [] in
    let later = reification (o v).var (leaves t) v in
    let earlier = reification (o u).var (leaves t) u in
    let one = output_known K s W laws l r first id v known hv in
    let two = output_known K s W laws l r first id u known hu in
    let side = side_fresh clause later (value_le s from t over.weights v hv) (among_from clause (negated (o v)) (Contains-here (negated (o v)) (o u ∷ []))) in
    let none = side_none clause [] [] (λ t h. absurd (Contains-nil t h)) (λ k h. Contains-nil k.var) in (
      forward_of later ∷ reverse_of earlier ∷ [],
      (one.0, (two.1, tt)),
      follows_pair clause (leaves t) [] v 0 (forward_of later ∷ []) [] [] [] earlier side none (sym (append-nil (leaves t))) (omega arith)
          (among_from clause (o u) (Contains-there (negated (o v)) (o u ∷ []) (o u) (Contains-here (o u) []))) (omega (arith, light)) (neighbour_justification s t first id p).ids,
    )

-- at the root of a tree
neighbours_justified : (K : ℕ → Constraint → Type 0) (bound low : ℕ) (t : Tree) (first id : ℕ) → IsOver (generalized bound) low t → weight (leaves t) < 2 ^ 100 → ReificationsKnown K id (reifications (generalized bound) t first)
    → All (IsJustified K) (map (neighbour_justification (generalized bound) t first id) (neighbours (values (generalized bound) t)))
neighbours_justified K bound low empty first id over light known = All-nil (IsJustified K)
neighbours_justified K bound low (leaf t) first id over light known = All-nil (IsJustified K)
neighbours_justified K bound low (node l r) first id over light known =
    let s = generalized bound in
    let us = values s (node l r) in
    all_map (IsJustified K) (neighbour_justification s (node l r) first id) (neighbours us) (λ p h.
    let both = neighbour_cases us (rising_values bound (node l r) us refl) p h in
    let less = both.2 in
    neighbour_justified K s Always (generalized_lawful bound) (generalized_by_pairs bound).from low l r first id over light known p both.0 both.1 (omega arith))

neighbours_whole : (vars : ℕ) (s : Scheme) (t : Tree) (first id : ℕ) → All (IsWhole vars) (map (neighbour_justification s t first id) (neighbours (values s t)))
neighbours_whole vars s empty first id = All-nil (IsWhole vars)
neighbours_whole vars s (leaf t) first id = All-nil (IsWhole vars)
neighbours_whole vars s (node l r) first id =
    all_map (IsWhole vars) (neighbour_justification s (node l r) first id) (neighbours (values s (node l r))) (λ p h. record { some = λ e. omega (arith, ap length e); vars_known = All-nil (UpTo vars) })

-- ---- all of them

pub table_justifications_clauses : (ts : List Weighted) (first id : ℕ) → IsPositive (uncut ts) (tree_of ts) → map clause_in (table_justifications ts first id) ≡ table_clauses ts first
table_justifications_clauses ts first id positive =
    let s = uncut ts in
    let t = tree_of ts in
    let own = neighbour_justification s t first id in
    let one = justifications_clauses s generalized_pairs (generalized_by_pairs (weight ts)) t first id positive in
    let two = map-map clause_in own (neighbours (table_values ts)) in
    map-append clause_in (justifications s generalized_pairs t first id) (map own (neighbours (table_values ts))) ∙ (λ i. one i ++ two i)

pub table_justified : (K : ℕ → Constraint → Type 0) (ts : List Weighted) (first id : ℕ) → IsOver (uncut ts) first (tree_of ts) → weight (leaves (tree_of ts)) < 2 ^ 100
    → ReificationsKnown K id (reifications (uncut ts) (tree_of ts) first) → All (IsJustified K) (table_justifications ts first id)
table_justified K ts first id over light known =
    let s = uncut ts in
    let t = tree_of ts in
    All-append (IsJustified K) (justifications s generalized_pairs t first id) (map (neighbour_justification s t first id) (neighbours (table_values ts)))
    (justifications_justified K s Always (generalized_lawful (weight ts)) generalized_pairs (generalized_by_pairs (weight ts)) first t first id (omega arith) over light known)
    (neighbours_justified K (weight ts) first t first id over light known)

pub table_whole : (vars : ℕ) (ts : List Weighted) (first id : ℕ) → All (λ w. w.lit.var ≤ vars) (leaves (tree_of ts)) → All (IsWhole vars) (table_justifications ts first id)
table_whole vars ts first id h =
    All-append (IsWhole vars) (justifications (uncut ts) generalized_pairs (tree_of ts) first id) (map (neighbour_justification (uncut ts) (tree_of ts) first id) (neighbours (table_values ts)))
    (justifications_whole vars (uncut ts) generalized_pairs (tree_of ts) first id h) (neighbours_whole vars (uncut ts) (tree_of ts) first id)
