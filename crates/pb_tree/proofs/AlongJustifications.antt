-- Justifications along a tree, node by node, whatever a node's own are.
use Rattle.std.proofs.Common.{◌≡◌, ◌≤◌, ◌<◌, ◌+◌, ◌*◌, ◌^◌, ◌++◌, ℕ, List, map, refl, ap, ◌∙◌, arith, inl, inr}
use Rattle.std.specs.Prelude.{All}
use Rattle.std.proofs.lemmas.List.Elements.{All-nil, All-append}
use Rattle.pb_base.specs.declared.literal.Lit.{Lit}
use Rattle.pb_base.proofs.Members.{All-append_both}
use Rattle.pb_norm.specs.Constraints.{Weighted, Constraint, weight}
use Rattle.pb_derive.specs.Justifications.{Justification}
use Rattle.pb_derive.proofs.Justified.{IsJustified, IsWhole, ReificationsKnown}
use Rattle.pb_derive.proofs.Appends.{weight-append}
use Rattle.pb_tree.specs.Scheme.{Scheme, fresh_of, along}
use Rattle.pb_tree.specs.Tree.{Tree, empty, leaf, node, IsLeafOf}
use Rattle.pb_tree.specs.TreeSteps.{leaves, reifications, justifications_along}
use Rattle.pb_tree.proofs.PairLists.{map-append}
use Rattle.pb_tree.proofs.TreeReifications.{known_left, known_right}
use Rattle.pb_tree.proofs.TreeParts.{IsOver, over_left, over_right}

abbrev pub clause_in : Justification → List Lit
clause_in r = r.clause

-- the clauses are those along the tree, where each leaf meets what a node's own need
pub along_clauses : (s : Scheme) (own : Tree → Tree → ℕ → ℕ → List Justification) (clauses : Tree → Tree → ℕ → List (List Lit)) (P : Weighted → Type 0)
    → ((l r : Tree) (first id : ℕ) → ((u : Weighted) → IsLeafOf (node l r) u → P u) → map clause_in (own l r first id) ≡ clauses l r first)
    → (t : Tree) (first id : ℕ) → ((u : Weighted) → IsLeafOf t u → P u) → map clause_in (justifications_along s own t first id) ≡ along s clauses t first
along_clauses s own clauses P each empty first id h = refl
along_clauses s own clauses P each (leaf t) first id h = refl
along_clauses s own clauses P each (node l r) first id h =
    let lefts = justifications_along s own l first id in
    let rights = justifications_along s own r (first + fresh_of s l) (id + 2 * fresh_of s l) in
    let one = along_clauses s own clauses P each l first id (λ u m. h u (inl m)) in
    let two = along_clauses s own clauses P each r (first + fresh_of s l) (id + 2 * fresh_of s l) (λ u m. h u (inr m)) in
    let three = each l r first id h in
    map-append clause_in lefts (rights ++ own l r first id)
    ∙ ap (λ (cs : List (List Lit)). map clause_in lefts ++ cs) (map-append clause_in rights (own l r first id))
    ∙ (λ i. one i ++ (two i ++ three i))

-- they are justified where a node's own are
pub along_justified : (K : ℕ → Constraint → Type 0) (s : Scheme) (own : Tree → Tree → ℕ → ℕ → List Justification) (low : ℕ)
    → ((l r : Tree) (first id : ℕ) → low ≤ first → IsOver s low (node l r) → weight (leaves (node l r)) < 2 ^ 100 → ReificationsKnown K id (reifications s (node l r) first) → All (IsJustified K) (own l r first id))
    → (t : Tree) (first id : ℕ) → low ≤ first → IsOver s low t → weight (leaves t) < 2 ^ 100 → ReificationsKnown K id (reifications s t first) → All (IsJustified K) (justifications_along s own t first id)
along_justified K s own low each empty first id le over light known = All-nil (IsJustified K)
along_justified K s own low each (leaf t) first id le over light known = All-nil (IsJustified K)
along_justified K s own low each (node l r) first id le over light known =
    let middle = first + fresh_of s l in
    let next = id + 2 * fresh_of s l in
    let sum = weight-append (leaves l) (leaves r) in
    All-append (IsJustified K) (justifications_along s own l first id) (justifications_along s own r middle next ++ own l r first id)
    (along_justified K s own low each l first id le (over_left s low l r over) (omega (arith, light, sum)) (known_left K s l r first id known))
    (All-append (IsJustified K) (justifications_along s own r middle next) (own l r first id)
    (along_justified K s own low each r middle next (omega arith) (over_right s low l r over) (omega (arith, light, sum)) (known_right K s l r first id known))
    (each l r first id le over light known))

-- and whole
pub along_whole : (vars : ℕ) (s : Scheme) (own : Tree → Tree → ℕ → ℕ → List Justification)
    → ((l r : Tree) (first id : ℕ) → All (λ w. w.lit.var ≤ vars) (leaves (node l r)) → All (IsWhole vars) (own l r first id))
    → (t : Tree) (first id : ℕ) → All (λ w. w.lit.var ≤ vars) (leaves t) → All (IsWhole vars) (justifications_along s own t first id)
along_whole vars s own each empty first id h = All-nil (IsWhole vars)
along_whole vars s own each (leaf t) first id h = All-nil (IsWhole vars)
along_whole vars s own each (node l r) first id h =
    let parts = All-append_both (λ (w : Weighted). w.lit.var ≤ vars) (leaves l) (leaves r) h in
    let middle = first + fresh_of s l in
    let next = id + 2 * fresh_of s l in
    All-append (IsWhole vars) (justifications_along s own l first id) (justifications_along s own r middle next ++ own l r first id) (along_whole vars s own each l first id parts.0)
    (All-append (IsWhole vars) (justifications_along s own r middle next) (own l r first id) (along_whole vars s own each r middle next parts.1) (each l r first id h))
