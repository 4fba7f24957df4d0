-- The clauses from parts to outputs of an exact sum's derivation, as the code has them.
use Rattle.std.proofs.Common.{◌≡◌, ◌≤◌, ◌+◌, ◌-◌, ◌*◌, ◌++◌, ℕ, zero, suc, List, [], ◌∷◌, length, map, min, refl, sym, ap, ◌∙◌, subst, arith}
use Rattle.std.specs.List.{range_with_len}
use Rattle.std.proofs.lemmas.List.FromFn.{length-map-range_with_len}
use Rattle.pb_base.specs.declared.literal.Term.{Term}
use Rattle.pb_norm.specs.BoundedSums.{vars_of}
use Rattle.pb_norm.specs.Constraints.{weights}
use Rattle.pb_derive.specs.Claims.{claim_steps}
use Rattle.pb_derive.specs.Justifications.{Justification, by_justification}
use Rattle.pb_family.proofs.Looping.{ArePieces}
use Rattle.pb_family.proofs.SameSteps.{HaveSameSteps}
use Rattle.pb_family.proofs.Sequence.{justification_piece, justification_pieces}
use Rattle.pb_tree.specs.Pairs.{pair_of}
use Rattle.pb_tree.specs.Scheme.{values, fresh_of}
use Rattle.pb_tree.specs.Tree.{Tree, tree_of}
use Rattle.pb_tree.specs.TreeSteps.{output_ids, part_ids, part_weakened, pair_justification, pair_justifications, root_justification}
use Rattle.pb_tree.proofs.PairLists.{map-map}
use Rattle.pb_tree.proofs.TreeHanded.{range_shift, bare, bare_same}
use Rattle.pb_tree.proofs.TreeRows.{leaves_of}
use Rattle.pb_totalizer.specs.Exact.{outputs_of}
use Rattle.pb_totalizer.specs.Totalizer.{partners, totalizer}
use Rattle.pb_totalizer.specs.OutputSteps.{totalizer_pairs}
use Rattle.pb_totalizer.specs.declared.node_ids.NodeIds.{NodeIds}
use Rattle.pb_totalizer.specs.declared.node_ids.Source.{Source}
use Rattle.pb_totalizer.specs.declared.polarity.Direction.{Direction}
use Rattle.pb_totalizer.specs.laws.ByPairs.{partner_bounds}
use Rattle.pb_totalizer.specs.laws.PairRows.{rows_by_pairs}
use Rattle.pb_totalizer.specs.inner.Numbers.{most_by, numbers_by}
use Rattle.pb_totalizer.specs.inner.Rows.{one_beside, row_beside}
use Rattle.pb_totalizer.specs.inner.Sources.{ids_from, some_ids, weakened_at, pair_given, node_given, root_given}

-- ---- rows

-- a clause for each number of a row
range_are : (f : ℕ → Justification) (js : List ℕ) (low n : ℕ) → range_with_len low n ≡ js → map f js ≡ map (λ k. f (low + k)) (range_with_len 0 n)
range_are f js low n same = ap (map f) (sym same ∙ ap (λ (a : ℕ). range_with_len a n) (let e : low ≡ low + 0 = omega arith in e)) ∙ range_shift f low 0 n

module _ (direction : Direction) (node : NodeIds) (i low n : ℕ) (same : range_with_len low n ≡ numbers_by direction (most_by direction node.cap node.count) node.right.count i) where
  pub row_are : ArePieces (λ next. claim_steps next (map by_justification (row_beside direction node i))) (justification_piece (λ k. one_beside direction node i (low + k))) 1 n
  row_are = record {
    same = λ next.
        ap (λ (rs : List Justification). claim_steps next (map by_justification rs)) (range_are (one_beside direction node i) _ low n same) ∙ justification_pieces (λ k. one_beside direction node i (low + k)) next 0 n;
    ids = λ next k. refl;
  }

  pub row_counted : length (row_beside direction node i) ≡ n
  row_counted = ap length (range_are (one_beside direction node i) _ low n same) ∙ length-map-range_with_len (λ k. one_beside direction node i (low + k)) 0 n

-- ---- the clauses of a node

some_are : (source : Source) (bound : ℕ) (t : Tree) (id u : ℕ) → ids_from source ≡ output_ids (totalizer bound) t id → some_ids source u ≡ part_ids (totalizer bound) t id u
some_are source bound t id zero same = refl
some_are source bound t id (suc u) same = ap (λ (f : ℕ → List ℕ). f (suc u)) same

weakened_are : (ts : List Term) (u : ℕ) → vars_of (weights (weakened_at ts u)) ≡ part_weakened (tree_of (weights ts)) u
weakened_are ts zero = ap vars_of (sym (leaves_of (weights ts)))
weakened_are ts (suc u) = refl

abbrev pub named : List ℕ → List ℕ → Justification
named ids weakened = record { clause = []; ids = ids; weakened = weakened }

module _ (bound : ℕ) (lefts rights : List Term) (id own : ℕ) (sl sr : Source)
    (left : ids_from sl ≡ output_ids (totalizer bound) (tree_of (weights lefts)) id)
    (right : ids_from sr ≡ output_ids (totalizer bound) (tree_of (weights rights)) (id + 2 * fresh_of (totalizer bound) (tree_of (weights lefts))))
    (at : own ≡ id + 2 * fresh_of (totalizer bound) (tree_of (weights lefts)) + 2 * fresh_of (totalizer bound) (tree_of (weights rights))) where
  given_is : (i j : ℕ) → i + j ≤ bound + 1 → pair_given sl lefts sr rights own i j ≡ bare (pair_justification (totalizer bound) (tree_of (weights lefts)) (tree_of (weights rights)) 0 id (pair_of i j))
  given_is i j le =
      let s = totalizer bound in
      let l = tree_of (weights lefts) in
      let r = tree_of (weights rights) in
      let one = some_are sl bound l id i left in
      let two = some_are sr bound r (id + 2 * fresh_of s l) j right in
      let last : own + 2 * (i + j - 1) + 1 ≡ id + 2 * (fresh_of s l + fresh_of s r + (min (i + j) (bound + 1) - 1)) + 1 = omega (arith, at, le) in
      let three = weakened_are lefts i in
      let four = weakened_are rights j in
      λ k. named (one k ++ (two k ++ last k ∷ [])) (three k ++ four k)

  node_are : (a b : ℕ) → a ≡ length (values (totalizer bound) (tree_of (weights lefts))) → b ≡ length (values (totalizer bound) (tree_of (weights rights)))
      → node_given (bound + 1) a b sl lefts sr rights own
      ≡ map bare (map (pair_justification (totalizer bound) (tree_of (weights lefts)) (tree_of (weights rights)) 0 id)
      (totalizer_pairs (bound + 1) (values (totalizer bound) (tree_of (weights lefts))) (values (totalizer bound) (tree_of (weights rights)))))
  node_are a b ea eb =
      let s = totalizer bound in
      let l = tree_of (weights lefts) in
      let r = tree_of (weights rights) in
      let n = length (values s l) in
      let m = length (values s r) in
      (λ k. node_given (bound + 1) (ea k) (eb k) sl lefts sr rights own)
      ∙ rows_by_pairs (pair_given sl lefts sr rights own) (λ p. bare (pair_justification s l r 0 id p)) (partners (bound + 1) m) (range_with_len 0 (n + 1)) (λ i j k. given_is i j (partner_bounds (bound + 1) m i j k).1)
      ∙ sym (map-map bare (pair_justification s l r 0 id) (totalizer_pairs (bound + 1) (values s l) (values s r)))

  -- with the steps of its clauses
  pub sums_same : (a b : ℕ) → a ≡ outputs_of bound (tree_of (weights lefts)) → b ≡ outputs_of bound (tree_of (weights rights))
      → HaveSameSteps (node_given (bound + 1) a b sl lefts sr rights own) (pair_justifications (totalizer bound) (totalizer_pairs (bound + 1)) (tree_of (weights lefts)) (tree_of (weights rights)) 0 id)
  sums_same a b ea eb =
      let ps = pair_justifications (totalizer bound) (totalizer_pairs (bound + 1)) (tree_of (weights lefts)) (tree_of (weights rights)) 0 id in
      subst (λ (rs : List Justification). HaveSameSteps rs ps) (sym (node_are a b ea eb)) (bare_same ps)

-- ---- the root

some_from : (source : Source) (u : ℕ) → 1 ≤ u → some_ids source u ≡ ids_from source u
some_from source zero some = absurd (omega arith)
some_from source (suc u) some = refl

pub root_is : (bound : ℕ) (ts : List Term) (id own : ℕ) (root : Source) → ids_from root ≡ output_ids (totalizer bound) (tree_of (weights ts)) id
    → root_given root (bound + 1) own ≡ bare (root_justification (totalizer bound) (tree_of (weights ts)) 0 id own)
root_is bound ts id own root same =
    let ids : some_ids root (bound + 1) ≡ output_ids (totalizer bound) (tree_of (weights ts)) id (bound + 1) = some_from root (bound + 1) (omega arith) ∙ ap (λ (f : ℕ → List ℕ). f (bound + 1)) same in
    ap (λ (is : List ℕ). named (is ++ own ∷ []) []) ids
