-- The steps of a generalized totalizer's derivation as the code has their parts.
use Rattle.std.proofs.Common.{◌≡◌, ◌≤◌, ◌<◌, ◌+◌, ◌*◌, ◌++◌, ℕ, zero, suc, List, [], ◌∷◌, length, map, get_or, min, refl, sym, ap, ◌∙◌, subst, arith, inl, inr, append-nil, length-append}
use Rattle.std.specs.Prelude.{Contains, Result}
use Rattle.std.specs.List.{flat_map, range_with_len}
use Rattle.std.proofs.lemmas.Grind.{same_number_lists}
use Rattle.std.proofs.lemmas.List.Elements.{Contains-get_or}
use Rattle.std.proofs.lemmas.List.Folds.{flat_map-map}
use Rattle.std.proofs.lemmas.List.FromFn.{length-map-range_with_len, get_or-map-range_with_len}
use Rattle.pb_base.specs.declared.literal.Term.{Term}
use Rattle.pb_norm.specs.BoundedSums.{vars_of}
use Rattle.pb_norm.specs.Constraints.{weights}
use Rattle.pb_derive.specs.Justifications.{Justification}
use Rattle.pb_family.specs.HandedJustifications.{HandsJustifications}
use Rattle.pb_family.specs.StepSinks.{StepState}
use Rattle.pb_family.specs.declared.sink.SinkFault.{SinkFault}
use Rattle.pb_family.proofs.SameSteps.{HaveSameSteps, same_append}
use Rattle.pb_tree.specs.Pairs.{Pair, pair_of}
use Rattle.pb_tree.specs.Places.{place_of}
use Rattle.pb_tree.specs.Scheme.{values, fresh_of}
use Rattle.pb_tree.specs.Tree.{Tree, node, tree_of}
use Rattle.pb_tree.specs.TreeSteps.{leaves, output_ids, pair_justification, pair_justifications, root_justification}
use Rattle.pb_tree.proofs.Lists.{Contains-range_cases}
use Rattle.pb_tree.proofs.PairLists.{map_same, map-append, map-map, rows_same}
use Rattle.pb_tree.proofs.TreeHanded.{bare, bare_same}
use Rattle.pb_tree.proofs.TreeRows.{leaves_of}
use Rattle.pb_gentot.specs.Generalized.{generalized}
use Rattle.pb_gentot.specs.GeneralizedSteps.{generalized_pairs}
use Rattle.pb_gentot.specs.declared.node_ids.Handed.{Handed}
use Rattle.pb_gentot.specs.declared.node_ids.NodeIds.{NodeIds}
use Rattle.pb_gentot.specs.declared.node_ids.Source.{Source}
use Rattle.pb_gentot.specs.declared.node_ids.Source.TheVariants.{Leaf, Fresh}
use Rattle.pb_gentot.specs.laws.ByPairs.{value_from}
use Rattle.pb_gentot.specs.laws.GeneralizedLaws.{values_within}
use Rattle.pb_gentot.specs.inner.Ids.{ids_at, HasIds}
use Rattle.pb_gentot.specs.inner.Sources.{ids_of, second_of, one_at, ones_given, both_at, row_given, pairs_given, node_given, root_given, part_justifications, all_justifications}
use Rattle.pb_gentot.proofs.Emitting.{rising_values}
use Rattle.pb_gentot.proofs.RisingLists.{place_at}
use Rattle.pb_gentot.proofs.Parts.{AreLeavesPositive}

-- ---- values by their places

values_listed : (us : List ℕ) → us ≡ map (λ i. get_or us i 0) (range_with_len 0 (length us))
values_listed us = same_number_lists us _ (sym (length-map-range_with_len (λ i. get_or us i 0) 0 (length us))) (λ i within. sym (get_or-map-range_with_len (λ i. get_or us i 0) 0 (length us) i i 0 within (omega arith)))

by_places : {X : Type 0} (f : ℕ → X) (us : List ℕ) → map f us ≡ map (λ i. f (get_or us i 0)) (range_with_len 0 (length us))
by_places f us = ap (map f) (values_listed us) ∙ map-map f (λ i. get_or us i 0) (range_with_len 0 (length us))

rows_by_places : {X : Type 0} (f : ℕ → List X) (us : List ℕ) → flat_map f us ≡ flat_map (λ i. f (get_or us i 0)) (range_with_len 0 (length us))
rows_by_places f us = ap (flat_map f) (values_listed us) ∙ flat_map-map f (λ i. get_or us i 0) (range_with_len 0 (length us))

-- what is listed place by place, and value by value
places_same : {X : Type 0} (f g : ℕ → X) (us vs : List ℕ) → us ≡ vs → ((i : ℕ) → i < length us → f i ≡ g (get_or us i 0)) → map f (range_with_len 0 (length us)) ≡ map g vs
places_same f g us vs is each =
    map_same f (λ i. g (get_or us i 0)) (range_with_len 0 (length us)) (λ i h. let within = Contains-range_cases 0 (length us) i h in each i (omega arith)) ∙ sym (by_places g us) ∙ ap (map g) is

-- ---- clauses by places

-- fewer outputs have their ids too
pub has_fewer : (source : Source) (n k : ℕ) → k ≤ n → HasIds source n → HasIds source k
has_fewer Leaf n k le has = tt
has_fewer (Fresh id) n k le has = omega (arith, has, le)

-- a clause by ids that are written another way
pub by_ids : {R T : Type 0} (r : Result T SinkFault) (a b : StepState R) (weakened : List ℕ) {ms ns : List ℕ} → ms ≡ ns → HandsJustifications (record { clause = []; ids = ms; weakened = weakened } ∷ []) r a b
    → HandsJustifications (record { clause = []; ids = ns; weakened = weakened } ∷ []) r a b
by_ids r a b weakened same h = subst (λ (ids : List ℕ). HandsJustifications (record { clause = []; ids = ids; weakened = weakened } ∷ []) r a b) same h

pub row_length : (made : NodeIds) (i : ℕ) → length (row_given made i) ≡ length made.right.now.values.items
row_length made i = length-map-range_with_len (both_at made i) 0 (length made.right.now.values.items)

pub ones_length : (made : NodeIds) (part : Handed) (others : List Term) → length (ones_given made part others) ≡ length part.values.items
ones_length made part others = length-map-range_with_len (one_at made part others) 0 (length part.values.items)

pub node_length : (made : NodeIds) (lefts rights : List Term)
    → length (node_given made lefts rights) ≡ length made.left.now.values.items + (length made.right.now.values.items + length (pairs_given made))
node_length made lefts rights =
    let one = ones_given made made.left.now rights in
    let two = ones_given made made.right.now lefts in
    omega (arith, length-append one (two ++ pairs_given made), length-append two (pairs_given made), ones_length made made.left.now rights, ones_length made made.right.now lefts)

-- ---- the clauses of a node

abbrev named : List ℕ → List ℕ → Justification
named ids weakened = record { clause = []; ids = ids; weakened = weakened }

-- a value of a part
module _ (bound : ℕ) (ts : List Term) (part : Handed) (is : part.values.items ≡ values (generalized bound) (tree_of (weights ts))) (i : ℕ) (within : i < length part.values.items) where
  value_has : Contains (values (generalized bound) (tree_of (weights ts))) (get_or part.values.items i 0)
  value_has = subst (λ (us : List ℕ). Contains us (get_or part.values.items i 0)) is (Contains-get_or part.values.items i 0 within)

  value_low : AreLeavesPositive (tree_of (weights ts)) → 1 ≤ get_or part.values.items i 0
  value_low positive = value_from bound (tree_of (weights ts)) positive (get_or part.values.items i 0) value_has

  value_high : get_or part.values.items i 0 ≤ bound + 1
  value_high = values_within bound (tree_of (weights ts)) (get_or part.values.items i 0) value_has

  value_place : i ≡ place_of (get_or part.values.items i 0) part.values.items
  value_place = sym (place_at part.values.items i 0 (rising_values bound (tree_of (weights ts)) part.values.items is) within)

module _ (bound : ℕ) (lefts rights : List Term) (id : ℕ) (made : NodeIds) (cap : made.cap ≡ bound + 1)
    (lv : made.left.now.values.items ≡ values (generalized bound) (tree_of (weights lefts)))
    (rv : made.right.now.values.items ≡ values (generalized bound) (tree_of (weights rights)))
    (li : ids_of made.left.now ≡ output_ids (generalized bound) (tree_of (weights lefts)) id)
    (ri : ids_of made.right.now ≡ output_ids (generalized bound) (tree_of (weights rights)) (id + 2 * fresh_of (generalized bound) (tree_of (weights lefts))))
    (ov : made.own.now.values.items ≡ values (generalized bound) (node (tree_of (weights lefts)) (tree_of (weights rights))))
    (at : made.id ≡ id + 2 * fresh_of (generalized bound) (tree_of (weights lefts)) + 2 * fresh_of (generalized bound) (tree_of (weights rights)))
    (positive : AreLeavesPositive (node (tree_of (weights lefts)) (tree_of (weights rights)))) where
  abbrev l : Tree
  l = tree_of (weights lefts)

  abbrev r : Tree
  r = tree_of (weights rights)

  abbrev claim : Pair → Justification
  claim p = bare (pair_justification (generalized bound) (tree_of (weights lefts)) (tree_of (weights rights)) 0 id p)

  second_is : (w x : ℕ) → w ≡ x
      → second_of made w ≡ id + 2 * (fresh_of (generalized bound) l + fresh_of (generalized bound) r + place_of x (values (generalized bound) (node l r))) + 1
  second_is w x same =
      let place : place_of w made.own.now.values.items ≡ place_of x (values (generalized bound) (node l r)) = λ i. place_of (same i) (ov i) in
      omega (arith, at, place)

  left_one : (u : ℕ) → 1 ≤ u → u ≤ bound + 1 → named (ids_of made.left.now u ++ second_of made u ∷ []) (vars_of (weights rights)) ≡ claim (pair_of u 0)
  left_one zero low high = absurd (omega arith)
  left_one (suc u) low high =
      let ids = ap (λ (f : ℕ → List ℕ). f (suc u)) li in
      let second = second_is (suc u) (min (suc u + 0) (bound + 1)) (omega arith) in
      let gone = ap vars_of (sym (leaves_of (weights rights))) in
      λ k. named (ids k ++ second k ∷ []) (gone k)

  right_one : (v : ℕ) → 1 ≤ v → v ≤ bound + 1 → named (ids_of made.right.now v ++ second_of made v ∷ []) (vars_of (weights lefts)) ≡ claim (pair_of 0 v)
  right_one zero low high = absurd (omega arith)
  right_one (suc v) low high =
      let ids = ap (λ (f : ℕ → List ℕ). f (suc v)) ri in
      let second = second_is (suc v) (min (0 + suc v) (bound + 1)) (omega arith) in
      let gone = ap vars_of (sym (leaves_of (weights lefts))) ∙ sym (append-nil (vars_of (leaves l))) in
      λ k. named (ids k ++ second k ∷ []) (gone k)

  both_one : (u v : ℕ) → 1 ≤ u → 1 ≤ v → named (ids_of made.left.now u ++ (ids_of made.right.now v ++ second_of made (min (u + v) made.cap) ∷ [])) [] ≡ claim (pair_of u v)
  both_one zero v low high = absurd (omega arith)
  both_one (suc u) zero low high = absurd (omega arith)
  both_one (suc u) (suc v) low high =
      let one = ap (λ (f : ℕ → List ℕ). f (suc u)) li in
      let two = ap (λ (f : ℕ → List ℕ). f (suc v)) ri in
      let second = second_is (min (suc u + suc v) made.cap) (min (suc u + suc v) (bound + 1)) (ap (min (suc u + suc v)) cap) in
      λ k. named (one k ++ (two k ++ second k ∷ [])) []

  left_low : (i : ℕ) → i < length made.left.now.values.items → 1 ≤ get_or made.left.now.values.items i 0
  left_low i within = value_low bound lefts made.left.now lv i within (λ w m. positive w (inl m))

  right_low : (j : ℕ) → j < length made.right.now.values.items → 1 ≤ get_or made.right.now.values.items j 0
  right_low j within = value_low bound rights made.right.now rv j within (λ w m. positive w (inr m))

  left_at : (i : ℕ) → i < length made.left.now.values.items → one_at made made.left.now rights i ≡ claim (pair_of (get_or made.left.now.values.items i 0) 0)
  left_at i within =
      let u = get_or made.left.now.values.items i 0 in
      ap (λ (k : ℕ). named (ids_at made.left.now.source k ++ second_of made u ∷ []) (vars_of (weights rights))) (value_place bound lefts made.left.now lv i within)
      ∙ left_one u (left_low i within) (value_high bound lefts made.left.now lv i within)

  right_at : (j : ℕ) → j < length made.right.now.values.items → one_at made made.right.now lefts j ≡ claim (pair_of 0 (get_or made.right.now.values.items j 0))
  right_at j within =
      let v = get_or made.right.now.values.items j 0 in
      ap (λ (k : ℕ). named (ids_at made.right.now.source k ++ second_of made v ∷ []) (vars_of (weights lefts))) (value_place bound rights made.right.now rv j within)
      ∙ right_one v (right_low j within) (value_high bound rights made.right.now rv j within)

  pair_at : (i j : ℕ) → i < length made.left.now.values.items → j < length made.right.now.values.items
      → both_at made i j ≡ claim (pair_of (get_or made.left.now.values.items i 0) (get_or made.right.now.values.items j 0))
  pair_at i j within also =
      let u = get_or made.left.now.values.items i 0 in
      let v = get_or made.right.now.values.items j 0 in
      let one = value_place bound lefts made.left.now lv i within in
      let two = value_place bound rights made.right.now rv j also in
      (λ k. named (ids_at made.left.now.source (one k) ++ (ids_at made.right.now.source (two k) ++ second_of made (min (u + v) made.cap) ∷ [])) [])
      ∙ both_one u v (left_low i within) (right_low j also)

  left_ones : ones_given made made.left.now rights ≡ map claim (map (λ u. pair_of u 0) (values (generalized bound) l))
  left_ones =
      places_same (one_at made made.left.now rights) (λ u. claim (pair_of u 0)) made.left.now.values.items (values (generalized bound) l) lv left_at ∙ sym (map-map claim (λ u. pair_of u 0) (values (generalized bound) l))

  right_ones : ones_given made made.right.now lefts ≡ map claim (map (pair_of 0) (values (generalized bound) r))
  right_ones =
      places_same (one_at made made.right.now lefts) (λ v. claim (pair_of 0 v)) made.right.now.values.items (values (generalized bound) r) rv right_at ∙ sym (map-map claim (pair_of 0) (values (generalized bound) r))

  row_is : (i : ℕ) → i < length made.left.now.values.items
      → row_given made i ≡ map claim (map (pair_of (get_or made.left.now.values.items i 0)) (values (generalized bound) r))
  row_is i within =
      let u = get_or made.left.now.values.items i 0 in
      places_same (both_at made i) (λ v. claim (pair_of u v)) made.right.now.values.items (values (generalized bound) r) rv (λ j also. pair_at i j within also)
      ∙ sym (map-map claim (pair_of u) (values (generalized bound) r))

  pairs_are : pairs_given made ≡ map claim (flat_map (λ u. map (pair_of u) (values (generalized bound) r)) (values (generalized bound) l))
  pairs_are =
      let us = made.left.now.values.items in
      let row = λ (u : ℕ). map (pair_of u) (values (generalized bound) r) in
      rows_same claim (λ i. row (get_or us i 0)) (row_given made) (range_with_len 0 (length us)) (λ i h. let within = Contains-range_cases 0 (length us) i h in row_is i (omega arith))
      ∙ ap (map claim) (sym (rows_by_places row us) ∙ ap (flat_map row) lv)

  node_are : node_given made lefts rights ≡ map bare (pair_justifications (generalized bound) generalized_pairs l r 0 id)
  node_are =
      let us = values (generalized bound) l in
      let vs = values (generalized bound) r in
      let ones = map (λ u. pair_of u 0) us in
      let others = map (pair_of 0) vs in
      let twos = flat_map (λ u. map (pair_of u) vs) us in
      (λ k. left_ones k ++ (right_ones k ++ pairs_are k))
      ∙ ap (λ (rs : List Justification). map claim ones ++ rs) (sym (map-append claim others twos))
      ∙ sym (map-append claim ones (others ++ twos))
      ∙ sym (map-map bare (pair_justification (generalized bound) l r 0 id) (generalized_pairs us vs))

  -- they have the steps of those by its pairs
  pub node_same : HaveSameSteps (node_given made lefts rights) (pair_justifications (generalized bound) generalized_pairs (tree_of (weights lefts)) (tree_of (weights rights)) 0 id)
  node_same =
      let owns = pair_justifications (generalized bound) generalized_pairs l r 0 id in
      subst (λ (rs : List Justification). HaveSameSteps rs owns) (sym node_are) (bare_same owns)

pub source_is : (bound : ℕ) (ts : List Term) (l r : Tree) (id base : ℕ) (us : List ℕ) → tree_of (weights ts) ≡ node l r → us ≡ values (generalized bound) (node l r)
    → base ≡ id + 2 * fresh_of (generalized bound) l + 2 * fresh_of (generalized bound) r
    → (λ (u : ℕ). (base + 2 * place_of u us) ∷ []) ≡ output_ids (generalized bound) (tree_of (weights ts)) id
source_is bound ts l r id base us tree own is =
    let s = generalized bound in
    let e : (u : ℕ) → base + 2 * place_of u us ≡ id + 2 * (fresh_of s l + fresh_of s r + place_of u (values s (node l r))) = λ u. omega (arith, is, ap (place_of u) own) in
    (λ i u. (e u i) ∷ []) ∙ ap (λ (t : Tree). output_ids s t id) (sym tree)

-- ---- the root

-- all clauses are those of the nodes and that of the root
pub root_given_last : (bound : ℕ) (ts : List Term) (id own : ℕ) (root : Handed) → ids_of root ≡ output_ids (generalized bound) (tree_of (weights ts)) id
    → HaveSameSteps (part_justifications bound ts id ++ root_given root (bound + 1) own ∷ []) (all_justifications bound ts id own)
root_given_last bound ts id own root same =
    let last = root_justification (generalized bound) (tree_of (weights ts)) 0 id own in
    let is : root_given root (bound + 1) own ≡ bare last = ap (λ (f : ℕ → List ℕ). named (f (bound + 1) ++ own ∷ []) []) same in
    same_append (part_justifications bound ts id) (part_justifications bound ts id) (root_given root (bound + 1) own ∷ []) (last ∷ []) (record { count = refl; steps = λ next. refl })
    (subst (λ (r : Justification). HaveSameSteps (r ∷ []) (last ∷ [])) (sym is) (bare_same (last ∷ [])))
