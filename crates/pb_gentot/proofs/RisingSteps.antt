-- The steps of a table's derivation as the code has their parts.
use Rattle.std.proofs.Common.{◌≡◌, ◌+◌, ◌-◌, ◌*◌, ◌++◌, ℕ, List, [], ◌∷◌, length, map, get_or, refl, sym, ap, ◌∙◌, subst, arith, length-append}
use Rattle.std.specs.Prelude.{Contains}
use Rattle.std.specs.List.{range_with_len}
use Rattle.std.proofs.lemmas.List.{length-map}
use Rattle.pb_base.specs.declared.literal.Term.{Term}
use Rattle.pb_norm.specs.Constraints.{weights}
use Rattle.pb_derive.specs.Claims.{claim_steps}
use Rattle.pb_derive.specs.Justifications.{Justification, by_justification}
use Rattle.pb_family.proofs.SameSteps.{HaveSameSteps, same_none, same_append}
use Rattle.pb_tree.specs.Places.{place_of}
use Rattle.pb_tree.specs.Scheme.{values, fresh_of, clause_count_of}
use Rattle.pb_tree.specs.Tree.{Tree, empty, leaf, node, tree_of}
use Rattle.pb_tree.specs.TreeSteps.{output_ids, pair_justifications, justifications}
use Rattle.pb_tree.proofs.Lists.{Contains-range_cases}
use Rattle.pb_tree.proofs.PairLists.{map_same, map-map}
use Rattle.pb_tree.proofs.TreeHanded.{bare, bare_same, along_first_free, pairs_first_free}
use Rattle.pb_gentot.specs.BoundTable.{neighbours}
use Rattle.pb_gentot.specs.BoundTableSteps.{neighbour_justification}
use Rattle.pb_gentot.specs.Generalized.{generalized}
use Rattle.pb_gentot.specs.GeneralizedSteps.{generalized_pairs}
use Rattle.pb_gentot.specs.declared.node_ids.Handed.{Handed}
use Rattle.pb_gentot.specs.declared.node_ids.Source.{Source}
use Rattle.pb_gentot.specs.declared.node_ids.Source.TheVariants.{Leaf, Fresh}
use Rattle.pb_gentot.specs.inner.KeptTables.{neighbour_justifications, justifications_by, rise_at, rises_of}
use Rattle.pb_gentot.specs.inner.Ids.{ids_at}
use Rattle.pb_gentot.specs.inner.Sources.{ids_of, part_justifications}
use Rattle.pb_gentot.proofs.Bounds.{justifications_are}
use Rattle.pb_gentot.proofs.Emitting.{rising_values}
use Rattle.pb_gentot.proofs.Neighbours.{neighbours_by_places, neighbours_counted, pair_at}
use Rattle.pb_gentot.proofs.RisingLists.{place_at}
use Rattle.pb_gentot.proofs.Parts.{AreLeavesPositive}

same_by_bare : (rs qs : List Justification) → map bare rs ≡ map bare qs → HaveSameSteps rs qs
same_by_bare rs qs e = record {
  count = omega (arith, length-map rs bare, length-map qs bare, ap length e);
  steps = λ next. sym ((bare_same rs).steps next) ∙ ap (λ (xs : List Justification). claim_steps next (map by_justification xs)) e ∙ (bare_same qs).steps next;
}

-- the steps do not depend on the numbers of the variables
neighbours_free : (bound : ℕ) (t : Tree) (f g id : ℕ) → HaveSameSteps (neighbour_justifications bound t f id) (neighbour_justifications bound t g id)
neighbours_free bound t f g id =
    let s = generalized bound in
    let ps = neighbours (values s t) in
    same_by_bare (neighbour_justifications bound t f id) (neighbour_justifications bound t g id) (map-map bare (neighbour_justification s t f id) ps ∙ sym (map-map bare (neighbour_justification s t g id) ps))

-- from the sink's next id on
pub table_same : (bound : ℕ) (ts : List Term) (first base next : ℕ) → base ≡ next → HaveSameSteps (justifications_by bound ts 0 base) (justifications_by bound ts first next)
table_same bound ts first base next is =
    let s = generalized bound in
    let t = tree_of (weights ts) in
    subst (λ (b : ℕ). HaveSameSteps (justifications_by bound ts 0 base) (justifications_by bound ts first b)) is
    (same_append (justifications s generalized_pairs t 0 base) (justifications s generalized_pairs t first base) (neighbour_justifications bound t 0 base) (neighbour_justifications bound t first base)
    (along_first_free s (pair_justifications s generalized_pairs) (pairs_first_free s generalized_pairs) t 0 first base) (neighbours_free bound t 0 first base))

-- one for each clause
pub table_counted : (bound : ℕ) (ts : List Term) (id : ℕ) → AreLeavesPositive (tree_of (weights ts))
    → length (justifications_by bound ts 0 id) ≡ clause_count_of (generalized bound) (tree_of (weights ts)) + (length (values (generalized bound) (tree_of (weights ts))) - 1)
table_counted bound ts id positive =
    let s = generalized bound in
    let t = tree_of (weights ts) in
    let ps = neighbours (values s t) in
    omega (
      arith,
      length-append (part_justifications bound ts id) (neighbour_justifications bound t 0 id),
      justifications_are bound ts id positive,
      length-map ps (neighbour_justification s t 0 id),
      neighbours_counted (values s t),
    )

-- ---- at the root

-- of a node
node_rises : (bound : ℕ) (l r : Tree) (id base n : ℕ) → n ≡ length (values (generalized bound) (node l r)) → base ≡ id + 2 * (fresh_of (generalized bound) l + fresh_of (generalized bound) r)
    → HaveSameSteps (rises_of (Fresh base) n) (neighbour_justifications bound (node l r) 0 id)
node_rises bound l r id base n count is =
    let s = generalized bound in
    let t = node l r in
    let vs = values s t in
    let m = length vs - 1 in
    let own = neighbour_justification s t 0 id in
    let rising = rising_values bound t vs refl in
    let each : (k : ℕ) → Contains (range_with_len 0 m) k → rise_at base k ≡ bare (own (pair_at vs k)) = λ k h.
    let within = Contains-range_cases 0 m k h in
    let one = place_at vs (k + 1) 0 rising (omega arith) in
    let two = place_at vs k 0 rising (omega arith) in
    let later : base + 2 * k + 2 ≡ id + 2 * (fresh_of s l + fresh_of s r + place_of (get_or vs (k + 1) 0) vs) = omega (arith, is, one) in
    let earlier : base + 2 * k + 1 ≡ id + 2 * (fresh_of s l + fresh_of s r + place_of (get_or vs k 0) vs) + 1 = omega (arith, is, two) in
    (λ i. record { clause = []; ids = later i ∷ earlier i ∷ []; weakened = [] }) in
    let rises = map (rise_at base) (range_with_len 0 m) in
    let same : map bare rises ≡ map bare (neighbour_justifications bound t 0 id) =
    map-map bare (rise_at base) (range_with_len 0 m)
    ∙ map_same (rise_at base) (λ k. bare (own (pair_at vs k))) (range_with_len 0 m) each
    ∙ sym (map-map (λ p. bare (own p)) (pair_at vs) (range_with_len 0 m))
    ∙ ap (map (λ p. bare (own p))) (sym (neighbours_by_places vs))
    ∙ sym (map-map bare own (neighbours vs)) in
    subst (λ (k : ℕ). HaveSameSteps (map (rise_at base) (range_with_len 0 (k - 1))) (neighbour_justifications bound t 0 id)) (sym count) (same_by_bare rises (neighbour_justifications bound t 0 id) same)

rises_by : (bound : ℕ) (t : Tree) (id : ℕ) (source : Source) (us : List ℕ) → us ≡ values (generalized bound) t → (λ u. ids_at source (place_of u us)) ≡ output_ids (generalized bound) t id
    → HaveSameSteps (rises_of source (length us)) (neighbour_justifications bound t 0 id)
rises_by bound empty id Leaf us is ids = same_none
rises_by bound empty id (Fresh base) us is ids = absurd (let e : 1 ≡ 0 = ap (λ (f : ℕ → List ℕ). length (f 0)) ids in omega (arith, e))
rises_by bound (leaf w) id Leaf us is ids = same_none
rises_by bound (leaf w) id (Fresh base) us is ids = absurd (let e : 1 ≡ 0 = ap (λ (f : ℕ → List ℕ). length (f 0)) ids in omega (arith, e))
rises_by bound (node l r) id Leaf us is ids = absurd (let e : 0 ≡ 1 = ap (λ (f : ℕ → List ℕ). length (f 0)) ids in omega (arith, e))
rises_by bound (node l r) id (Fresh base) us is ids =
    let s = generalized bound in
    let vs = values s (node l r) in
    let first : base + 2 * place_of 0 us ≡ id + 2 * (fresh_of s l + fresh_of s r + place_of 0 vs) = ap (λ (f : ℕ → List ℕ). get_or (f 0) 0 0) ids in
    let place = ap (place_of 0) is in
    node_rises bound l r id base (length us) (ap length is) (omega (arith, first, place))

-- all clauses are those of the nodes and those between the root's neighbours
pub rises_last : (bound : ℕ) (ts : List Term) (id : ℕ) (root : Handed) → root.values.items ≡ values (generalized bound) (tree_of (weights ts)) → ids_of root ≡ output_ids (generalized bound) (tree_of (weights ts)) id
    → HaveSameSteps (part_justifications bound ts id ++ rises_of root.source (length root.values.items)) (justifications_by bound ts 0 id)
rises_last bound ts id root is ids =
    let t = tree_of (weights ts) in
    same_append (part_justifications bound ts id) (part_justifications bound ts id) (rises_of root.source (length root.values.items)) (neighbour_justifications bound t 0 id) (record { count = refl; steps = λ next. refl })
    (rises_by bound t id root.source root.values.items is ids)
