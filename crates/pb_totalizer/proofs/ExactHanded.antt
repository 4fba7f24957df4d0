-- The steps of an exact sum's derivation as the code has their parts.
use Rattle.std.proofs.Common.{◌≡◌, ◌+◌, ◌-◌, ◌*◌, ◌++◌, ℕ, Bool, true, false, cond, List, [], ◌∷◌, length, map, refl, sym, ap, ◌∙◌, subst, arith, length-append}
use Rattle.std.specs.Prelude.{nat_lt}
use Rattle.std.specs.List.{range_with_len}
use Rattle.pb_base.specs.declared.literal.Term.{Term}
use Rattle.pb_norm.specs.BoundedSums.{vars_of, sum_within}
use Rattle.pb_norm.specs.Constraints.{weights}
use Rattle.pb_derive.specs.Justifications.{Justification}
use Rattle.pb_family.proofs.SameSteps.{HaveSameSteps, same_append}
use Rattle.pb_tree.specs.Pairs.{pair_of}
use Rattle.pb_tree.specs.Scheme.{fresh_of}
use Rattle.pb_tree.specs.Tree.{Tree, node, tree_of}
use Rattle.pb_tree.specs.TreeSteps.{leaves, output_ids, pair_justifications, justifications_along, root_justification}
use Rattle.pb_tree.proofs.PairLists.{map-map}
use Rattle.pb_tree.proofs.TreeHanded.{IsFirstFree, along_first_free, pairs_first_free, bare, bare_same, same_each}
use Rattle.pb_tree.proofs.TreeRows.{leaves_of}
use Rattle.pb_totalizer.specs.Exact.{outputs_of, limits}
use Rattle.pb_totalizer.specs.ExactSteps.{after_ids, after_weakened, limit_justification, limit_pairs, limit_justifications, own_justifications, least_justification, exact_justifications}
use Rattle.pb_totalizer.specs.Totalizer.{totalizer}
use Rattle.pb_totalizer.specs.OutputSteps.{totalizer_pairs}
use Rattle.pb_totalizer.specs.declared.node_ids.Source.{Source}
use Rattle.pb_totalizer.specs.inner.ExactSources.{nodes_justifications, exact_all_justifications}
use Rattle.pb_totalizer.specs.inner.LimitSources.{seconds_from, ids_after, weakened_after, limit_given, limits_given, least_given}
use Rattle.pb_totalizer.specs.inner.Sources.{ids_from, root_given}
use Rattle.pb_totalizer.specs.laws.PairRows.{rows_by_pairs}
use Rattle.pb_totalizer.proofs.Handed.{named, root_is}

-- ---- the clauses of a node, from its outputs to its parts

seconds_are : (source : Source) (bound : ℕ) (t : Tree) (id u : ℕ) → ids_from source ≡ output_ids (totalizer bound) t id → seconds_from source u ≡ map (λ k. k + 1) (output_ids (totalizer bound) t id u)
seconds_are source bound t id u same = ap (λ (f : ℕ → List ℕ). map (λ k. k + 1) (f u)) same

after_are : (source : Source) (bound : ℕ) (t : Tree) (id i : ℕ) → ids_from source ≡ output_ids (totalizer bound) t id → ids_after source (outputs_of bound t) i ≡ after_ids bound t id i
after_are source bound t id i same = ap (λ (f : ℕ → List ℕ). cond {A = List ℕ} (nat_lt i (outputs_of bound t)) (map (λ k. k + 1) (f (i + 1))) []) same

weakened_are : (bound : ℕ) (ts : List Term) (i : ℕ) → vars_of (weights (weakened_after ts (outputs_of bound (tree_of (weights ts))) i)) ≡ after_weakened bound (tree_of (weights ts)) i
weakened_are bound ts i = by_test (nat_lt i (outputs_of bound (tree_of (weights ts))))
  where
    by_test : (b : Bool) → vars_of (weights (cond {A = List Term} b [] ts)) ≡ cond {A = List ℕ} b [] (vars_of (leaves (tree_of (weights ts))))
    by_test true = refl
    by_test false = ap vars_of (sym (leaves_of (weights ts)))

module _ (bound : ℕ) (lefts rights : List Term) (id own : ℕ) (sl sr : Source)
    (left : ids_from sl ≡ output_ids (totalizer bound) (tree_of (weights lefts)) id)
    (right : ids_from sr ≡ output_ids (totalizer bound) (tree_of (weights rights)) (id + 2 * fresh_of (totalizer bound) (tree_of (weights lefts))))
    (at : own ≡ id + 2 * fresh_of (totalizer bound) (tree_of (weights lefts)) + 2 * fresh_of (totalizer bound) (tree_of (weights rights))) where
  abbrev l : Tree
  l = tree_of (weights lefts)

  abbrev r : Tree
  r = tree_of (weights rights)

  limit_is : (i j : ℕ) → limit_given (outputs_of bound l) (outputs_of bound r) sl lefts sr rights own i j ≡ bare (limit_justification bound l r 0 id (pair_of i j))
  limit_is i j =
      let s = totalizer bound in
      let one = after_are sl bound l id i left in
      let two = after_are sr bound r (id + 2 * fresh_of s l) j right in
      let last : own + 2 * (i + j) ≡ id + 2 * (fresh_of s l + fresh_of s r + (i + j + 1 - 1)) = omega (arith, at) in
      let three = weakened_are bound lefts i in
      let four = weakened_are bound rights j in
      λ k. named (one k ++ (two k ++ last k ∷ [])) (three k ++ four k)

  limits_are_given : (count a b : ℕ) → count ≡ outputs_of bound (node l r) → a ≡ outputs_of bound l → b ≡ outputs_of bound r → limits_given count a b sl lefts sr rights own ≡ map bare (limit_justifications bound l r 0 id)
  limits_are_given count a b ec ea eb =
      let n = outputs_of bound l in
      let m = outputs_of bound r in
      let c = outputs_of bound (node l r) in
      (λ k. limits_given (ec k) (ea k) (eb k) sl lefts sr rights own)
      ∙ rows_by_pairs (limit_given n m sl lefts sr rights own) (λ p. bare (limit_justification bound l r 0 id p)) (limits c m) (range_with_len 0 (n + 1)) (λ i j here. limit_is i j)
      ∙ sym (map-map bare (limit_justification bound l r 0 id) (limit_pairs c n m))

  -- with the steps of its clauses
  pub limits_same : (count a b : ℕ) → count ≡ outputs_of bound (node l r) → a ≡ outputs_of bound l → b ≡ outputs_of bound r → HaveSameSteps (limits_given count a b sl lefts sr rights own) (limit_justifications bound l r 0 id)
  limits_same count a b ec ea eb =
      let qs = limit_justifications bound l r 0 id in
      subst (λ (rs : List Justification). HaveSameSteps rs qs) (sym (limits_are_given count a b ec ea eb)) (bare_same qs)

-- ---- numbers of variables

-- the steps do not depend on the numbers of the variables
pub own_first_free : (bound : ℕ) → IsFirstFree (own_justifications bound)
own_first_free bound l r f g id =
    let s = totalizer bound in
    let pairs = totalizer_pairs (bound + 1) in
    same_append (pair_justifications s pairs l r f id) (pair_justifications s pairs l r g id) (limit_justifications bound l r f id) (limit_justifications bound l r g id) (pairs_first_free s pairs l r f g id)
    (same_each (limit_justification bound l r f id) (limit_justification bound l r g id) (λ p. refl) (limit_pairs (outputs_of bound (node l r)) (outputs_of bound l) (outputs_of bound r)))

-- ---- the root

least_is : (bound : ℕ) (ts : List Term) (id lower : ℕ) (root : Source) → ids_from root ≡ output_ids (totalizer bound) (tree_of (weights ts)) id
    → least_given root bound lower ≡ bare (least_justification bound (tree_of (weights ts)) 0 id lower)
least_is bound ts id lower root same = ap (λ (is : List ℕ). named (is ++ lower ∷ []) []) (seconds_are root bound (tree_of (weights ts)) id bound same)

-- all clauses are those of the nodes and those of the root
pub exact_ends_last : (bound : ℕ) (ts : List Term) (id lower upper : ℕ) (root : Source) → ids_from root ≡ output_ids (totalizer bound) (tree_of (weights ts)) id
    → HaveSameSteps (nodes_justifications bound ts id ++ (least_given root bound lower ∷ root_given root (bound + 1) upper ∷ [])) (exact_all_justifications bound ts id lower upper)
exact_ends_last bound ts id lower upper root same =
    let t = tree_of (weights ts) in
    let ends = least_justification bound t 0 id lower ∷ root_justification (totalizer bound) t 0 id upper ∷ [] in
    let one = least_is bound ts id lower root same in
    let two = root_is bound ts id upper root same in
    let are : (least_given root bound lower ∷ root_given root (bound + 1) upper ∷ []) ≡ map bare ends = λ i. one i ∷ two i ∷ [] in
    same_append (nodes_justifications bound ts id) (nodes_justifications bound ts id) (least_given root bound lower ∷ root_given root (bound + 1) upper ∷ []) ends (record { count = refl; steps = λ next. refl })
    (subst (λ (rs : List Justification). HaveSameSteps rs ends) (sym are) (bare_same ends))

-- from the sink's next id on
pub exact_all_same : (bound : ℕ) (ts : List Term) (first lower upper base next : ℕ) → base ≡ next → HaveSameSteps (exact_all_justifications bound ts base lower upper) (exact_justifications (sum_within ts bound) first next lower upper)
exact_all_same bound ts first lower upper base next is =
    let s = totalizer bound in
    let t = tree_of (weights ts) in
    let ends = λ (f : ℕ). least_justification bound t f base lower ∷ root_justification s t f base upper ∷ [] in
    subst (λ (b : ℕ). HaveSameSteps (exact_all_justifications bound ts base lower upper) (exact_justifications (sum_within ts bound) first b lower upper)) is
    (same_append (justifications_along s (own_justifications bound) t 0 base) (justifications_along s (own_justifications bound) t first base) (ends 0) (ends first) (along_first_free s (own_justifications bound) (own_first_free bound) t 0 first base)
    (record { count = refl; steps = λ next. refl }))

-- ---- how many

pub exact_all_counted : (bound : ℕ) (ts : List Term) (id lower upper : ℕ) → length (exact_all_justifications bound ts id lower upper) ≡ length (nodes_justifications bound ts id) + 2
exact_all_counted bound ts id lower upper =
    let t = tree_of (weights ts) in
    omega (arith, length-append (nodes_justifications bound ts id) (least_justification bound t 0 id lower ∷ root_justification (totalizer bound) t 0 id upper ∷ []))
