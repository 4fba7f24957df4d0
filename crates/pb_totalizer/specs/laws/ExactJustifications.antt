-- Each clause of an exact sum follows from the constraints that its justification names.
use Rattle.std.proofs.Common.{◌≡◌, ◌≢◌, ◌≤◌, ◌<◌, ◌+◌, ◌-◌, ◌*◌, ◌^◌, ℕ, Bool, true, false, cond, List, [], ◌∷◌, ◌++◌, map, refl, ap, sym, ◌∙◌, subst, arith, inl, inr}
use Rattle.std.specs.Prelude.{Contains, All, nat_lt}
use Rattle.std.specs.List.{range_with_len}
use Rattle.std.proofs.lemmas.Bool.{cases_lt, cond-true, cond-false, lt-ltb, le-ltb, ltb-true}
use Rattle.std.proofs.lemmas.List.Elements.{All-nil, All-cons, All-append, All-map}
use Rattle.pb_base.specs.declared.literal.Lit.{Lit}
use Rattle.pb_base.specs.Literals.{negated, is_among}
use Rattle.pb_base.proofs.LiteralLemmas.{negated-negated}
use Rattle.pb_base.proofs.Members.{Contains-here, Contains-map, among_from, All-append_both}
use Rattle.pb_norm.specs.Constraints.{Weighted, Constraint, weight}
use Rattle.pb_norm.specs.BoundedSums.{BoundedSum, vars_of}
use Rattle.pb_norm.specs.Reduction.{opposite}
use Rattle.pb_norm.proofs.AdditionSizes.{weight-cons}
use Rattle.pb_derive.specs.Reifications.{forward_of, reverse_of, spare}
use Rattle.pb_derive.specs.inner.Follows.{AllKnown, FollowsFrom}
use Rattle.pb_derive.proofs.Justified.{IsJustified, IsWhole, ReificationsKnown}
use Rattle.pb_derive.proofs.Opposites.{weight-opposite, opposite-twice, opposite-append}
use Rattle.pb_derive.proofs.Appends.{weight-append}
use Rattle.pb_derive.proofs.Sides.{Side, headed, side_none, side_leaf, side_headed, follows_headed, follows_root}
use Rattle.pb_family.specs.Fresh.{positive_of}
use Rattle.pb_tree.specs.Pairs.{Pair, pair_of}
use Rattle.pb_tree.specs.Tree.{Tree, empty, leaf, node, IsLeafOf, tree_of}
use Rattle.pb_tree.specs.TreeSteps.{leaves, reifications, output_ids, pair_justifications, justifications_along, root_justification}
use Rattle.pb_tree.specs.Scheme.{values, fresh_of, output}
use Rattle.pb_tree.proofs.AlongJustifications.{clause_in, along_clauses, along_justified, along_whole}
use Rattle.pb_tree.proofs.Extending.{output_named}
use Rattle.pb_tree.proofs.Lists.{Contains-map_cases}
use Rattle.pb_tree.proofs.PairLists.{map-append, map-map}
use Rattle.pb_tree.proofs.PairJustifications.{pairs_clauses, pairs_justified, named_apart, known-append, root_justified, all_map}
use Rattle.pb_tree.proofs.TreeDerives.{UpTo, not_empty, pairs_whole}
use Rattle.pb_tree.proofs.TreeReifications.{reification, output_known, known_left, known_right}
use Rattle.pb_tree.proofs.TreeParts.{IsOver, over_left, over_right, leaf_listed}
use Rattle.pb_totalizer.specs.Exact.{outputs_of, limits, limit_clause, limit_clauses, exact_own, exact_along, exact_clauses}
use Rattle.pb_totalizer.specs.ExactSteps.{after_ids, after_weakened, limit_justification, limit_pairs, limit_justifications, own_justifications, least_justification, exact_justifications}
use Rattle.pb_totalizer.specs.Totalizer.{totalizer}
use Rattle.pb_totalizer.specs.OutputSteps.{totalizer_pairs}
use Rattle.pb_totalizer.specs.laws.ByPairs.{totalizer_by_pairs}
use Rattle.pb_totalizer.specs.laws.PairRows.{row_cases, rows_by_pairs}
use Rattle.pb_totalizer.specs.laws.Limits.{limit_literal, limit_left, limit_right, limit_own}
use Rattle.pb_totalizer.specs.laws.TotalizerLaws.{IsCapped, value_from, values_count, node_length, leaf_count, totalizer_lawful}

-- ---- which pairs there are

pub pair_bounds : (count a b : ℕ) (p : Pair) → Contains (limit_pairs count a b) p → (p.left ≤ a) × (p.right ≤ b) × (p.left + p.right < count)
pair_bounds count a b p h =
    let found = row_cases pair_of (λ i j. nat_lt (i + j) count) a b p h in
    let below = ltb-true (found.0 + found.1) count found.4 in
    let left : found.0 ≡ p.left = ap (λ (q : Pair). q.left) found.5 in
    let right : found.1 ≡ p.right = ap (λ (q : Pair). q.right) found.5 in
    (omega (arith, left, found.2), omega (arith, right, found.3), omega (arith, left, right, below))

limits_by_pairs : (count a b : ℕ) (f g h : ℕ → Lit) → limit_clauses count a b f g h ≡ map (λ p. limit_clause a b f g h p.left p.right) (limit_pairs count a b)
limits_by_pairs count a b f g h = rows_by_pairs (limit_clause a b f g h) (λ p. limit_clause a b f g h p.left p.right) (limits count b) (range_with_len 0 (a + 1)) (λ i j m. refl)

own_clauses : (bound : ℕ) (l r : Tree) (first id : ℕ) → map clause_in (own_justifications bound l r first id) ≡ exact_own bound l r first
own_clauses bound l r first id =
    let s = totalizer bound in
    let f = output s l first in
    let g = output s r (first + fresh_of s l) in
    let o = output s (node l r) first in
    let qs = limit_pairs (outputs_of bound (node l r)) (outputs_of bound l) (outputs_of bound r) in
    let one = pairs_clauses s (totalizer_pairs (bound + 1)) (totalizer_by_pairs bound) l r first id (λ u h. omega arith) in
    let two = map-map clause_in (limit_justification bound l r first id) qs ∙ sym (limits_by_pairs (outputs_of bound (node l r)) (outputs_of bound l) (outputs_of bound r) f g o) in
    map-append clause_in (pair_justifications s (totalizer_pairs (bound + 1)) l r first id) (limit_justifications bound l r first id)
    ∙ (λ i. one i ++ two i)

-- ---- what a part gives where few of its leaves are true

abbrev pub Lacking : (ℕ → Constraint → Type 0) → List Lit → Tree → List ℕ → ℕ → List ℕ → Type 0
Lacking K clause t ids u weakened = (sources : List Constraint) × AllKnown K ids sources × Side clause (map opposite (leaves t)) u sources weakened

-- the output of a value is in the clause
pub value_lacks : (K : ℕ → Constraint → Type 0) (bound low : ℕ) (t : Tree) (first id u : ℕ) (clause : List Lit) → IsOver (totalizer bound) low t → ReificationsKnown K id (reifications (totalizer bound) t first)
    → 1 ≤ u → u ≤ outputs_of bound t → is_among clause (output (totalizer bound) t first u) ≡ true
    → Lacking K clause t (map (λ k. k + 1) (output_ids (totalizer bound) t id u)) (weight (leaves t) + 1 - u) []
value_lacks K bound low empty first id u clause over known some within among = absurd (omega arith)
value_lacks K bound low (leaf t) first id u clause over known some within among =
    ([], tt, side_leaf clause (opposite t) (weight (t ∷ []) + 1 - u) (omega (arith, weight-cons t [])) (subst (λ (l : Lit). is_among clause l ≡ true) (sym (negated-negated t.lit)) among))
value_lacks K bound low (node l r) first id u clause over known some within among =
    let s = totalizer bound in
    let t = node l r in
    let m = reification (output s t first u).var (leaves t) u in
    let both = output_known K s (IsCapped bound) (totalizer_lawful bound) l r first id u known (value_from bound t u some within) in
    (reverse_of m ∷ [], (both.1, tt), side_headed clause (positive_of m.var) (spare m) (map opposite (leaves t)) (omega (arith, weight-opposite (leaves t))) among)

leaf_weight : (bound low : ℕ) (t : Tree) → IsOver (totalizer bound) low t → weight (leaves t) ≡ leaf_count t
leaf_weight bound low empty over = refl
leaf_weight bound low (leaf t) over = let one = over.weights t refl in omega (arith, weight-cons t [])
leaf_weight bound low (node l r) over =
    omega (arith, weight-append (leaves l) (leaves r), leaf_weight bound low l (over_left (totalizer bound) low l r over), leaf_weight bound low r (over_right (totalizer bound) low l r over))

-- or there is none after the index, and all leaves are weakened away
part_lacks : (K : ℕ → Constraint → Type 0) (bound low : ℕ) (t : Tree) (first id i : ℕ) (clause : List Lit) → IsOver (totalizer bound) low t → ReificationsKnown K id (reifications (totalizer bound) t first)
    → i ≤ outputs_of bound t → i ≤ bound
    → (i < outputs_of bound t → is_among clause (output (totalizer bound) t first (i + 1)) ≡ true)
    → (outputs_of bound t ≤ i → (l : Lit) → Contains clause l → (v : Weighted) → IsLeafOf t v → l.var ≢ v.lit.var)
    → Lacking K clause t (after_ids bound t id i) (weight (leaves t) + 1 - (i + 1)) (after_weakened bound t i)
part_lacks K bound low t first id i clause over known high small among apart =
    let s = totalizer bound in
    let test = nat_lt i (outputs_of bound t) in
    let seconds = map (λ k. k + 1) (output_ids s t id (i + 1)) in
    let gone = vars_of (leaves t) in
    let n = weight (leaves t) + 1 - (i + 1) in
    let count = values_count bound t in
    elim (cases_lt i (outputs_of bound t)) as (λ _. Lacking K clause t (after_ids bound t id i) n (after_weakened bound t i)) [
      | inl below ↦
          let ids : after_ids bound t id i ≡ seconds = cond-true test seconds [] (lt-ltb i (outputs_of bound t) below) in
          let none : after_weakened bound t i ≡ [] = cond-true test [] gone (lt-ltb i (outputs_of bound t) below) in
          let here : Lacking K clause t seconds n [] = value_lacks K bound low t first id (i + 1) clause over known (omega arith) (omega arith) (among below) in
          subst (λ (ws : List ℕ). Lacking K clause t (after_ids bound t id i) n ws) (sym none) (subst (λ (is : List ℕ). Lacking K clause t is n []) (sym ids) here)
      | inr above ↦
          let ids : after_ids bound t id i ≡ [] = cond-false test seconds [] (le-ltb i (outputs_of bound t) above) in
          let all : after_weakened bound t i ≡ gone = cond-false test [] gone (le-ltb i (outputs_of bound t) above) in
          let nothing : 0 ≡ n = omega (arith, leaf_weight bound low t over) in
          let side = side_none clause (map opposite (leaves t)) gone
          (λ v h. let w = Contains-map_cases opposite (leaves t) v h in subst (λ (k : ℕ). Contains gone k) (ap (λ (x : Weighted). x.lit.var) w.2) (Contains-map (λ (x : Weighted). x.lit.var) (leaves t) w.0 w.1))
          (λ l h at. let v = Contains-map_cases (λ (x : Weighted). x.lit.var) (leaves t) l.var at in apart above l h v.0 (leaf_listed t v.0 v.1) (sym v.2)) in
          let here : Lacking K clause t [] n gone = ([], tt, subst (λ (k : ℕ). Side clause (map opposite (leaves t)) k [] gone) nothing side) in
          subst (λ (ws : List ℕ). Lacking K clause t (after_ids bound t id i) n ws) (sym all) (subst (λ (is : List ℕ). Lacking K clause t is n gone) (sym ids) here)
    ]

-- ---- a node's clauses

limit_justified : (K : ℕ → Constraint → Type 0) (bound low : ℕ) (l r : Tree) (first id : ℕ) → low ≤ first → IsOver (totalizer bound) low (node l r) → weight (leaves (node l r)) < 2 ^ 100
    → ReificationsKnown K id (reifications (totalizer bound) (node l r) first) → (p : Pair) → Contains (limit_pairs (outputs_of bound (node l r)) (outputs_of bound l) (outputs_of bound r)) p
    → IsJustified K (limit_justification bound l r first id p)
limit_justified K bound low l r first id le over light known p listed =
    let s = totalizer bound in
    let W = IsCapped bound in
    let laws = totalizer_lawful bound in
    let t = node l r in
    let middle = first + fresh_of s l in
    let a = outputs_of bound l in
    let b = outputs_of bound r in
    let f = output s l first in
    let g = output s r middle in
    let h = output s t first in
    let i = p.left in
    let j = p.right in
    let w = i + j + 1 in
    let bounds = pair_bounds (outputs_of bound t) a b p listed in
    let left = bounds.0 in
    let right = bounds.1 in
    let below = bounds.2 in
    let count = node_length bound l r in
    let clause = limit_clause a b f g h i j in
    let above : (n : ℕ) → n ≡ (h w).var → (v : Weighted) → IsLeafOf t v → n ≢ v.lit.var = λ n is v m e. let less = over.below v m in omega arith in
    let others = over.apart.2 in
    let one = part_lacks K bound low l first id i clause (over_left s low l r over) (known_left K s l r first id known) left (omega arith)
    (λ some. among_from clause (f (i + 1)) (limit_left a b f g h i j some))
    (λ none k m v n. elim (limit_literal a b f g h i j k m) as (λ _. k.var ≢ v.lit.var) [
      | inl same ↦ absurd (let x = same.0 in omega arith)
      | inr rest ↦ elim rest as (λ _. k.var ≢ v.lit.var) [
        | inl same ↦ λ e. named_apart s low middle (g (j + 1)).var r l (λ x y c d z. others y x d c (sym z)) (λ x c. over.below x (inl c)) (omega arith)
            (output_named s W laws r middle (j + 1) (value_from bound r (j + 1) (omega arith) (let x = same.0 in omega arith))) v n (sym (ap (λ (k : Lit). k.var) same.1) ∙ e)
        | inr same ↦ above k.var (ap (λ (k : Lit). k.var) same) v (inl n)
      ]
    ]) in
    let two = part_lacks K bound low r middle (id + 2 * fresh_of s l) j clause (over_right s low l r over) (known_right K s l r first id known) right (omega arith)
    (λ some. among_from clause (g (j + 1)) (limit_right a b f g h i j some))
    (λ none k m v n. elim (limit_literal a b f g h i j k m) as (λ _. k.var ≢ v.lit.var) [
      | inl same ↦ λ e. named_apart s low first (f (i + 1)).var l r others (λ x c. over.below x (inr c)) le
          (output_named s W laws l first (i + 1) (value_from bound l (i + 1) (omega arith) (let x = same.0 in omega arith))) v n (sym (ap (λ (k : Lit). k.var) same.1) ∙ e)
      | inr rest ↦ elim rest as (λ _. k.var ≢ v.lit.var) [
        | inl same ↦ absurd (let x = same.0 in omega arith)
        | inr same ↦ above k.var (ap (λ (k : Lit). k.var) same) v (inr n)
      ]
    ]) in
    let both = output_known K s W laws l r first id w known (value_from bound t w (omega arith) (omega arith)) in
    let m = reification (h w).var (leaves t) w in
    let last = forward_of m ∷ [] in
    let x = negated (positive_of m.var) in
    let ts = map opposite (leaves l) in
    let us = map opposite (leaves r) in
    let sum : map opposite (ts ++ us) ≡ leaves t = ap (map opposite) (sym (opposite-append (leaves l) (leaves r))) ∙ opposite-twice (leaves t) in
    let ids = output_ids s t id w in
    let lw = leaf_weight bound low l (over_left s low l r over) in
    let rw_ = leaf_weight bound low r (over_right s low l r over) in
    let am = values_count bound l in
    let bn = values_count bound r in
    let follows = follows_headed clause x w ts us (weight (leaves l) + 1 - (i + 1)) (weight (leaves r) + 1 - (j + 1)) one.0 two.0 (after_weakened bound l i) (after_weakened bound r j) one.2 two.2
    (omega (arith, weight-opposite (leaves l), weight-opposite (leaves r))) (omega (arith, weight-opposite (leaves l), weight-opposite (leaves r)))
    (among_from clause x (limit_own a b f g h i j)) (omega (arith, light, weight-append (leaves l) (leaves r), weight-opposite (leaves l), weight-opposite (leaves r))) (limit_justification bound l r first id p).ids in (
      one.0 ++ (two.0 ++ last),
      known-append K (after_ids bound l id i) (after_ids bound r (id + 2 * fresh_of s l) j ++ ids) one.0 (two.0 ++ last) one.1 (known-append K (after_ids bound r (id + 2 * fresh_of s l) j) ids two.0 last two.1 (both.0, tt)),
      subst (λ (xs : List Weighted). FollowsFrom (one.0 ++ (two.0 ++ headed x w xs ∷ [])) (limit_justification bound l r first id p)) sum follows,
    )

own_justified : (K : ℕ → Constraint → Type 0) (bound low : ℕ) (l r : Tree) (first id : ℕ) → low ≤ first → IsOver (totalizer bound) low (node l r) → weight (leaves (node l r)) < 2 ^ 100
    → ReificationsKnown K id (reifications (totalizer bound) (node l r) first) → All (IsJustified K) (own_justifications bound l r first id)
own_justified K bound low l r first id le over light known =
    let s = totalizer bound in
    let qs = limit_pairs (outputs_of bound (node l r)) (outputs_of bound l) (outputs_of bound r) in
    All-append (IsJustified K) (pair_justifications s (totalizer_pairs (bound + 1)) l r first id) (limit_justifications bound l r first id)
    (pairs_justified K s (IsCapped bound) (totalizer_lawful bound) (totalizer_pairs (bound + 1)) (totalizer_by_pairs bound) low l r first id le over light known)
    (all_map (IsJustified K) (limit_justification bound l r first id) qs (limit_justified K bound low l r first id le over light known))

-- ---- the root's

-- the output of the bound, by the constraint from below
least_justified : (K : ℕ → Constraint → Type 0) (bound low : ℕ) (t : Tree) (first id lower : ℕ) → IsOver (totalizer bound) low t → weight (leaves t) < 2 ^ 100 → ReificationsKnown K id (reifications (totalizer bound) t first)
    → 1 ≤ bound → bound ≤ outputs_of bound t → K lower (record { terms = leaves t; degree = bound }) → IsJustified K (least_justification bound t first id lower)
least_justified K bound low t first id lower over light known some within held =
    let s = totalizer bound in
    let o = output s t first bound in
    let clause = o ∷ [] in
    let seconds = map (λ k. k + 1) (output_ids s t id bound) in
    let side = value_lacks K bound low t first id bound clause over known some within (among_from clause o (Contains-here o [])) in
    let constraint : Constraint = record { terms = leaves t; degree = bound } in
    let ts = map opposite (leaves t) in
    let heavy = leaf_weight bound low t over in
    let count = values_count bound t in
    let same = weight-opposite (leaves t) in
    let degree : weight ts - (weight (leaves t) - bound) ≡ bound = omega arith in
    let is : record { terms = map opposite ts; degree = weight ts - (weight (leaves t) - bound) } ≡ constraint = λ i. record { terms = opposite-twice (leaves t) i; degree = degree i } in
    let follows = follows_root clause ts (weight (leaves t) - bound) (weight (leaves t) + 1 - bound) side.0 side.2 (omega arith) (omega arith) (omega arith) (least_justification bound t first id lower).ids in (
      side.0 ++ constraint ∷ [],
      known-append K seconds (lower ∷ []) side.0 (constraint ∷ []) side.1 (held, tt),
      subst (λ (c : Constraint). FollowsFrom (side.0 ++ c ∷ []) (least_justification bound t first id lower)) is follows,
    )

-- ---- all of them

pub exact_along_clauses : (bound : ℕ) (t : Tree) (first id : ℕ) → map clause_in (justifications_along (totalizer bound) (own_justifications bound) t first id) ≡ exact_along bound t first
exact_along_clauses bound t first id =
    along_clauses (totalizer bound) (own_justifications bound) (exact_own bound) (λ u. 1 ≤ 1) (λ l r first id h. own_clauses bound l r first id) t first id (λ u h. omega arith)

pub exact_justifications_clauses : (m : BoundedSum) (first id lower upper : ℕ) → map clause_in (exact_justifications m first id lower upper) ≡ exact_clauses m first
exact_justifications_clauses m first id lower upper =
    let s = totalizer m.bound in
    let t = tree_of m.terms in
    let o = output s t first in
    map-append clause_in (justifications_along s (own_justifications m.bound) t first id) (least_justification m.bound t first id lower ∷ root_justification s t first id upper ∷ [])
    ∙ ap (λ (cs : List (List Lit)). cs ++ (o m.bound ∷ []) ∷ (negated (o (m.bound + 1)) ∷ []) ∷ []) (exact_along_clauses m.bound t first id)

pub exact_justified : (K : ℕ → Constraint → Type 0) (m : BoundedSum) (first id lower upper : ℕ) → IsOver (totalizer m.bound) first (tree_of m.terms) → weight (leaves (tree_of m.terms)) < 2 ^ 100
    → ReificationsKnown K id (reifications (totalizer m.bound) (tree_of m.terms) first) → 1 ≤ m.bound → m.bound + 1 ≤ outputs_of m.bound (tree_of m.terms)
    → K lower (record { terms = leaves (tree_of m.terms); degree = m.bound }) → K upper (record { terms = map opposite (leaves (tree_of m.terms)); degree = weight (leaves (tree_of m.terms)) - m.bound })
    → All (IsJustified K) (exact_justifications m first id lower upper)
exact_justified K m first id lower upper over light known some within least most =
    let s = totalizer m.bound in
    let t = tree_of m.terms in
    let last = root_justification s t first id upper in
    All-append (IsJustified K) (justifications_along s (own_justifications m.bound) t first id) (least_justification m.bound t first id lower ∷ last ∷ [])
    (along_justified K s (own_justifications m.bound) first (own_justified K m.bound first) t first id (omega arith) over light known)
    (All-cons (IsJustified K) (least_justification m.bound t first id lower) (last ∷ []) (least_justified K m.bound first t first id lower over light known some (omega arith) least)
    (All-cons (IsJustified K) last [] (root_justified K s (IsCapped m.bound) (totalizer_lawful m.bound) (totalizer_by_pairs m.bound).from first t first id upper m.bound over light known refl
    (omega (arith, leaf_weight m.bound first t over, values_count m.bound t, within)) (value_from m.bound t (m.bound + 1) (omega arith) within) most) (All-nil (IsJustified K))))

-- ---- the justifications by themselves

-- what holds of the leaves' variables holds of those that are weakened away
pub after_all : (P : ℕ → Type 0) (bound : ℕ) (t : Tree) (i : ℕ) → All (λ w. P w.lit.var) (leaves t) → All P (after_weakened bound t i)
after_all P bound t i h = by_test (nat_lt i (outputs_of bound t))
  where
    by_test : (b : Bool) → All P (cond {A = List ℕ} b [] (vars_of (leaves t)))
    by_test true = All-nil P
    by_test false = All-map P (λ (w : Weighted). w.lit.var) (leaves t) h

limits_whole : (vars bound : ℕ) (l r : Tree) (first id : ℕ) (ps : List Pair) → All (λ w. w.lit.var ≤ vars) (leaves (node l r)) → All (IsWhole vars) (map (limit_justification bound l r first id) ps)
limits_whole vars bound l r first id ps h =
    let s = totalizer bound in
    let parts = All-append_both (λ (w : Weighted). w.lit.var ≤ vars) (leaves l) (leaves r) h in
    all_map (IsWhole vars) (limit_justification bound l r first id) ps (λ p listed. record {
      some = not_empty (after_ids bound l id p.left) (after_ids bound r (id + 2 * fresh_of s l) p.right) (output_ids s (node l r) id (p.left + p.right + 1)) (omega arith);
      vars_known = All-append (UpTo vars) (after_weakened bound l p.left) (after_weakened bound r p.right) (after_all (UpTo vars) bound l p.left parts.0) (after_all (UpTo vars) bound r p.right parts.1);
    })

pub exact_whole : (vars : ℕ) (m : BoundedSum) (first id lower upper : ℕ) → All (λ w. w.lit.var ≤ vars) (leaves (tree_of m.terms)) → All (IsWhole vars) (exact_justifications m first id lower upper)
exact_whole vars m first id lower upper h =
    let s = totalizer m.bound in
    let t = tree_of m.terms in
    let last = root_justification s t first id upper in
    All-append (IsWhole vars) (justifications_along s (own_justifications m.bound) t first id) (least_justification m.bound t first id lower ∷ last ∷ [])
    (along_whole vars s (own_justifications m.bound) (λ l r first id k.
    let ps = totalizer_pairs (m.bound + 1) (values s l) (values s r) in
    let qs = limit_pairs (outputs_of m.bound (node l r)) (outputs_of m.bound l) (outputs_of m.bound r) in
    All-append (IsWhole vars) (pair_justifications s (totalizer_pairs (m.bound + 1)) l r first id) (limit_justifications m.bound l r first id) (pairs_whole vars s l r first id ps k) (limits_whole vars m.bound l r first id qs k)) t first id h)
    (All-cons (IsWhole vars) (least_justification m.bound t first id lower) (last ∷ []) (record { some = not_empty [] (map (λ k. k + 1) (output_ids s t id m.bound)) (lower ∷ []) (omega arith); vars_known = All-nil (UpTo vars) })
    (All-cons (IsWhole vars) last [] (record { some = not_empty [] (output_ids s t id s.cap) (upper ∷ []) (omega arith); vars_known = All-nil (UpTo vars) }) (All-nil (IsWhole vars))))
