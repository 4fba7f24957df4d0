-- The derivation of a sum along its tree runs, and puts out the tree's clauses.
use Rattle.std.proofs.Common.{◌≡◌, ◌≢◌, ◌≤◌, ◌<◌, ◌+◌, ◌-◌, ◌*◌, ◌^◌, ℕ, zero, suc, List, [], ◌∷◌, ◌++◌, length, min, map, ap, sym, ◌∙◌, subst, arith, length-append}
use Rattle.std.specs.Prelude.{All}
use Rattle.std.proofs.lemmas.List.Elements.{All-nil, All-cons, All-append, All-map}
use Rattle.pb_base.proofs.Members.{All-append_both}
use Rattle.pb_norm.specs.Constraints.{Weighted, Constraint, weight}
use Rattle.pb_norm.specs.BoundedSums.{BoundedSum}
use Rattle.pb_norm.specs.Reduction.{opposite}
use Rattle.pb_steps.specs.Database.{Database}
use Rattle.pb_derive.specs.Derivations.{as_constraint, IsReadyFor, Derives}
use Rattle.pb_derive.specs.Later.{Knows}
use Rattle.pb_derive.specs.Justifications.{Justification, by_justification}
use Rattle.pb_derive.proofs.Justified.{ReificationsKnown, IsJustified, IsWhole, room_of, stands_later}
use Rattle.pb_derive.proofs.Phases.{phases_few}
use Rattle.pb_derive.proofs.JustificationClauses.{justification_clauses, clauses-justifications}
use Rattle.pb_family.specs.Families.{VarsBelow}
use Rattle.pb_tree.specs.Pairs.{Pair}
use Rattle.pb_tree.specs.Scheme.{Scheme, values, fresh_of, tree_clauses}
use Rattle.pb_tree.specs.Tree.{Tree, node, tree_of}
use Rattle.pb_tree.specs.TreeSteps.{leaves, reifications, output_ids, part_ids, part_weakened, pair_justification, pair_justifications, justifications, root_justification, tree_justifications, tree_steps}
use Rattle.pb_tree.proofs.AlongDerives.{Weighs, leaves_positive as terms_positive, over_terms, terms_derive}
use Rattle.pb_tree.proofs.AlongJustifications.{along_whole}
use Rattle.pb_tree.proofs.Laws.{Suits, cap_value, tree_names}
use Rattle.pb_tree.proofs.PairJustifications.{IsByPairs, IsPositive, tree_justifications_clauses, tree_justified, all_map}
use Rattle.pb_tree.proofs.Sums.{IsLawful}
use Rattle.pb_tree.proofs.TreeReifications.{length-reifications}
use Rattle.pb_tree.proofs.TreeRows.{leaves_of}

-- ---- the justifications by themselves

pub not_empty : (is js ks : List ℕ) → 1 ≤ length ks → is ++ (js ++ ks) ≢ []
not_empty is js ks some e = omega (arith, length-append is (js ++ ks), length-append js ks, ap length e, some)

abbrev pub UpTo : ℕ → ℕ → Type 0
UpTo vars v = v ≤ vars

-- what holds of the leaves' variables holds of those that are weakened away
pub part_all : (P : ℕ → Type 0) (t : Tree) (u : ℕ) → All (λ w. P w.lit.var) (leaves t) → All P (part_weakened t u)
part_all P t zero h = All-map P (λ (w : Weighted). w.lit.var) (leaves t) h
part_all P t (suc u) h = All-nil P

pub pairs_whole : (vars : ℕ) (s : Scheme) (l r : Tree) (first id : ℕ) (ps : List Pair) → All (λ w. w.lit.var ≤ vars) (leaves (node l r)) → All (IsWhole vars) (map (pair_justification s l r first id) ps)
pairs_whole vars s l r first id ps h =
    let parts = All-append_both (λ (w : Weighted). w.lit.var ≤ vars) (leaves l) (leaves r) h in
    all_map (IsWhole vars) (pair_justification s l r first id) ps (λ p listed. record {
      some = not_empty (part_ids s l id p.left) (part_ids s r (id + 2 * fresh_of s l) p.right) (map (λ i. i + 1) (output_ids s (node l r) id (min (p.left + p.right) s.cap))) (omega arith);
      vars_known = All-append (UpTo vars) (part_weakened l p.left) (part_weakened r p.right) (part_all (UpTo vars) l p.left parts.0) (part_all (UpTo vars) r p.right parts.1);
    })

pub justifications_whole : (vars : ℕ) (s : Scheme) (pairs : List ℕ → List ℕ → List Pair) (t : Tree) (first id : ℕ) → All (λ w. w.lit.var ≤ vars) (leaves t) → All (IsWhole vars) (justifications s pairs t first id)
justifications_whole vars s pairs t first id h = along_whole vars s (pair_justifications s pairs) (λ l r first id k. pairs_whole vars s l r first id (pairs (values s l) (values s r)) k) t first id h

tree_whole : (vars : ℕ) (s : Scheme) (pairs : List ℕ → List ℕ → List Pair) (t : Tree) (first id own : ℕ) → All (λ w. w.lit.var ≤ vars) (leaves t) → All (IsWhole vars) (tree_justifications s pairs t first id own)
tree_whole vars s pairs t first id own h =
    All-append (IsWhole vars) (justifications s pairs t first id) (root_justification s t first id own ∷ []) (justifications_whole vars s pairs t first id h)
    (All-cons (IsWhole vars) (root_justification s t first id own) [] (record { some = not_empty [] (output_ids s t id s.cap) (own ∷ []) (omega arith); vars_known = All-nil (UpTo vars) }) (All-nil (IsWhole vars)))

-- ---- the whole

pub weighs_of : (s : Scheme) (m : BoundedSum) → Suits s m → Weighs s m.terms
weighs_of s m suits = record { weights = suits.weights; positive = suits.positive; distinct = suits.distinct }

module _ (s : Scheme) (W : ℕ → Type 0) (laws : IsLawful s W) (pairs : List ℕ → List ℕ → List Pair) (by : IsByPairs s pairs) (m : BoundedSum) (suits : Suits s m) where
  abbrev ts : List Weighted
  ts = m.terms

  abbrev t : Tree
  t = tree_of m.terms

  abbrev fresh : ℕ
  fresh = fresh_of s (tree_of m.terms)

  abbrev weighs : Weighs s m.terms
  weighs = weighs_of s m suits

  pub leaves_positive : IsPositive s t
  leaves_positive = terms_positive s pairs by ts weighs

  -- the justifications are of the tree's clauses
  pub clauses_are : (first id own : ℕ) → justification_clauses (tree_justifications s pairs t first id own) ≡ tree_clauses s t first
  clauses_are first id own = clauses-justifications (tree_justifications s pairs t first id own) ∙ tree_justifications_clauses s pairs by t first id own leaves_positive

  -- three lines for each fresh variable, and two for each clause
  pub tree_few : (first id next : ℕ) → length (tree_steps s pairs t first id next) ≤ 8 * (fresh + length (tree_clauses s t first))
  tree_few first id next =
      omega (
        arith,
        phases_few next (reifications s t first) (map by_justification (tree_justifications s pairs t first next id)),
        length-reifications s t first,
        ap length (clauses_are first next id),
      )

  module _ (light : weight m.terms < 2 ^ 100) (first id : ℕ) (db : Database) (below : VarsBelow first m.terms) (ready : IsReadyFor m first (fresh_of s (tree_of m.terms)) id db) where
    abbrev rs : List Justification
    rs = tree_justifications s pairs t first db.next id

    own_known : (K : ℕ → Constraint → Type 0) → K id (as_constraint m) → K id (record { terms = map opposite (leaves t); degree = weight (leaves t) - m.bound })
    own_known K held =
        let is = leaves_of ts in
        let same : as_constraint m ≡ record { terms = map opposite (leaves t); degree = weight (leaves t) - m.bound } = λ i. record { terms = map opposite (sym is i); degree = weight (sym is i) - m.bound } in
        subst (K id) same held

    justified : (K : ℕ → Constraint → Type 0) → ReificationsKnown K db.next (reifications s t first) → K id (as_constraint m) → All (IsJustified K) rs
    justified K known held =
        let total : weight (leaves t) ≡ weight ts = ap weight (leaves_of ts) in
        let passes = suits.passes in
        tree_justified K s W laws pairs by first t first db.next id m.bound (omega arith) (over_terms s pairs by ts weighs first below light) (omega arith) known suits.cut (omega arith) (cap_value s W laws m suits) (own_known K held)

    pub tree_derives : Derives db (tree_steps s pairs (tree_of m.terms) first id db.next) (tree_clauses s (tree_of m.terms) first) (first + fresh_of s (tree_of m.terms))
    tree_derives =
        terms_derive s pairs by ts weighs light first db below (room_of m first fresh id db ready) rs (tree_clauses s t first)
        (tree_justifications_clauses s pairs by t first db.next id leaves_positive) (tree_names s W laws m suits first) (λ vars h. tree_whole vars s pairs t first db.next id h)
        (λ end later known. justified (Knows end) known (stands_later (λ v. v < first + fresh) db end id (as_constraint m) ready.numbered later ready.stands))
