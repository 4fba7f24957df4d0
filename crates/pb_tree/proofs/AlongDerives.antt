-- Derivations by the reifications along a tree of terms, whatever clauses these justify.
use Rattle.std.proofs.Common.{◌≡◌, ◌≤◌, ◌<◌, ◌+◌, ◌^◌, ℕ, List, map, sym, ◌∙◌, subst, arith, inl, inr}
use Rattle.std.specs.Prelude.{Contains, All}
use Rattle.std.proofs.lemmas.List.Elements.{All-weaker, All-contains}
use Rattle.pb_base.specs.declared.literal.Lit.{Lit}
use Rattle.pb_norm.specs.Constraints.{Weighted, weight}
use Rattle.pb_norm.specs.BoundedSums.{IsOverDistinct, vars_of}
use Rattle.pb_steps.specs.Database.{Database}
use Rattle.pb_derive.specs.Derivations.{HasRoom, Derives}
use Rattle.pb_derive.specs.Later.{Knows, IsLater}
use Rattle.pb_derive.specs.Phases.{phases}
use Rattle.pb_derive.specs.Justifications.{Justification, by_justification}
use Rattle.pb_derive.proofs.Justified.{ReificationsKnown, IsJustified, IsWhole, IsReached, IsSum, all_unmapped, apart_from_vars, room_derives}
use Rattle.pb_derive.proofs.JustificationClauses.{clauses-justifications}
use Rattle.pb_family.specs.Families.{VarsBelow, IsNamed, NamesOnly}
use Rattle.pb_tree.specs.Pairs.{Pair}
use Rattle.pb_tree.specs.Scheme.{Scheme, fresh_of}
use Rattle.pb_tree.specs.Tree.{Tree, tree_of, IsLeafOf}
use Rattle.pb_tree.specs.TreeSteps.{leaves, reifications}
use Rattle.pb_tree.proofs.AlongJustifications.{clause_in}
use Rattle.pb_tree.proofs.Extending.{all_from_each}
use Rattle.pb_tree.proofs.Lists.{Contains-map_cases}
use Rattle.pb_tree.proofs.PairJustifications.{IsByPairs, IsPositive}
use Rattle.pb_tree.proofs.Splitting.{leaf_listed as leaf_of_terms}
use Rattle.pb_tree.proofs.TreeReifications.{length-reifications}
use Rattle.pb_tree.proofs.TreeParts.{IsOver}
use Rattle.pb_tree.proofs.TreeRows.{leaves_of, apart_tree, tree_row, tree_fit}

-- the scheme takes the terms' coefficients, which are positive, and each variable stands once
pub record Weighs (s : Scheme) (ts : List Weighted) : Type 0 where
  pub weights : (t : Weighted) → Contains ts t → s.weight t ≡ t.coef
  pub positive : (t : Weighted) → Contains ts t → 0 < t.coef
  pub distinct : IsOverDistinct ts

module _ (s : Scheme) (pairs : List ℕ → List ℕ → List Pair) (by : IsByPairs s pairs) (ts : List Weighted) (weighs : Weighs s ts) where
  abbrev t : Tree
  t = tree_of ts

  abbrev fresh : ℕ
  fresh = fresh_of s (tree_of ts)

  leaf_in : (u : Weighted) → IsLeafOf t u → Contains ts u
  leaf_in u h = leaf_of_terms ts u h

  pub leaf_weights : (u : Weighted) → IsLeafOf t u → s.weight u ≡ u.coef
  leaf_weights u h = weighs.weights u (leaf_in u h)

  pub leaves_positive : IsPositive s t
  leaves_positive u h = let some = weighs.positive u (leaf_in u h) in let same = leaf_weights u h in omega arith

  pub sum_of_leaves : (first : ℕ) → VarsBelow first ts → weight ts < 2 ^ 100 → IsSum first (leaves t)
  sum_of_leaves first below light =
      subst (IsSum first) (sym (leaves_of ts)) (record { below = below; apart = apart_from_vars ts weighs.distinct; positive = all_from_each (λ (u : Weighted). 0 < u.coef) ts weighs.positive; light = light })

  pub nodes_fit : (first : ℕ) → VarsBelow first ts → weight ts < 2 ^ 100 → All (IsReached first) (reifications s t first)
  nodes_fit first below light = tree_fit s pairs by first t first (sum_of_leaves first below light) leaf_weights leaves_positive

  pub over_terms : (first : ℕ) → VarsBelow first ts → weight ts < 2 ^ 100 → IsOver s first t
  over_terms first below light = record {
    weights = leaf_weights;
    below = λ u h. All-contains (λ (w : Weighted). w.lit.var < first) ts u below (leaf_in u h);
    apart = apart_tree t (sum_of_leaves first below light).apart;
  }

  module _ (light : weight ts < 2 ^ 100) (first : ℕ) (db : Database) (below : VarsBelow first ts) (room : HasRoom first (fresh_of s (tree_of ts)) db) where
    known_leaves : All (λ (w : Weighted). w.lit.var ≤ db.vars) (leaves t)
    known_leaves =
        let vars = room.vars in
        All-weaker (λ (w : Weighted). w.lit.var < first) (λ (w : Weighted). w.lit.var ≤ db.vars) (λ w k. omega arith) (leaves t) (sum_of_leaves first below light).below

    name_low : (l : Lit) → IsNamed ts first fresh l → l.var < first + fresh
    name_low l h =
        elim h as (λ _. l.var < first + fresh) [
          | inl old ↦ let less = var_low old in omega arith
          | inr new ↦ new.1
        ]
      where
        var_low : Contains (vars_of ts) l.var → l.var < first
        var_low k = let some = Contains-map_cases (λ (w : Weighted). w.lit.var) ts l.var k in subst (λ (v : ℕ). v < first) some.2 (All-contains (λ (w : Weighted). w.lit.var < first) ts some.0 below some.1)

    names_low : (rs : List Justification) → NamesOnly ts first fresh (map clause_in rs) → All (λ r. All (λ (l : Lit). l.var < first + fresh) r.clause) rs
    names_low rs names =
        all_unmapped (All (λ (l : Lit). l.var < first + fresh)) clause_in rs
        (All-weaker (All (IsNamed ts first fresh)) (All (λ (l : Lit). l.var < first + fresh)) (λ c h. All-weaker (IsNamed ts first fresh) (λ (l : Lit). l.var < first + fresh) name_low c h) (map clause_in rs) names)

    -- from every database with room
    pub terms_derive : (rs : List Justification) (clauses : List (List Lit)) → map clause_in rs ≡ clauses → NamesOnly ts first (fresh_of s (tree_of ts)) clauses
        → ((vars : ℕ) → All (λ w. w.lit.var ≤ vars) (leaves (tree_of ts)) → All (IsWhole vars) rs)
        → ((end : Database) → IsLater (λ v. v < first + fresh_of s (tree_of ts)) db end → ReificationsKnown (Knows end) db.next (reifications s (tree_of ts) first) → All (IsJustified (Knows end)) rs)
        → Derives db (phases db.next (reifications s (tree_of ts) first) (map by_justification rs)) clauses (first + fresh_of s (tree_of ts))
    terms_derive rs clauses is names whole justified =
        subst (λ (cs : List (List Lit)). Derives db (phases db.next (reifications s t first) (map by_justification rs)) cs (first + fresh)) (clauses-justifications rs ∙ is)
        (room_derives first fresh db (reifications s t first) rs room (tree_row s t first) (length-reifications s t first) (nodes_fit first below light)
        (names_low rs (subst (NamesOnly ts first fresh) (sym is) names)) (whole db.vars known_leaves) justified)
