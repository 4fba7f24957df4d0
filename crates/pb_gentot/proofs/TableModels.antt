-- Models of a table, how many clauses it has, and what they name.
use Rattle.std.proofs.Common.{◌≡◌, ◌<◌, ◌≤◌, ◌+◌, ◌⊎◌, ℕ, true, leb, List, length, sym, ap, ◌∙◌, subst, arith, inl, inr, length-append}
use Rattle.std.specs.Prelude.{Contains, All}
use Rattle.std.proofs.lemmas.Bool.{le-leb, leb-true}
use Rattle.std.proofs.lemmas.List.Elements.{Contains-append_cases}
use Rattle.pb_base.specs.declared.literal.Lit.{Lit}
use Rattle.pb_base.specs.Literals.{Assignment, negated, lit_value, clause_value}
use Rattle.pb_norm.specs.Constraints.{Weighted, weight, value}
use Rattle.pb_norm.specs.BoundedSums.{vars_of}
use Rattle.pb_family.specs.Families.{VarsBelow, NamesOnly}
use Rattle.pb_family.proofs.ShortClauses.{when_one}
use Rattle.pb_tree.specs.Tree.{node, tree_of}
use Rattle.pb_tree.specs.Scheme.{fresh_of, output, clauses_of, own_of, own_count_of}
use Rattle.pb_tree.proofs.ByReification.{lawful_by_reification}
use Rattle.pb_tree.proofs.Extending.{IsNamed, all_from_each, along_counted, along_named, extension, output_named}
use Rattle.pb_tree.proofs.Laws.{leaf_below, named_of}
use Rattle.pb_tree.proofs.Splitting.{leaf_listed}
use Rattle.pb_tree.proofs.Threes.{cases_two}
use Rattle.pb_gentot.specs.BoundTable.{IsTable, uncut, table_values, table_output, table_clauses, table_fresh, table_size}
use Rattle.pb_gentot.specs.BoundTableLaws.{TableModel}
use Rattle.pb_gentot.specs.laws.GeneralizedLaws.{Always, generalized_lawful}
use Rattle.pb_gentot.proofs.Neighbours.{clauses_between, between_cases, between_counted}
use Rattle.pb_gentot.proofs.TableValues.{each_positive, passing_value, table_values_rise}

-- each assignment extends to a model in which each row's literal says whether the sum reaches its value
pub table_extends : (ts : List Weighted) → IsTable ts → (first : ℕ) → VarsBelow first ts → (a : Assignment) → TableModel ts first a
table_extends ts table first low a =
    let s = uncut ts in
    let t = tree_of ts in
    let laws = generalized_lawful (weight ts) in
    let ext = extension s Always laws (omega arith) (own_of s) (lawful_by_reification s Always laws) a t first (leaf_below first ts low) (λ u h. each_positive ts table u (leaf_listed ts u h)) in
    let rows : (u : ℕ) → Contains (table_values ts) u → lit_value ext.now (table_output ts first u) ≡ leb u (value a ts) = λ u h. ext.means u h ∙ ap (leb u) (passing_value ts a) in
    let trees = clauses_of s t first in
    let others = clauses_between (table_output ts first) (table_values ts) in
    record {
      now = ext.now;
      agrees = ext.agrees;
      model = all_from_each (λ c. clause_value ext.now c ≡ true) (table_clauses ts first) (λ c h.
          elim (Contains-append_cases trees others c h) as (λ _. clause_value ext.now c ≡ true) [
            | inl inside ↦ ext.holds c inside
            | inr last ↦
                let found = between_cases (table_output ts first) (table_values ts) (table_values_rise ts) c last in
                let u = found.0 in
                let v = found.1 in
                let less = found.4 in
                subst (λ (c : List Lit). clause_value ext.now c ≡ true) found.5 (when_one ext.now (table_output ts first v) (table_output ts first u) (λ on.
                let reached = leb-true v (value a ts) (sym (rows v found.3) ∙ on) in
                rows u found.2 ∙ le-leb u (value a ts) (omega arith)))
          ]);
      rows = rows;
    }

-- ---- counts and names

pub table_counts : (ts : List Weighted) (first : ℕ) → length (table_clauses ts first) ≡ table_size ts
table_counts ts first =
    let s = uncut ts in
    let laws = generalized_lawful (weight ts) in
    omega (
      arith,
      length-append (clauses_of (uncut ts) (tree_of ts) first) (clauses_between (table_output ts first) (table_values ts)),
      along_counted s (own_of s) (own_count_of s) (λ l r from. laws.counted l r (output s l from) (output s r (from + fresh_of s l)) (output s (node l r) from)) (tree_of ts) first,
      between_counted (table_output ts first) (table_values ts),
    )

pub table_names : (ts : List Weighted) (first : ℕ) → NamesOnly ts first (table_fresh ts) (table_clauses ts first)
table_names ts first =
    let s = uncut ts in
    let t = tree_of ts in
    let laws = generalized_lawful (weight ts) in
    let o = table_output ts first in
    let Named : Lit → Type 0 = λ l. Contains (vars_of ts) l.var ⊎ ((first ≤ l.var) × (l.var < first + table_fresh ts)) in
    all_from_each (All Named) (table_clauses ts first) (λ c h. all_from_each Named c (λ k among.
    named_of s ts first k.var (elim (Contains-append_cases (clauses_of s t first) (clauses_between o (table_values ts)) c h) as (λ _. IsNamed s t first k.var) [
      | inl inside ↦ along_named s Always laws (own_of s) (lawful_by_reification s Always laws) t first c inside k among
      | inr last ↦
          let found = between_cases o (table_values ts) (table_values_rise ts) c last in
          elim (cases_two (negated (o found.1)) (o found.0) k (subst (λ (c : List Lit). Contains c k) (sym found.5) among)) as (λ _. IsNamed s t first k.var) [
            | inl e ↦ subst (λ (l : Lit). IsNamed s t first l.var) e (output_named s Always laws t first found.1 found.3)
            | inr e ↦ subst (λ (l : Lit). IsNamed s t first l.var) e (output_named s Always laws t first found.0 found.2)
          ]
    ])))

-- a row's literal is of such a variable too
pub row_named : (ts : List Weighted) (first u : ℕ) → Contains (table_values ts) u
    → Contains (vars_of ts) (table_output ts first u).var ⊎ ((first ≤ (table_output ts first u).var) × ((table_output ts first u).var < first + table_fresh ts))
row_named ts first u here = named_of (uncut ts) ts first (table_output ts first u).var (output_named (uncut ts) Always (generalized_lawful (weight ts)) (tree_of ts) first u here)
