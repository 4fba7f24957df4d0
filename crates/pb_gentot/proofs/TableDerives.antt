-- The derivation of a table runs, and puts out exactly its clauses.
use Rattle.std.proofs.Common.{◌≡◌, ◌≤◌, ◌<◌, ◌+◌, ◌*◌, ◌^◌, ℕ, List, length, map, refl, ap, ◌∙◌, arith}
use Rattle.std.proofs.lemmas.List.{length-map}
use Rattle.pb_norm.specs.Constraints.{Weighted, weight}
use Rattle.pb_steps.specs.Database.{Database}
use Rattle.pb_derive.specs.Derivations.{Derives, HasRoom}
use Rattle.pb_derive.specs.Later.{Knows}
use Rattle.pb_derive.specs.Justifications.{by_justification}
use Rattle.pb_derive.proofs.Phases.{phases_few}
use Rattle.pb_derive.proofs.JustificationClauses.{clauses-justifications}
use Rattle.pb_family.specs.Families.{VarsBelow}
use Rattle.pb_tree.specs.Tree.{tree_of}
use Rattle.pb_tree.specs.TreeSteps.{reifications}
use Rattle.pb_tree.proofs.AlongDerives.{Weighs, leaves_positive, over_terms, sum_of_leaves, terms_derive}
use Rattle.pb_tree.proofs.AlongJustifications.{clause_in}
use Rattle.pb_tree.proofs.PairJustifications.{IsPositive}
use Rattle.pb_tree.proofs.TreeReifications.{length-reifications}
use Rattle.pb_gentot.specs.BoundTable.{IsTable, uncut, table_clauses, table_fresh, table_size}
use Rattle.pb_gentot.specs.BoundTableSteps.{table_justifications, table_steps}
use Rattle.pb_gentot.specs.GeneralizedSteps.{generalized_pairs}
use Rattle.pb_gentot.specs.laws.ByPairs.{generalized_by_pairs}
use Rattle.pb_gentot.proofs.TableModels.{table_counts, table_names}
use Rattle.pb_gentot.proofs.TableJustifications.{table_justifications_clauses, table_justified, table_whole}
use Rattle.pb_gentot.proofs.TableValues.{each_positive}

pub table_weighs : (ts : List Weighted) → IsTable ts → Weighs (uncut ts) ts
table_weighs ts table = record { weights = λ t h. refl; positive = λ t h. (let some = each_positive ts table t h in omega arith); distinct = table.distinct }

pub table_positive : (ts : List Weighted) → IsTable ts → IsPositive (uncut ts) (tree_of ts)
table_positive ts table = leaves_positive (uncut ts) generalized_pairs (generalized_by_pairs (weight ts)) ts (table_weighs ts table)

-- from every database with room, with no constraint of its own
pub table_derives : (ts : List Weighted) → IsTable ts → weight ts < 2 ^ 100 → (first : ℕ) (db : Database) → VarsBelow first ts → HasRoom first (table_fresh ts) db
    → Derives db (table_steps ts first db.next) (table_clauses ts first) (first + table_fresh ts)
table_derives ts table light first db below room =
    let s = uncut ts in
    let by = generalized_by_pairs (weight ts) in
    let weighs = table_weighs ts table in
    let rs = table_justifications ts first db.next in
    let sum = sum_of_leaves s generalized_pairs by ts weighs first below light in
    terms_derive s generalized_pairs by ts weighs light first db below room rs (table_clauses ts first) (table_justifications_clauses ts first db.next (table_positive ts table)) (table_names ts first)
    (λ vars known. table_whole vars ts first db.next known)
    (λ end later known. table_justified (Knows end) ts first db.next (over_terms s generalized_pairs by ts weighs first below light) sum.light known)

-- one justification for each clause
pub table_justifications_counted : (ts : List Weighted) → IsTable ts → (first id : ℕ) → length (table_justifications ts first id) ≡ table_size ts
table_justifications_counted ts table first id =
    let rs = table_justifications ts first id in
    omega (arith, length-map rs clause_in, ap length (table_justifications_clauses ts first id (table_positive ts table)), table_counts ts first)

-- three lines for each fresh variable, and two for each clause
pub table_few : (ts : List Weighted) → IsTable ts → (first next : ℕ) → length (table_steps ts first next) ≤ 8 * (table_fresh ts + table_size ts)
table_few ts table first next =
    let rs = table_justifications ts first next in
    omega (
      arith,
      phases_few next (reifications (uncut ts) (tree_of ts) first) (map by_justification rs),
      length-reifications (uncut ts) (tree_of ts) first,
      ap length (clauses-justifications rs ∙ table_justifications_clauses ts first next (table_positive ts table)),
      table_counts ts first,
    )
