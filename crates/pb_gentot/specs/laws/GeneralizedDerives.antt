-- The clauses of a generalized totalizer are derived.
use Rattle.std.proofs.Common.{◌≤◌, ◌<◌, ◌+◌, ◌*◌, ◌^◌, ℕ, length, arith}
use Rattle.pb_norm.specs.Constraints.{weight}
use Rattle.pb_norm.specs.BoundedSums.{BoundedSum, IsProper}
use Rattle.pb_steps.specs.Database.{Database}
use Rattle.pb_derive.specs.Derivations.{IsReadyFor, Derives}
use Rattle.pb_family.specs.Families.{VarsBelow}
use Rattle.pb_tree.proofs.TreeDerives.{tree_few, tree_derives}
use Rattle.pb_gentot.specs.Generalized.{generalized, generalized_clauses, generalized_fresh, generalized_size}
use Rattle.pb_gentot.specs.GeneralizedSteps.{generalized_pairs, generalized_steps}
use Rattle.pb_gentot.specs.laws.GeneralizedLaws.{Always, generalized_lawful, generalized_suits, generalized_counts}
use Rattle.pb_gentot.specs.laws.ByPairs.{generalized_by_pairs}

-- from each database that is ready, the steps run and put out the clauses
pub generalized_derives : (m : BoundedSum) → IsProper m → weight m.terms < 2 ^ 100 → (first id : ℕ) (db : Database) → VarsBelow first m.terms → IsReadyFor m first (generalized_fresh m) id db
    → Derives db (generalized_steps m first id db.next) (generalized_clauses m first) (first + generalized_fresh m)
generalized_derives m proper light first id db below ready =
    tree_derives (generalized m.bound) Always (generalized_lawful m.bound) generalized_pairs (generalized_by_pairs m.bound) m (generalized_suits m proper) light first id db below ready

-- the steps are few
pub generalized_lines : (m : BoundedSum) → IsProper m → (first id next : ℕ) → length (generalized_steps m first id next) ≤ 8 * (generalized_fresh m + generalized_size m)
generalized_lines m proper first id next =
    omega (arith, tree_few (generalized m.bound) Always (generalized_lawful m.bound) generalized_pairs (generalized_by_pairs m.bound) m (generalized_suits m proper) first id next, generalized_counts m first)
