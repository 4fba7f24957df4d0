-- Unit propagation over the clauses of a problem reaches what its constraints force.
use Rattle.std.proofs.Common.{◌≤◌, ◌+◌, ◌⊎◌, ℕ, List, [], ◌∷◌, All, map, arith, inl, inr}
use Rattle.std.proofs.lemmas.List.Elements.{All-head, All-tail, Contains-append_left, Contains-append_right}
use Rattle.pb_base.specs.declared.literal.Lit.{Lit}
use Rattle.pb_base.specs.declared.problem.Problem.{Problem}
use Rattle.pb_base.specs.Literals.{Assignment}
use Rattle.pb_base.specs.Problems.{IsWithinLimits, originals}
use Rattle.pb_norm.specs.BoundedSums.{BoundedSum}
use Rattle.pb_norm.specs.ClauseForm.{clause_form}
use Rattle.pb_norm.specs.ClausePropagation.{ClauseConflict, ClausesPropagate, ClausesReach}
use Rattle.pb_norm.specs.Constraints.{Holds}
use Rattle.pb_norm.specs.Propagation.{Propagates}
use Rattle.pb_norm.specs.PropagationLaws.{AreAmong}
use Rattle.pb_norm.proofs.ClauseLift.{propagates_lifts}
use Rattle.pb_norm.proofs.PropagationMore.{ClauseConflict-more, ClausesPropagate-more, ClausesReach-more}
use Rattle.pb_totalizer.specs.ExactOutputs.{ReachesOutputs}
use Rattle.pb_base.specs.declared.options.Options.{Options}
use Rattle.pb_choice.specs.Equals.{equality_clauses, literals_asked}
use Rattle.pb_choice.specs.EqualityLaws.{BothHold}
use Rattle.pb_choice.proofs.EqualityEncoded.{equalities_force, joint_equalities_force}
use Rattle.pb_choice.proofs.Forced.{clauses-propagate}
use Rattle.pb_gentot.specs.BoundTable.{table_clauses}
use Rattle.pb_encode.specs.Clauses.{clauses_from, loaded_clauses, problem_clauses, table_first}
use Rattle.pb_encode.specs.declared.groups.Group.{Group}
use Rattle.pb_encode.specs.Groups.{group_clauses, group_fresh, groups_of}
use Rattle.pb_encode.specs.declared.groups.Group.TheVariants.{Alone, Paired}
use Rattle.pb_encode.specs.Models.{ForceEach, ForcesGroup}
use Rattle.pb_encode.specs.Tables.{table_terms}
use Rattle.pb_encode.proofs.GroupClauses.{IsGroupReady, both_equal, constraint-below}
use Rattle.pb_encode.proofs.Solutions.{loaded_ready, ready_groups}

-- ---- over more clauses

either_more : (clauses more : List (List Lit)) → AreAmong clauses more → (given : List Lit) (l : Lit) → ClausesReach clauses given l ⊎ ClauseConflict clauses given → ClausesReach more given l ⊎ ClauseConflict more given
either_more clauses more among given l h =
    elim h as (λ _. ClausesReach more given l ⊎ ClauseConflict more given) [
      | inl reach ↦ inl (ClausesReach-more clauses more among given l reach)
      | inr conflict ↦ inr (ClauseConflict-more clauses more among given conflict)
    ]

outputs-more : (clauses more : List (List Lit)) → AreAmong clauses more → (m : BoundedSum) (first : ℕ) → ReachesOutputs clauses m first → ReachesOutputs more m first
outputs-more clauses more among m first h = record {
  most = λ given part at j is from within true_ones. either_more clauses more among given _ (h.most given part at j is from within true_ones);
  least = λ given part at j is from within few. either_more clauses more among given _ (h.least given part at j is from within few);
}

-- what clauses among them propagate, they do as constraints
propagates_among : (clauses more : List (List Lit)) → AreAmong clauses more → (P : Assignment → Type 0) → ClausesPropagate clauses P → Propagates (map clause_form more) P
propagates_among clauses more among P propagate = propagates_lifts more P (ClausesPropagate-more clauses more among P propagate)

-- ---- a group, whose clauses are among more

group_forces : (o : Options) (n first : ℕ) (g : Group) (more : List (List Lit)) → n ≤ first → IsGroupReady o n g → AreAmong (group_clauses o g first) more → ForcesGroup o more first g
group_forces o n first (Alone c) more le ready among = λ other. propagates_among (group_clauses o (Alone c) first) more among (λ a. Holds a c) (clauses-propagate o c first ready.linear other)
group_forces o n first (Paired c d) more le ready among =
    let own = equality_clauses o c d first in
    let equality = both_equal o n c d ready in
    let halves = equalities_force o c d first equality (constraint-below o n first c le ready.lower) in
    record {
      lower_forces = λ other. propagates_among own more among (λ a. Holds a c) (halves.lower_forces other);
      upper_forces = λ other. propagates_among own more among (λ a. Holds a d) (halves.upper_forces other);
      jointly = λ is.
          let both = joint_equalities_force o c d first equality is in
          record {
            both = propagates_among own more among (BothHold c d) both.both_force;
            outputs = outputs-more own more among (literals_asked c) first both.outputs;
          };
    }

-- ---- all of them

groups_force : (o : Options) (n first : ℕ) (gs : List Group) (more : List (List Lit)) → n ≤ first → All (IsGroupReady o n) gs → AreAmong (clauses_from o first gs) more → ForceEach o more first gs
groups_force o n first [] more le ready among = tt
groups_force o n first (g ∷ gs) more le ready among =
    let next = first + group_fresh o g in
    let own = group_clauses o g first in
    let rest = clauses_from o next gs in (
      group_forces o n first g more le (All-head (IsGroupReady o n) g gs ready) (λ c h. among c (Contains-append_left own rest c h)),
      groups_force o n next gs more (omega (arith, le)) (All-tail (IsGroupReady o n) g gs ready) (λ c h. among c (Contains-append_right own rest c h)),
    )

-- the clauses of the table are further ones
pub problem_forces : (o : Options) (p : Problem) → IsWithinLimits p → ForceEach o (problem_clauses o p) (originals p + 1) (groups_of p)
problem_forces o p within =
    let first = originals p + 1 in
    groups_force o first first (groups_of p) (problem_clauses o p) (omega arith) (ready_groups o p (loaded_ready o p within))
    (λ c h. Contains-append_left (loaded_clauses o p) (table_clauses (table_terms o p) (table_first o p)) c h)
