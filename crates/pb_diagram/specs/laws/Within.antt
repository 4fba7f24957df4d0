-- What a bounded sum forces, where the given literals keep within its bound. It serves proofs alone.
use Rattle.std.proofs.Common.{◌<◌, ◌≤◌, ◌+◌, ◌⊎◌, List, sym, subst, inl, inr}
use Rattle.std.specs.Prelude.{Contains}
use Rattle.std.proofs.lemmas.Bool.{cases_lt}
use Rattle.pb_base.specs.declared.literal.Lit.{Lit}
use Rattle.pb_base.specs.Literals.{negated}
use Rattle.pb_base.proofs.Members.{cases_contains}
use Rattle.pb_norm.specs.Constraints.{Weighted}
use Rattle.pb_norm.specs.BoundedSums.{BoundedSum, StaysWithin, IsOverDistinct}
use Rattle.pb_norm.specs.ClausePropagation.{ClausesReach, ClauseConflict, ClausesPropagate}
use Rattle.pb_norm.proofs.Derived.{Derived, Refuted, reaches_derived, conflict_refuted}
use Rattle.pb_norm.proofs.Derived.Derived.{by_given}
use Rattle.pb_norm.proofs.BoundedForcing.{given_sum, bound_below_given_sum, forced_term}
use Rattle.pb_norm.proofs.Proper.{apart}

-- A family's clauses propagate where they refute each sum above the bound, and push out each term that a sum within the
-- bound has no room for.
pub propagates_within : (cs : List (List Lit)) (c : BoundedSum) → IsOverDistinct c.terms
    → ((given : List Lit) → c.bound < given_sum given c.terms → Refuted cs given)
    → ((given : List Lit) (t : Weighted) → Contains c.terms t → ¬ Contains given t.lit → given_sum given c.terms ≤ c.bound → c.bound < given_sum given c.terms + t.coef → Derived cs given (negated t.lit))
    → ClausesPropagate cs (λ a. StaysWithin a c)
propagates_within cs c over refutes pushes = let distinct = apart c.terms over in record {
  conflict = λ given consistent empty. conflict_refuted cs given (refutes given (bound_below_given_sum c distinct given consistent empty));
  forced = λ given l consistent forces.
      elim (cases_contains given l) as (λ _. ClausesReach cs given l ⊎ ClauseConflict cs given) [
        | inl h ↦ reaches_derived cs given l (by_given h)
        | inr new ↦ elim (cases_lt c.bound (given_sum given c.terms)) as (λ _. ClausesReach cs given l ⊎ ClauseConflict cs given) [
          | inl above ↦ inr (conflict_refuted cs given (refutes given above))
          | inr within ↦
              let term = forced_term c distinct given l consistent forces new in
              reaches_derived cs given l (subst (λ (m : Lit). Derived cs given m) (sym term.2) (pushes given term.0 term.1 term.3 within term.4))
        ]
      ];
}
