-- The rows of a comparator that are claimed one after another.
use Rattle.std.proofs.Common.{◌≡◌, ◌≤◌, ◌+◌, ◌/◌, ◌++◌, ◌∙◌, ℕ, List, [], ◌∷◌, length, sym, ap, subst, arith}
use Rattle.std.specs.Prelude.{map, Option, Result, IsErrAnd}
use Rattle.std.proofs.lemmas.List.{length-map, map-append}
use Rattle.pb_base.specs.declared.literal.Lit.{Lit}
use Rattle.pb_steps.specs.declared.step.Step.{Step}
use Rattle.pb_derive.specs.Claims.{claim_steps}
use Rattle.pb_derive.specs.Rups.{by_rup}
use Rattle.pb_family.specs.StepSinks.{StepState, TakesSteps, StopsInSteps, HandsSteps}
use Rattle.pb_family.specs.declared.sink.SinkFault.{SinkFault}
use Rattle.pb_family.proofs.Deriving.{Deriving, deriving_as, deriving_step, deriving_ends, steps_fault, takes_no_steps}
use Rattle.pb_adder.specs.AdderSteps.{row_claims}
use Rattle.pb_adder.specs.Comparator.{row_at, row_clause, comparator}
use Rattle.pb_adder.specs.declared.gate.Wire.{Wire}
use Rattle.pb_adder.specs.laws.RowLengths.{row_at_few}
use Rattle.pb_adder.proofs.RowSteps.{level_rows}
use Rattle.pb_adder.proofs.Walks.{claims-append, claims_ids}

-- the steps of clauses, by one id
abbrev pub by_last : ℕ → ℕ → List (List Lit) → List Step
by_last id next cs = claim_steps next (row_claims id cs)

pub no_rows : {R : Type 0} (id : ℕ) (cs : List (List Lit)) (a : StepState R) → cs ≡ [] → TakesSteps (by_last id a.next cs) a a
no_rows id cs a none = subst (λ (ds : List (List Lit)). TakesSteps (by_last id a.next ds) a a) (sym none) (takes_no_steps a)

module _ {R : Type 0} {all : List Step} {old now : StepState R} (first bound id : ℕ) (e : Option Wire) (rest above : List (Option Wire)) (split : rest ≡ e ∷ above)
    (left : Deriving all (by_last id now.next (comparator first bound rest)) old now) where
  abbrev here : List (List Lit)
  here = map (row_clause first) (row_at bound e above)

  abbrev others : List (List Lit)
  others = comparator first (bound / 2) above

  more : Deriving all (by_last id now.next here ++ by_last id (now.next + length here) others) old now
  more =
      deriving_as (
      ap (by_last id now.next) (level_rows first bound e rest above split)
      ∙ ap (claim_steps now.next) (map-append (by_rup (id ∷ [])) here others)
      ∙ claims-append now.next (row_claims id here) (row_claims id others)
      ∙ ap (λ (n : ℕ). by_last id now.next here ++ by_last id (now.next + n) others) (length-map here (by_rup (id ∷ [])))) left

  -- by what code has found the row to be
  module _ (found : List (List Lit)) (is : found ≡ here) where
    given : (after : StepState R) → TakesSteps (by_last id now.next found) now after → TakesSteps (by_last id now.next here) now after
    given after h = subst (λ (cs : List (List Lit)). TakesSteps (by_last id now.next cs) now after) is h

    pub rows_taken : (after : StepState R) → TakesSteps (by_last id now.next found) now after → Deriving all (by_last id after.next others) old after
    rows_taken after h =
        let taken = given after h in
        let count : now.next + length here ≡ after.next = omega (arith, taken.ids, claims_ids now.next (id ∷ []) here) in
        deriving_as (ap (λ (n : ℕ). by_last id n others) count) (deriving_step {left = by_last id (now.next + length here) others} (by_last id now.next here) after more taken)

    pub rows_stopped : {T : Type 0} (r : Result T SinkFault) (f : SinkFault) (after : StepState R) → IsErrAnd r (λ g. g ≡ f) → StopsInSteps (by_last id now.next found) now after f → HandsSteps all r old after
    rows_stopped r f after done h =
        steps_fault r f (by_last id now.next here) (by_last id (now.next + length here) others) after done more (subst (λ (cs : List (List Lit)). StopsInSteps (by_last id now.next cs) now after f) is h)

    pub rows_counted : (after : StepState R) → TakesSteps (by_last id now.next found) now after → after.next ≤ now.next + 1
    rows_counted after h = omega (arith, (given after h).ids, claims_ids now.next (id ∷ []) here, length-map (row_at bound e above) (row_clause first), row_at_few bound e above)

-- all rows were claimed
pub rows_claimed : {R : Type 0} {all : List Step} {old now : StepState R} (first bound id : ℕ) (rest : List (Option Wire)) → length rest ≡ 0 → Deriving all (by_last id now.next (comparator first bound rest)) old now → TakesSteps all old now
rows_claimed first bound id [] none h = deriving_ends h
rows_claimed first bound id (e ∷ es) none h = absurd (omega (arith, none))
