-- The steps of a constraint derive its clauses from it.
use Rattle.std.proofs.Common.{◌≡◌, ◌<◌, ◌+◌, ◌^◌, ℕ, List, [], ◌∷◌, length, map, refl, ap, sym, ◌∙◌, subst, arith}
use Rattle.std.specs.Prelude.{count_by}
use Rattle.std.proofs.lemmas.List.{length-map}
use Rattle.std.proofs.lemmas.List.Elements.{All-nil, All-cons}
use Rattle.pb_base.specs.declared.literal.Lit.{Lit}
use Rattle.pb_norm.specs.declared.reduction.Rest.{Rest}
use Rattle.pb_norm.specs.declared.reduction.Rest.TheVariants as rest
use Rattle.pb_norm.specs.Constraints.{Constraint, weight}
use Rattle.pb_norm.specs.BoundedSums.{BoundedSum}
use Rattle.pb_norm.specs.Classes.{RestIs}
use Rattle.pb_norm.specs.Reduction.{core, rest_of, units_of}
use Rattle.pb_norm.proofs.RestClasses.{RestOver, rest_is, rest-over}
use Rattle.pb_steps.specs.declared.step.Step.{Step}
use Rattle.pb_steps.specs.declared.step.Step.TheVariants.{Pol}
use Rattle.pb_steps.specs.Steps.{takes_id}
use Rattle.pb_steps.specs.Database.{Database, grown}
use Rattle.pb_derive.specs.Claims.{Claim, claim_steps}
use Rattle.pb_derive.specs.Derivations.{Derives, IsReadyFor}
use Rattle.pb_derive.specs.Rups.{by_rup}
use Rattle.pb_derive.specs.inner.Ran.{IsClaim, RanSwept}
use Rattle.pb_derive.proofs.FollowedBy.{later_wider, swept_wider}
use Rattle.pb_derive.proofs.Laters.{known_below}
use Rattle.pb_derive.proofs.Running.{claims_ran, swept_none, swept_then}
use Rattle.pb_family.specs.Families.{VarsBelow}
use Rattle.pb_base.specs.declared.options.Options.{Options}
use Rattle.pb_choice.specs.declared.treatment.Treatment.{Treatment}
use Rattle.pb_choice.specs.Choice.{treatment_of}
use Rattle.pb_choice.specs.Clauses.{constraint_clauses, constraint_fresh, rest_clauses, rest_fresh, unit_clause}
use Rattle.pb_choice.specs.ConstraintSteps.{constraint_steps, rest_steps, unit_claims}
use Rattle.pb_choice.specs.Readiness.{IsModest, IsReadyWith}
use Rattle.pb_choice.specs.Reducing.{core_ops}
use Rattle.pb_choice.specs.SumSteps.{sum_steps}
use Rattle.pb_choice.specs.Sums.{sum_clauses, sum_fresh}
use Rattle.pb_choice.specs.DeriveLaws.{ConstraintsDerive}
use Rattle.pb_choice.specs.Residual.{rest_terms}
use Rattle.pb_choice.specs.laws.SumDerives.{sum_derives}
use Rattle.pb_choice.specs.inner.Suits.{IsDerivable, RestSuits}
use Rattle.pb_choice.proofs.ClaimedClauses.{form_itself, empty_claimed, rest_claimed, units_claimed}
use Rattle.pb_choice.proofs.CoreForms.{IsCoreOf, IsLeftOf, rest_left}
use Rattle.pb_choice.proofs.Derived.{swept_derives}
use Rattle.pb_choice.proofs.Encoded.{chosen_suits}
use Rattle.pb_choice.proofs.ReducedSteps.{core_ready, reduced_ran}
use Rattle.pb_choice.proofs.RestTerms.{rest_light, rest_short}

-- ---- a sum that is left may be derived

abbrev pub IsRestDerivable : Treatment → Rest → Type 0
IsRestDerivable t (rest.One m) = IsDerivable t m
IsRestDerivable t (rest.Card m) = IsDerivable t m
IsRestDerivable t (rest.General m) = IsDerivable t m
IsRestDerivable t other = Unit {0}

by_class : (t : Treatment) (r : Rest) → RestSuits t r → RestIs r → length (rest_terms r) < 2 ^ 31 → weight (rest_terms r) < 2 ^ 100 → IsRestDerivable t r
by_class t (rest.One m) suits is few light = record { suits = suits; proper = is.proper; few = few; light = light }
by_class t (rest.Card m) suits is few light = record { suits = suits; proper = is.proper; few = few; light = light }
by_class t (rest.General m) suits is few light = record { suits = suits; proper = is; few = few; light = light }
by_class t other suits is few light = tt

pub rest_derivable : (o : Options) (c : Constraint) → IsModest c → IsRestDerivable (treatment_of o (rest_of c)) (rest_of c)
rest_derivable o c modest =
    by_class (treatment_of o (rest_of c)) (rest_of c) (chosen_suits o c modest.linear) (rest_is c modest.linear) (omega (arith, modest.few, rest_short c)) (omega (arith, modest.light, rest_light c modest.linear))

-- ---- the units

claimed_clauses : (id : ℕ) (us : List Lit) → map (λ (c : Claim). c.clause) (unit_claims id us) ≡ map unit_clause us
claimed_clauses id [] = refl
claimed_clauses id (l ∷ us) = ap (λ (cs : List (List Lit)). unit_clause l ∷ cs) (claimed_clauses id us)

module _ (c : Constraint) (modest : IsModest c) (first fresh id : ℕ) (below : VarsBelow first c.terms) where
  abbrev Within : ℕ → Type 0
  Within v = v < first + fresh

  units_ran : (db : Database) → IsReadyWith c first fresh id db → RanSwept (λ v. v < first) db (claim_steps db.next (unit_claims id (units_of c))) (map unit_clause (units_of c)) (length (units_of c))
  units_ran db ready =
      let claims = unit_claims id (units_of c) in
      let ran = claims_ran (λ v. v < first) db claims ready.numbered (units_claimed c modest.linear first id db below (omega (arith, ready.vars)) ready.numbered ready.stands) in
      subst (λ (cs : List (List Lit)). RanSwept (λ v. v < first) db (claim_steps db.next claims) cs (length (units_of c))) (claimed_clauses id (units_of c))
      (subst (RanSwept (λ v. v < first) db (claim_steps db.next claims) (map (λ (c : Claim). c.clause) claims)) (length-map (units_of c) (λ (l : Lit). by_rup (id ∷ []) (unit_clause l))) ran)

  -- ---- what is left

  one_ran : (db : Database) (ls : List Lit) → IsReadyWith c first fresh id db → IsClaim (λ v. v < first) db (by_rup (id ∷ []) ls) → RanSwept Within db (claim_steps db.next (by_rup (id ∷ []) ls ∷ [])) (ls ∷ []) 1
  one_ran db ls ready claim =
      swept_wider (λ v. v < first) Within (λ v low. omega (arith, low)) db (claim_steps db.next (by_rup (id ∷ []) ls ∷ [])) (ls ∷ []) 1
      (claims_ran (λ v. v < first) db (by_rup (id ∷ []) ls ∷ []) ready.numbered (All-cons (IsClaim (λ v. v < first) db) (by_rup (id ∷ []) ls) [] claim (All-nil (IsClaim (λ v. v < first) db))))

  abbrev RestRan : Treatment → Rest → Database → Type 1
  RestRan t r db = (n : ℕ) × RanSwept Within db (rest_steps (Pol (core_ops c id)) t r first id db.next) (rest_clauses t r first) n

  sum_ran : (db : Database) (t : Treatment) (m : BoundedSum) → IsReadyWith c first fresh id db → sum_fresh t m ≡ fresh → VarsBelow first m.terms → IsDerivable t m → IsCoreOf m c
      → (n : ℕ) × RanSwept Within db (rest_steps (Pol (core_ops c id)) t (rest.General m) first id db.next) (sum_clauses t m first) n
  sum_ran db t m ready same own derivable is =
      let steps = sum_steps t m first db.next (db.next + 1) in
      let over = core_ready c modest.linear modest.light first fresh id db below ready m is in
      let derives : Derives (grown db (core c)) steps (sum_clauses t m first) (first + fresh) =
      subst (λ (k : ℕ). Derives (grown db (core c)) steps (sum_clauses t m first) (first + k)) same
      (sum_derives t m derivable first db.next (grown db (core c)) own (subst (λ (k : ℕ). IsReadyFor m first k db.next (grown db (core c))) (sym same) over)) in
      (1 + count_by takes_id steps, reduced_ran c modest.linear modest.light first fresh id db below ready m is steps (sum_clauses t m first) derives)

  rest_ran : (db : Database) (t : Treatment) (r : Rest) → rest_of c ≡ r → IsReadyWith c first fresh id db → rest_fresh t r ≡ fresh → RestOver (λ v. v < first) r → IsRestDerivable t r → IsLeftOf c r → RestRan t r db
  rest_ran db t rest.Nothing e ready same over ok left = (0, swept_none Within db ready.numbered)
  rest_ran db t rest.Empty e ready same over ok left = (1, one_ran db [] ready (empty_claimed c modest.linear first id db below (omega (arith, ready.vars)) ready.numbered ready.stands e))
  rest_ran db t (rest.Clause ls) e ready same over ok left =
      (1, one_ran db ls ready (rest_claimed c modest.linear first id db below (omega (arith, ready.vars)) ready.numbered ready.stands ls e left.0 over (omega (arith, left.1, modest.few))))
  rest_ran db t (rest.One m) e ready same over ok left = sum_ran db t m ready same over ok left
  rest_ran db t (rest.Card m) e ready same over ok left = sum_ran db t m ready same over ok left
  rest_ran db t (rest.General m) e ready same over ok left = sum_ran db t m ready same over ok left

-- ---- the whole

pub constraints_derive : ConstraintsDerive
constraints_derive o c first id db modest below ready =
    let fresh : ℕ = constraint_fresh o c in
    let t : Treatment = treatment_of o (rest_of c) in
    let r : Rest = rest_of c in
    let Within : ℕ → Type 0 = λ v. v < first + fresh in
    let us = units_of c in
    let own : List Step = claim_steps db.next (unit_claims id us) in
    let units = units_ran c modest first fresh id below db ready in
    let mid : Database = units.ran.end in
    let later = units.ran.later in
    let there : IsReadyWith c first fresh id mid = record {
      original = omega (arith, ready.original, later.original);
      vars = omega (arith, ready.vars, later.vars);
      numbered = later.numbered;
      stands = later.stands id (known_below db id c ready.numbered (c, ready.stands, form_itself c modest.linear)) ∙ ready.stands;
      unnamed = λ v low high. later.unnamed v (λ less. omega (arith, low, less)) (ready.unnamed v low high);
    } in
    let wide : RanSwept Within db own (map unit_clause us) (length us) = record {
      ran = record { end = mid; runs = units.ran.runs; later = later_wider (λ v. v < first) Within (λ v low. omega (arith, low)) db mid later; next = units.ran.next };
      swept = units.swept;
      unmarked = units.unmarked;
    } in
    let left = rest_ran c modest first fresh id below mid t r refl there refl (rest-over (λ v. v < first) c below) (rest_derivable o c modest) (rest_left c modest.linear) in
    let next = subst (λ (k : ℕ). RanSwept Within mid (rest_steps (Pol (core_ops c id)) t r first id k) (rest_clauses t r first) left.0) units.ran.next left.1 in
    let whole = swept_then Within db own (rest_steps (Pol (core_ops c id)) t r first id (db.next + length us)) (map unit_clause us) (rest_clauses t r first) (length us) left.0 wide next in
    swept_derives db (constraint_steps o c first id db.next) (constraint_clauses o c first) (first + fresh) (length us + left.0) ready.numbered whole
