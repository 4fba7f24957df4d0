-- The core of a constraint stands while the clauses of its sum are derived.
use Rattle.std.proofs.Common.{◌≡◌, ◌≤◌, ◌<◌, ◌+◌, ◌^◌, ℕ, true, List, [], ◌∷◌, ◌++◌, pos, refl, ap, arith}
use Rattle.std.specs.Prelude.{All, count_by, flat_map, ◌≤ℤ◌, is_some}
use Rattle.std.proofs.lemmas.Int.{ints}
use Rattle.std.proofs.lemmas.List.Elements.{All-nil, All-cons, All-weaker}
use Rattle.pb_base.specs.declared.literal.Lit.{Lit}
use Rattle.pb_norm.specs.Constraints.{Constraint, IsLinear, weight}
use Rattle.pb_norm.specs.BoundedSums.{BoundedSum}
use Rattle.pb_norm.specs.Reduction.{core, units_of}
use Rattle.pb_norm.proofs.Units.{without_open}
use Rattle.pb_norm.proofs.Variables.{OfLit, OfTerm, core-vars, units_of-vars}
use Rattle.pb_steps.specs.declared.step.Step.{Step}
use Rattle.pb_steps.specs.declared.step.Step.TheVariants.{Pol, Del}
use Rattle.pb_steps.specs.Steps.{HasFactor, ids_of_op, takes_id, vars_of_op}
use Rattle.pb_steps.specs.Database.{Database, IsLive, grown}
use Rattle.pb_steps.specs.Runs.{Runs}
use Rattle.pb_derive.specs.Derivations.{Derives, IsReadyFor}
use Rattle.pb_derive.specs.Later.{IsLater}
use Rattle.pb_derive.specs.inner.Ran.{Ran, RanSwept}
use Rattle.pb_derive.proofs.FollowedBy.{later_wider}
use Rattle.pb_derive.proofs.Laters.{at_grown, later_grown}
use Rattle.pb_derive.proofs.Reasoned.{All-flat_map}
use Rattle.pb_derive.proofs.Scoped.{Scoped, scoped}
use Rattle.pb_choice.specs.Readiness.{IsReadyWith}
use Rattle.pb_choice.specs.Reducing.{core_ops, divisor}
use Rattle.pb_choice.proofs.CoreForms.{IsCoreOf}
use Rattle.pb_choice.proofs.Derived.{derives_swept}
use Rattle.pb_choice.proofs.Reduced.{core_left, divisor_positive, reducing-all, reducing-stacked}

module _ (c : Constraint) (linear : IsLinear c) (light : weight c.terms < 2 ^ 100)
    (first fresh id : ℕ) (db : Database) (below : All (OfTerm (λ v. v < first)) c.terms) (ready : IsReadyWith c first fresh id db) (m : BoundedSum) (is : IsCoreOf m c) where
  abbrev Below : ℕ → Type 0
  Below v = v < first

  -- the variables that the operations name are known, and so is the id
  vars_known : All (λ v. v ≤ db.vars) (flat_map vars_of_op (core_ops c id))
  vars_known =
      let none : All (λ v. v ≤ db.vars) [] = All-nil (λ v. v ≤ db.vars) in
      All-flat_map (λ v. v ≤ db.vars) vars_of_op (core_ops c id) (reducing-all (λ op. All (λ v. v ≤ db.vars) (vars_of_op op)) id (units_of c) (divisor c) none
      (All-weaker (OfLit Below) (λ (l : Lit). All (λ v. v ≤ db.vars) (l.var ∷ []))
      (λ l low. let known : l.var ≤ db.vars = omega (arith, low, ready.vars) in All-cons (λ v. v ≤ db.vars) l.var [] known none) (units_of c) (units_of-vars Below c below)) none none)

  ids_known : All (IsLive db.live) (flat_map ids_of_op (core_ops c id))
  ids_known =
      let none : All (IsLive db.live) [] = All-nil (IsLive db.live) in
      All-flat_map (IsLive db.live) ids_of_op (core_ops c id) (reducing-all (λ op. All (IsLive db.live) (ids_of_op op)) id (units_of c) (divisor c)
      (All-cons (IsLive db.live) id [] (ap is_some ready.stands) none) (λ k d w. none) none none)

  factors : All HasFactor (core_ops c id)
  factors =
      let some : 1 ≤ divisor c = divisor_positive c (without_open c linear is.light is.left) in
      let positive : pos 1 ≤ℤ pos (divisor c) = omega (arith, ints, some) in
      reducing-all HasFactor id (units_of c) (divisor c) tt (λ k d w. tt) tt positive

  core_below : All (OfTerm Below) (core c).terms
  core_below = core-vars Below c below

  -- the core stands under the next id
  core_runs : Runs db (Pol (core_ops c id) ∷ []) [] (grown db (core c))
  core_runs = (
    grown db (core c),
    record {
      vars = vars_known;
      ids = ids_known;
      rule = record {
        factors = factors;
        stacked = reducing-stacked id (units_of c) (divisor c);
        sum = core c;
        result = core_left db.live c id linear is.light is.left (omega (arith, light)) ready.stands;
        after = refl;
      };
    },
    (refl, refl),
  )

  core_later : IsLater Below db (grown db (core c))
  core_later = later_grown Below db (core c) ready.numbered core_below

  pub core_ready : IsReadyFor m first fresh db.next (grown db (core c))
  core_ready = record {
    original = ready.original;
    vars = ready.vars;
    numbered = core_later.numbered;
    stands = (core c, at_grown db (core c) ready.numbered, is.form);
    unnamed = λ v low high. core_later.unnamed v (λ less. omega (arith, low, less)) (ready.unnamed v low high);
  }

  -- and the sum's clauses are derived from it, before it goes
  pub reduced_ran : (steps : List Step) (clauses : List (List Lit)) → Derives (grown db (core c)) steps clauses (first + fresh)
      → RanSwept (λ v. v < first + fresh) db (Pol (core_ops c id) ∷ (steps ++ Del (db.next ∷ []) ∷ [])) clauses (1 + count_by takes_id steps)
  reduced_ran steps clauses derives =
      let Within : ℕ → Type 0 = λ v. v < first + fresh in
      let opened : Ran Within db (Pol (core_ops c id) ∷ []) [] 1 = record {
        end = grown db (core c);
        runs = core_runs;
        later = later_wider Below Within (λ v low. omega (arith, low)) db (grown db (core c)) core_later;
        next = refl;
      } in
      let whole : Scoped Within db (Pol (core_ops c id) ∷ (steps ++ Del (db.next ∷ []) ∷ [])) clauses (1 + count_by takes_id steps) 1 =
      scoped Within db (Pol (core_ops c id) ∷ []) steps clauses 1 (count_by takes_id steps) 1 1 opened ready.numbered (All-cons (λ s. takes_id s ≡ true) (Pol (core_ops c id)) [] refl (All-nil (λ s. takes_id s ≡ true)))
      (derives_swept (grown db (core c)) steps clauses (first + fresh) derives) refl in
      whole.all
