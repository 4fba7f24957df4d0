-- How many steps derive the clauses of a constraint, that lines can say them, and how long these lines are.
use Rattle.std.proofs.Common.{◌≡◌, ◌≤◌, ◌<◌, ◌+◌, ◌*◌, ◌^◌, ℕ, Bool, true, false, cond, List, [], ◌∷◌, ◌++◌, length, map, pos, refl, subst, arith, get_or}
use Rattle.std.specs.Prelude.{All, sum_by, ◌≤ℤ◌}
use Rattle.std.proofs.lemmas.Int.{ints}
use Rattle.std.proofs.lemmas.List.{length-append, length-map}
use Rattle.std.proofs.lemmas.List.Elements.{All-nil, All-cons, All-append, All-map, All-weaker, recursion_from_All}
use Rattle.std.proofs.lemmas.List.Sums.{sum_by-append, sum_by-cons}
use Rattle.std.proofs.lemmas.Nat.{mul-le}
use Rattle.pb_base.specs.declared.literal.Lit.{Lit}
use Rattle.pb_norm.specs.declared.reduction.Rest.{Rest}
use Rattle.pb_norm.specs.declared.reduction.Rest.TheVariants as rest
use Rattle.pb_norm.specs.BoundedSums.{BoundedSum}
use Rattle.pb_norm.specs.Constraints.{Weighted, Constraint, weight}
use Rattle.pb_norm.specs.Reduction.{all_weigh, first_coef, rest_of, saturated, units_of, without_units}
use Rattle.pb_norm.proofs.Units.{split_weight, without_open}
use Rattle.pb_norm.proofs.RestClasses.{RestOver, rest-over}
use Rattle.pb_norm.proofs.Variables.{OfLit, OfTerm, units_of-vars}
use Rattle.pb_steps.specs.declared.op.PolOp.{PolOp}
use Rattle.pb_steps.specs.declared.op.PolOp.TheVariants.{Push, Div, Saturate}
use Rattle.pb_steps.specs.declared.step.Step.{Step}
use Rattle.pb_steps.specs.declared.step.Step.TheVariants.{Pol, Del}
use Rattle.pb_steps.specs.Sayable.{IsId, IsOp, IsSayable, IsVariable}
use Rattle.pb_steps.specs.StepSizes.{op_size, step_size}
use Rattle.pb_steps.proofs.Sizes.{lines_are_bounded}
use Rattle.pb_derive.specs.Claims.{Claim, claim_steps}
use Rattle.pb_derive.specs.Rups.{by_rup}
use Rattle.pb_derive.specs.Short.{line_size}
use Rattle.pb_derive.proofs.Phases.{length-claims}
use Rattle.pb_derive.proofs.Sayable.{claims_sayable, rup_sayable}
use Rattle.pb_derive.proofs.Short.{lines_sized, line_sized}
use Rattle.pb_derive.proofs.Sizes.{claims_each, each_all, rup-size}
use Rattle.pb_family.specs.Derivations.{AreOriginal, MayStart}
use Rattle.pb_base.specs.declared.options.Options.{Options}
use Rattle.pb_choice.specs.declared.treatment.Treatment.{Treatment}
use Rattle.pb_choice.specs.declared.treatment.Treatment.TheVariants as treatment
use Rattle.pb_choice.specs.Choice.{treatment_of}
use Rattle.pb_choice.specs.Clauses.{constraint_count, constraint_fresh, rest_count, rest_fresh, unit_clause}
use Rattle.pb_choice.specs.ConstraintSteps.{constraint_steps, rest_steps, unit_claims}
use Rattle.pb_choice.specs.Readiness.{AreBrief, IsModest}
use Rattle.pb_choice.specs.Reducing.{core_ops, divisor, weaken_unit}
use Rattle.pb_choice.specs.SumSteps.{sum_steps}
use Rattle.pb_choice.specs.Sums.{sum_count, sum_fresh}
use Rattle.pb_choice.specs.DeriveLaws.{ConstraintsAreBrief, ConstraintsAreSayable, ConstraintsHaveFewSteps}
use Rattle.pb_choice.specs.Residual.{rest_terms}
use Rattle.pb_choice.specs.laws.SumDerives.{sum_few, sum_sayable, sum_short}
use Rattle.pb_choice.specs.inner.Suits.{HasRoom, IsDerivable}
use Rattle.pb_choice.proofs.ConstraintDerived.{IsRestDerivable, rest_derivable}
use Rattle.pb_choice.proofs.CoreForms.{IsCoreOf, IsLeftOf, rest_left}
use Rattle.pb_choice.proofs.CoreWeights.{weight-cut}
use Rattle.pb_choice.proofs.NumbersAsked.{first_small}
use Rattle.pb_choice.proofs.Reduced.{divisor_positive, reducing-all}
use Rattle.pb_choice.proofs.RestTerms.{rest_short, units_short}

-- ---- how many

claims_few : (id next : ℕ) (us : List Lit) → length (claim_steps next (unit_claims id us)) ≡ 2 * length us
claims_few id next us = omega (arith, length-claims next (unit_claims id us), length-map us (λ (l : Lit). by_rup (id ∷ []) (unit_clause l)))

sum_steps_few : (reduces : Step) (t : Treatment) (m : BoundedSum) (first next : ℕ) → IsDerivable t m
    → length (reduces ∷ (sum_steps t m first next (next + 1) ++ Del (next ∷ []) ∷ [])) ≤ 8 * (sum_fresh t m + sum_count t m) + 2
sum_steps_few reduces t m first next h = omega (arith, length-append (sum_steps t m first next (next + 1)) (Del (next ∷ []) ∷ []), sum_few t m h first next (next + 1))

rest_few : (reduces : Step) (t : Treatment) (r : Rest) (first id next : ℕ) → IsRestDerivable t r → length (rest_steps reduces t r first id next) ≤ 8 * (rest_fresh t r + rest_count t r) + 2
rest_few reduces t (rest.One m) first id next h = sum_steps_few reduces t m first next h
rest_few reduces t (rest.Card m) first id next h = sum_steps_few reduces t m first next h
rest_few reduces t (rest.General m) first id next h = sum_steps_few reduces t m first next h
rest_few reduces t other first id next h = omega arith

pub constraints_few : ConstraintsHaveFewSteps
constraints_few o c first id next modest =
    let t = treatment_of o (rest_of c) in
    let later = next + length (units_of c) in
    omega (
      arith,
      length-append (claim_steps next (unit_claims id (units_of c))) (rest_steps (Pol (core_ops c id)) t (rest_of c) first id later),
      claims_few id next (units_of c),
      rest_few (Pol (core_ops c id)) t (rest_of c) first id later (rest_derivable o c modest),
    )

-- ---- the divisor

divisor_light : (c : Constraint) → divisor c ≤ weight c.terms + 1
divisor_light c = by_test (all_weigh (first_coef ts) ts)
  where
    ts : List Weighted
    ts = (saturated (without_units c)).terms

    by_test : (b : Bool) → cond b (first_coef ts) 1 ≤ weight c.terms + 1
    by_test true = omega (arith, first_small ts, weight-cut (without_units c).degree (without_units c).terms, split_weight c)
    by_test false = omega arith

room_of : (t : Treatment) (m : BoundedSum) → sum_count t m ≤ 2 ^ 56 → HasRoom t m
room_of treatment.Tree m h = omega (arith, h)
room_of t m h = tt

-- ---- the parts

pub some_ids : (id : ℕ) (ids : List ℕ) → id ∷ ids ≡ [] → ⊥
some_ids id ids e = cc

-- no line of the steps is longer than the longest, and all together have so many bytes
record AreFine (most : ℕ) (steps : List Step) : Type 0 where
  each : All (λ s. line_size s ≤ 2 ^ 28) steps
  all : sum_by line_size steps ≤ most

fine_lines : (most : ℕ) (steps : List Step) → All IsSayable steps → All (λ s. step_size s ≤ most) steps → most ≤ 2 ^ 28 → AreFine (most * length steps) steps
fine_lines most steps sayable sizes fits = record {
  each = line_sized (2 ^ 28) steps sayable (All-weaker (λ (s : Step). step_size s ≤ most) (λ (s : Step). step_size s ≤ 2 ^ 28) (λ s h. omega (arith, h, fits)) steps sizes);
  all = omega (arith, lines_sized steps sayable, each_all most steps sizes);
}

module _ (c : Constraint) (modest : IsModest c) (first fresh id : ℕ) (original : AreOriginal first c.terms) (fits : first + fresh ≤ 2 ^ 31) (given : IsId id) where
  over : All (OfTerm IsVariable) c.terms
  over = All-weaker (λ (t : Weighted). (1 ≤ t.lit.var) × (t.lit.var < first)) (OfTerm IsVariable) (λ t h. (h.0, (let below : t.lit.var < 2 ^ 31 = omega (arith, h.1, fits) in below))) c.terms original

  ids : All IsId (id ∷ [])
  ids = All-cons IsId id [] given (All-nil IsId)

  variables : (ls : List Lit) → All (OfLit (λ v. (1 ≤ v) × (v < first))) ls → All (OfLit IsVariable) ls
  variables ls own = All-weaker (OfLit (λ v. (1 ≤ v) × (v < first))) (OfLit IsVariable) (λ l h. (h.0, (let below : l.var < 2 ^ 31 = omega (arith, h.1, fits) in below))) ls own

  -- ---- by propagation

  units_sayable : (next : ℕ) → 1 ≤ next → next ≤ 2 ^ 60 → All IsSayable (claim_steps next (unit_claims id (units_of c)))
  units_sayable next low early =
      let us = units_of c in
      let count = length-map us (λ (l : Lit). by_rup (id ∷ []) (unit_clause l)) in
      claims_sayable next (unit_claims id us) low (omega (arith, early, count, units_short c, modest.few))
      (All-map (λ (c : Claim). IsSayable c.step) (λ (l : Lit). by_rup (id ∷ []) (unit_clause l)) us
      (All-weaker (OfLit IsVariable) (λ (l : Lit). IsSayable (by_rup (id ∷ []) (unit_clause l)).step) (λ l h. rup_sayable (id ∷ []) (unit_clause l) ids (All-cons (OfLit IsVariable) l [] h (All-nil (OfLit IsVariable)))) us
      (units_of-vars IsVariable c over)))

  units_fine : (next : ℕ) → 1 ≤ next → next ≤ 2 ^ 60 → AreFine (122 * length (claim_steps next (unit_claims id (units_of c)))) (claim_steps next (unit_claims id (units_of c)))
  units_fine next low early =
      fine_lines 122 (claim_steps next (unit_claims id (units_of c))) (units_sayable next low early)
      (claims_each 122 (omega arith) next (unit_claims id (units_of c)) (All-map (λ (c : Claim). step_size c.step ≤ 122) (λ (l : Lit). by_rup (id ∷ []) (unit_clause l)) (units_of c) (λ k d w. rup-size (id ∷ []) (unit_clause (get_or (units_of c) k d)))))
      (omega arith)

  clause_sayable : (next : ℕ) (ls : List Lit) → 1 ≤ next → next ≤ 2 ^ 61 → All (OfLit IsVariable) ls → All IsSayable (claim_steps next (by_rup (id ∷ []) ls ∷ []))
  clause_sayable next ls low early vars =
      claims_sayable next (by_rup (id ∷ []) ls ∷ []) low (omega (arith, early)) (All-cons (λ (c : Claim). IsSayable c.step) (by_rup (id ∷ []) ls) [] (rup_sayable (id ∷ []) ls ids vars) (All-nil (λ (c : Claim). IsSayable c.step)))

  clause_fine : (next : ℕ) (ls : List Lit) → 1 ≤ next → next ≤ 2 ^ 61 → All (OfLit IsVariable) ls → length ls ≤ 2 ^ 21 → AreFine ((69 + 53 * length ls) * 2) (claim_steps next (by_rup (id ∷ []) ls ∷ []))
  clause_fine next ls low early vars short =
      let size : step_size (by_rup (id ∷ []) ls).step ≤ 69 + 53 * length ls = omega (arith, rup-size (id ∷ []) ls) in
      fine_lines (69 + 53 * length ls) (claim_steps next (by_rup (id ∷ []) ls ∷ [])) (clause_sayable next ls low early vars)
      (claims_each (69 + 53 * length ls) (omega arith) next (by_rup (id ∷ []) ls ∷ []) (All-cons (λ (c : Claim). step_size c.step ≤ 69 + 53 * length ls) (by_rup (id ∷ []) ls) [] size (All-nil (λ (c : Claim). step_size c.step ≤ 69 + 53 * length ls))))
      (omega (arith, short))

  -- ---- the operations

  ops_sayable : c.degree ≤ weight c.terms → 0 < (without_units c).degree → IsSayable (Pol (core_ops c id))
  ops_sayable light left =
      let some : 1 ≤ divisor c = divisor_positive c (without_open c modest.linear light left) in
      let positive : pos 1 ≤ℤ pos (divisor c) = omega (arith, ints, some) in
      let small : divisor c < 2 ^ 126 = omega (arith, divisor_light c, modest.light) in
      recursion_from_All IsOp (core_ops c id) (reducing-all IsOp id (units_of c) (divisor c) given (units_of-vars IsVariable c over) tt (positive, small))

  weakens_size : (ls : List Lit) → sum_by op_size (map weaken_unit ls) ≡ 14 * length ls
  weakens_size [] = refl
  weakens_size (l ∷ ls) =
      let here : op_size (weaken_unit l) ≡ 14 = refl in
      omega (arith, sum_by-cons op_size (weaken_unit l) (map weaken_unit ls), here, weakens_size ls)

  ops_size : step_size (Pol (core_ops c id)) ≤ 67 + 14 * length (units_of c)
  ops_size =
      let last : List PolOp = Saturate ∷ Div (pos (divisor c)) ∷ [] in
      let size : sum_by op_size last ≡ 43 = refl in
      let push : op_size (Push id) ≡ 20 = refl in
      omega (arith, sum_by-cons op_size (Push id) (map weaken_unit (units_of c) ++ last), sum_by-append op_size (map weaken_unit (units_of c)) last, size, push, weakens_size (units_of c))

  delete_sayable : (next : ℕ) → IsId next → All IsSayable (Del (next ∷ []) ∷ [])
  delete_sayable next is = All-cons IsSayable (Del (next ∷ [])) [] ((is, tt), some_ids next []) (All-nil IsSayable)

  -- ---- a sum

  sum_start : (t : Treatment) (m : BoundedSum) (next : ℕ) → 1 ≤ first → sum_fresh t m ≡ fresh → 1 ≤ next → next + 1 ≤ 2 ^ 61 → MayStart first (sum_fresh t m) next (next + 1)
  sum_start t m next low same from early = record { low = low; fits = omega (arith, fits, same); given = from; known = omega arith; few = early }

  reduced_sayable : (t : Treatment) (m : BoundedSum) (next : ℕ) → 1 ≤ first → sum_fresh t m ≡ fresh → 1 ≤ next → next + 1 ≤ 2 ^ 61 → AreOriginal first m.terms → IsDerivable t m → sum_count t m ≤ 2 ^ 56 → IsCoreOf m c
      → All IsSayable (rest_steps (Pol (core_ops c id)) t (rest.General m) first id next)
  reduced_sayable t m next low same from early own ok count is =
      let steps = sum_steps t m first next (next + 1) in
      let known : IsId next = (from, (let below : next < 2 ^ 63 = omega (arith, early) in below)) in
      All-cons IsSayable (Pol (core_ops c id)) (steps ++ Del (next ∷ []) ∷ []) (ops_sayable is.light is.left)
      (All-append IsSayable steps (Del (next ∷ []) ∷ []) (sum_sayable t m ok (room_of t m count) first next (next + 1) own (sum_start t m next low same from early)) (delete_sayable next known))

  reduced_fine : (t : Treatment) (m : BoundedSum) (next : ℕ) → 1 ≤ first → sum_fresh t m ≡ fresh → 1 ≤ next → next + 1 ≤ 2 ^ 61 → AreOriginal first m.terms → IsDerivable t m → sum_count t m ≤ 2 ^ 56 → IsCoreOf m c
      → length c.terms ≤ 2 ^ 21 → length m.terms ≤ length c.terms
      → AreFine (512 * (fresh + 1) * length c.terms + 2 ^ 20 * (fresh + sum_count t m + 3) + (230 + 14 * length (units_of c))) (rest_steps (Pol (core_ops c id)) t (rest.General m) first id next)
  reduced_fine t m next low same from early own ok count is short fewer =
      let Fits : Step → Type 0 = λ s. line_size s ≤ 2 ^ 28 in
      let steps = sum_steps t m first next (next + 1) in
      let pol : Step = Pol (core_ops c id) in
      let del : Step = Del (next ∷ []) in
      let known : IsId next = (from, (let below : next < 2 ^ 63 = omega (arith, early) in below)) in
      let pol_line = lines_are_bounded pol (ops_sayable is.light is.left) in
      let del_line = lines_are_bounded del ((known, tt), some_ids next []) in
      let del_size : step_size del ≡ 24 = refl in
      let family = sum_short t m ok (room_of t m count) first next (next + 1) own (sum_start t m next low same from early) (omega (arith, short, fewer)) in
      let bytes : sum_by line_size steps ≤ 512 * (fresh + 1) * length m.terms + 2 ^ 20 * (fresh + sum_count t m + 3) =
      subst (λ (k : ℕ). sum_by line_size steps ≤ 512 * (k + 1) * length m.terms + 2 ^ 20 * (k + sum_count t m + 3)) same family.all in
      let longer = mul-le (512 * (fresh + 1)) (length m.terms) (512 * (fresh + 1)) (length c.terms) (omega arith) fewer in
      record {
        each = All-cons Fits pol (steps ++ del ∷ []) (omega (arith, pol_line, ops_size, units_short c, short))
            (All-append Fits steps (del ∷ []) family.each (All-cons Fits del [] (omega (arith, del_line, del_size)) (All-nil Fits)));
        all = omega (arith, sum_by-cons line_size pol (steps ++ del ∷ []), sum_by-append line_size steps (del ∷ []), sum_by-cons line_size del [], pol_line, ops_size, del_line, del_size, bytes, longer);
      }

  fine_more : {most more : ℕ} {steps : List Step} → AreFine most steps → most ≤ more → AreFine more steps
  fine_more h le = record { each = h.each; all = omega (arith, h.all, le) }

  -- ---- what is left

  rest_sayable : (t : Treatment) (r : Rest) (next : ℕ) → 1 ≤ first → rest_fresh t r ≡ fresh → 1 ≤ next → next + 1 ≤ 2 ^ 61 → RestOver (λ v. (1 ≤ v) × (v < first)) r → IsRestDerivable t r → rest_count t r ≤ 2 ^ 56 → IsLeftOf c r
      → All IsSayable (rest_steps (Pol (core_ops c id)) t r first id next)
  rest_sayable t rest.Nothing next low same from early own ok count left = All-nil IsSayable
  rest_sayable t rest.Empty next low same from early own ok count left = clause_sayable next [] from (omega (arith, early)) (All-nil (OfLit IsVariable))
  rest_sayable t (rest.Clause ls) next low same from early own ok count left = clause_sayable next ls from (omega (arith, early)) (variables ls own)
  rest_sayable t (rest.One m) next low same from early own ok count left = reduced_sayable t m next low same from early own ok count left
  rest_sayable t (rest.Card m) next low same from early own ok count left = reduced_sayable t m next low same from early own ok count left
  rest_sayable t (rest.General m) next low same from early own ok count left = reduced_sayable t m next low same from early own ok count left

  abbrev Most : Treatment → Rest → ℕ
  Most t r = 512 * (fresh + 1) * length c.terms + 2 ^ 20 * (fresh + rest_count t r + 3) + (230 + 14 * length (units_of c))

  rest_fine : (t : Treatment) (r : Rest) (next : ℕ) → 1 ≤ first → rest_fresh t r ≡ fresh → 1 ≤ next → next + 1 ≤ 2 ^ 61 → RestOver (λ v. (1 ≤ v) × (v < first)) r → IsRestDerivable t r → rest_count t r ≤ 2 ^ 56 → IsLeftOf c r
      → length c.terms ≤ 2 ^ 21 → length (rest_terms r) ≤ length c.terms → AreFine (Most t r) (rest_steps (Pol (core_ops c id)) t r first id next)
  rest_fine t rest.Nothing next low same from early own ok count left short fewer = record { each = All-nil (λ (s : Step). line_size s ≤ 2 ^ 28); all = omega arith }
  rest_fine t rest.Empty next low same from early own ok count left short fewer =
      fine_more (clause_fine next [] from (omega (arith, early)) (All-nil (OfLit IsVariable)) (omega arith)) (omega arith)
  rest_fine t (rest.Clause ls) next low same from early own ok count left short fewer =
      let grid = mul-le 512 (length c.terms) (512 * (fresh + 1)) (length c.terms) (omega arith) (omega arith) in
      fine_more (clause_fine next ls from (omega (arith, early)) (variables ls own) (omega (arith, left.1, short))) (omega (arith, left.1, grid))
  rest_fine t (rest.One m) next low same from early own ok count left short fewer = reduced_fine t m next low same from early own ok count left short fewer
  rest_fine t (rest.Card m) next low same from early own ok count left short fewer = reduced_fine t m next low same from early own ok count left short fewer
  rest_fine t (rest.General m) next low same from early own ok count left short fewer = reduced_fine t m next low same from early own ok count left short fewer

-- ---- the whole

module _ (o : Options) (c : Constraint) (first id next : ℕ) (modest : IsModest c) (count : constraint_count o c ≤ 2 ^ 56) (original : AreOriginal first c.terms) (start : MayStart first (constraint_fresh o c) id next) (early : next ≤ 2 ^ 60) where
  abbrev later : ℕ
  later = next + length (units_of c)

  abbrev chosen : Treatment
  chosen = treatment_of o (rest_of c)

  own_id : IsId id
  own_id = let below : id < 2 ^ 63 = omega (arith, start.known, early) in (start.given, below)

  from : 1 ≤ next
  from = omega (arith, start.given, start.known)

  soon : later + 1 ≤ 2 ^ 61
  soon = omega (arith, early, modest.few, units_short c)

  whole_sayable : All IsSayable (constraint_steps o c first id next)
  whole_sayable =
      All-append IsSayable (claim_steps next (unit_claims id (units_of c))) (rest_steps (Pol (core_ops c id)) chosen (rest_of c) first id later)
      (units_sayable c modest first (constraint_fresh o c) id original start.fits own_id next from early)
      (rest_sayable c modest first (constraint_fresh o c) id original start.fits own_id chosen (rest_of c) later start.low refl (omega (arith, from)) soon (rest-over (λ v. (1 ≤ v) × (v < first)) c original) (rest_derivable o c modest)
      (omega (arith, count)) (rest_left c modest.linear))

  whole_brief : length c.terms ≤ 2 ^ 21 → AreBrief (length c.terms) (constraint_fresh o c) (constraint_count o c) (constraint_steps o c first id next)
  whole_brief short =
      let us = units_of c in
      let own = claim_steps next (unit_claims id us) in
      let left = rest_steps (Pol (core_ops c id)) chosen (rest_of c) first id later in
      let units = units_fine c modest first (constraint_fresh o c) id original start.fits own_id next from early in
      let others = rest_fine c modest first (constraint_fresh o c) id original start.fits own_id chosen (rest_of c) later start.low refl (omega (arith, from)) soon (rest-over (λ v. (1 ≤ v) × (v < first)) c original) (rest_derivable o c modest)
      (omega (arith, count)) (rest_left c modest.linear) short (rest_short c) in
      record {
        each = All-append (λ s. line_size s ≤ 2 ^ 28) own left units.each others.each;
        all = omega (arith, sum_by-append line_size own left, units.all, claims_few id next us, others.all);
      }

pub constraints_sayable : ConstraintsAreSayable
constraints_sayable o c first id next modest count original start early = whole_sayable o c first id next modest count original start early

pub constraints_brief : ConstraintsAreBrief
constraints_brief o c first id next modest count original start early short = whole_brief o c first id next modest count original start early short
