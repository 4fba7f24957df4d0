-- How many steps derive the clauses of an equality, that lines can say them, and how long these lines are.
use Rattle.std.proofs.Common.{◌≡◌, ◌≤◌, ◌<◌, ◌+◌, ◌*◌, ◌^◌, ℕ, Bool, true, false, cond, List, [], ◌∷◌, ◌++◌, length, pos, refl, ap, ◌∙◌, subst, arith, length-append}
use Rattle.std.specs.Prelude.{All, count_by, ◌≤ℤ◌}
use Rattle.std.proofs.lemmas.Int.{ints}
use Rattle.std.proofs.lemmas.List.{length-map}
use Rattle.std.proofs.lemmas.List.Elements.{All-nil, All-cons, All-append, All-weaker, recursion_from_All}
use Rattle.std.proofs.lemmas.List.Sums.{sum_by-append, sum_by-cons}
use Rattle.pb_norm.specs.BoundedSums.{BoundedSum}
use Rattle.pb_norm.specs.Constraints.{Weighted, Constraint}
use Rattle.pb_norm.specs.Reduction.{first_coef, lits_of, opposite}
use Rattle.pb_steps.specs.declared.op.PolOp.TheVariants.{Push, Div}
use Rattle.pb_steps.specs.declared.step.Step.{Step}
use Rattle.pb_steps.specs.declared.step.Step.TheVariants.{Del}
use Rattle.pb_steps.specs.Sayable.{IsId, IsOp, IsSayable}
use Rattle.pb_steps.specs.Steps.{takes_id}
use Rattle.pb_steps.specs.StepSizes.{step_size}
use Rattle.pb_steps.proofs.Sizes.{lines_are_bounded}
use Rattle.pb_derive.specs.FollowedBy.{followed_by}
use Rattle.pb_derive.specs.Ones.{unit_of}
use Rattle.pb_derive.specs.Short.{AreShort, line_size}
use Rattle.pb_family.specs.Derivations.{AreOriginal, MayStart}
use Rattle.pb_totalizer.specs.Exact.{exact_fresh, exact_size}
use Rattle.pb_totalizer.specs.ExactSteps.{exact_steps}
use Rattle.pb_totalizer.specs.laws.ExactDerives.{exact_lines}
use Rattle.pb_totalizer.specs.laws.ExactShort.{exact_sayable, exact_short}
use Rattle.pb_base.specs.declared.options.Options.{Options}
use Rattle.pb_choice.specs.Clauses.{constraint_count, constraint_fresh}
use Rattle.pb_choice.specs.ConstraintSteps.{constraint_steps}
use Rattle.pb_choice.specs.Equals.{asks_for_number, is_joint, literals_asked, number_asked}
use Rattle.pb_choice.specs.EqualitySteps.{joint_steps, quotient_step}
use Rattle.pb_choice.specs.Readiness.{AreBothBrief, AreBrief, LeavesIds}
use Rattle.pb_choice.specs.EqualityLaws.{EqualitiesAreBrief, EqualitiesAreSayable, EqualitiesHaveFewSteps, IsModestEquality}
use Rattle.pb_choice.proofs.NumbersAsked.{first_small, some_weight}
use Rattle.pb_choice.proofs.ConstraintSizes.{constraints_brief, constraints_few, constraints_sayable, some_ids}
use Rattle.pb_choice.proofs.EqualityDerived.{modest_equality}
use Rattle.pb_choice.proofs.EqualityEncoded.{upper_over}
use Rattle.pb_choice.proofs.JointSums.{asked_proper, asked_units, joint_asks, lower_asks, ones_over}

abbrev Fits : Step → Type 0
Fits s = line_size s ≤ 2 ^ 28

-- the variables of an equality's upper half
pub upper_original : (c d : Constraint) (first after : ℕ) → IsModestEquality c d → first ≤ after → AreOriginal first c.terms → AreOriginal after d.terms
upper_original c d first after modest le original =
    All-weaker (λ (t : Weighted). (1 ≤ t.lit.var) × (t.lit.var < first)) (λ (t : Weighted). (1 ≤ t.lit.var) × (t.lit.var < after)) (λ t h. (h.0, omega (arith, h.1, le))) d.terms
    (upper_over (λ v. (1 ≤ v) × (v < first)) c d modest.halves.turned original)

-- ---- how many

joint_few : (m : BoundedSum) (a first lower upper next : ℕ) → length (joint_steps m (pos a) first lower upper next) ≤ 8 * (exact_fresh m + exact_size m) + 8
joint_few m a first lower upper next =
    let last : List Step = Del (next ∷ (next + 1) ∷ []) ∷ [] in
    omega (arith, length-append (exact_steps m first next (next + 1) (next + 2)) last, exact_lines m first next (next + 1) (next + 2))

split_few : (o : Options) (c d : Constraint) (first lower upper next : ℕ) → IsModestEquality c d
    → length (followed_by (constraint_steps o c first lower) (constraint_steps o d (first + constraint_fresh o c) upper) next)
    ≤ 8 * (constraint_fresh o c + constraint_fresh o d + (constraint_count o c + constraint_count o d)) + 8
split_few o c d first lower upper next modest =
    let front : List Step = constraint_steps o c first lower next in
    let after : ℕ = next + count_by takes_id front in
    omega (
      arith,
      length-append front (constraint_steps o d (first + constraint_fresh o c) upper after),
      constraints_few o c first lower next modest.lower_modest,
      constraints_few o d (first + constraint_fresh o c) upper after modest.upper_modest,
    )

pub equalities_few : EqualitiesHaveFewSteps
equalities_few o c d first lower upper next modest = by_test (is_joint o c)
  where
    by_test : (b : Bool) → length (cond {A = List Step} b (joint_steps (literals_asked c) (pos (first_coef c.terms)) first lower upper next) (followed_by (constraint_steps o c first lower) (constraint_steps o d (first + constraint_fresh o c) upper) next))
        ≤ 8 * (cond b (exact_fresh (literals_asked c)) (constraint_fresh o c + constraint_fresh o d) + cond b (exact_size (literals_asked c)) (constraint_count o c + constraint_count o d)) + 8
    by_test true = joint_few (literals_asked c) (first_coef c.terms) first lower upper next
    by_test false = split_few o c d first lower upper next modest

-- ---- as one

module _ (c d : Constraint) (modest : IsModestEquality c d) (number : asks_for_number c ≡ true) (first lower upper next : ℕ) (original : AreOriginal first c.terms)
    (low : MayStart first (exact_fresh (literals_asked c)) lower next) (high : MayStart first (exact_fresh (literals_asked c)) upper next) (early : next + 2 ≤ 2 ^ 61) where
  abbrev a : ℕ
  a = first_coef c.terms

  abbrev inner : List Step
  inner = exact_steps (literals_asked c) first next (next + 1) (next + 2)

  abbrev quotient_of : ℕ → Step
  quotient_of id = quotient_step id (pos a)

  abbrev deletion : Step
  deletion = Del (next ∷ (next + 1) ∷ [])

  known_id : (id : ℕ) → 1 ≤ id → id < next + 2 → IsId id
  known_id id from below = (from, (let small : id < 2 ^ 63 = omega (arith, below, early) in small))

  quotient_sayable : (id : ℕ) → 1 ≤ id → id < next + 2 → IsSayable (quotient_of id)
  quotient_sayable id from below =
      let some = some_weight (first_coef c.terms) (number_asked c) c (lower_asks c d (modest_equality c d modest) number) in
      let positive : pos 1 ≤ℤ pos a = omega (arith, ints, some) in
      let small : a < 2 ^ 126 = omega (arith, first_small c.terms, modest.lower_modest.light) in
      recursion_from_All IsOp (Push id ∷ Div (pos a) ∷ []) (All-cons IsOp (Push id) (Div (pos a) ∷ []) (known_id id from below) (All-cons IsOp (Div (pos a)) [] (positive, small) (All-nil IsOp)))

  from : 1 ≤ next
  from = omega (arith, low.given, low.known)

  deletion_sayable : IsSayable deletion
  deletion_sayable = ((known_id next from (omega arith), (known_id (next + 1) (omega (arith, from)) (omega arith), tt)), some_ids next ((next + 1) ∷ []))

  as_long : length (literals_asked c).terms ≡ length c.terms
  as_long = length-map (lits_of c.terms) unit_of ∙ length-map c.terms (λ (t : Weighted). t.lit)

  few : length (literals_asked c).terms < 2 ^ 31
  few = omega (arith, as_long, modest.lower_modest.few)

  own_start : (id : ℕ) → 1 ≤ id → id < next + 2 → MayStart first (exact_fresh (literals_asked c)) id (next + 2)
  own_start id given known = record { low = low.low; fits = low.fits; given = given; known = known; few = early }

  over : AreOriginal first (literals_asked c).terms
  over = ones_over (λ v. (1 ≤ v) × (v < first)) c.terms original

  inner_sayable : All IsSayable inner
  inner_sayable =
      exact_sayable (literals_asked c) (asked_units c d (modest_equality c d modest) number) (asked_proper c d (modest_equality c d modest) number) few first next (next + 1) (next + 2) over
      (own_start next from (omega arith)) (own_start (next + 1) (omega (arith, from)) (omega arith))

  joint_sayable : All IsSayable (joint_steps (literals_asked c) (pos (first_coef c.terms)) first lower upper next)
  joint_sayable =
      let rest : List Step = inner ++ deletion ∷ [] in
      All-cons IsSayable (quotient_of lower) (quotient_of upper ∷ rest) (quotient_sayable lower low.given (omega (arith, low.known)))
      (All-cons IsSayable (quotient_of upper) rest (quotient_sayable upper high.given (omega (arith, high.known)))
      (All-append IsSayable inner (deletion ∷ []) inner_sayable (All-cons IsSayable deletion [] deletion_sayable (All-nil IsSayable))))

  inner_short : length c.terms ≤ 2 ^ 21 → AreShort (length c.terms) (exact_fresh (literals_asked c)) (exact_size (literals_asked c)) inner
  inner_short short =
      subst (λ (n : ℕ). AreShort n (exact_fresh (literals_asked c)) (exact_size (literals_asked c)) inner) as_long
      (exact_short (literals_asked c) (asked_units c d (modest_equality c d modest) number) (asked_proper c d (modest_equality c d modest) number) few first next (next + 1) (next + 2) over
      (own_start next from (omega arith)) (own_start (next + 1) (omega (arith, from)) (omega arith)) (omega (arith, as_long, short)))

  joint_brief : length c.terms ≤ 2 ^ 21 → AreBothBrief (length c.terms) (exact_fresh (literals_asked c)) (exact_size (literals_asked c)) (joint_steps (literals_asked c) (pos (first_coef c.terms)) first lower upper next)
  joint_brief short =
      let rest : List Step = inner ++ deletion ∷ [] in
      let family = inner_short short in
      let one = lines_are_bounded (quotient_of lower) (quotient_sayable lower low.given (omega (arith, low.known))) in
      let two = lines_are_bounded (quotient_of upper) (quotient_sayable upper high.given (omega (arith, high.known))) in
      let gone = lines_are_bounded deletion deletion_sayable in
      let size : step_size (quotient_of lower) ≡ 65 = refl in
      let size_too : step_size (quotient_of upper) ≡ 65 = refl in
      let gone_size : step_size deletion ≡ 44 = refl in
      record {
        each = All-cons Fits (quotient_of lower) (quotient_of upper ∷ rest) (omega (arith, one, size))
            (All-cons Fits (quotient_of upper) rest (omega (arith, two, size_too))
            (All-append Fits inner (deletion ∷ []) family.each (All-cons Fits deletion [] (omega (arith, gone, gone_size)) (All-nil Fits))));
        all = omega (
          arith,
          sum_by-cons line_size (quotient_of lower) (quotient_of upper ∷ rest),
          sum_by-cons line_size (quotient_of upper) rest,
          sum_by-append line_size inner (deletion ∷ []),
          sum_by-cons line_size deletion [],
          one,
          two,
          gone,
          size,
          size_too,
          gone_size,
          family.all,
        );
      }

-- ---- one after the other

module _ (o : Options) (c d : Constraint) (modest : IsModestEquality c d) (first lower upper next : ℕ) (count : constraint_count o c + constraint_count o d ≤ 2 ^ 56) (original : AreOriginal first c.terms)
    (low : MayStart first (constraint_fresh o c + constraint_fresh o d) lower next) (high : MayStart first (constraint_fresh o c + constraint_fresh o d) upper next)
    (leaves : LeavesIds (followed_by (constraint_steps o c first lower) (constraint_steps o d (first + constraint_fresh o c) upper)) next) where
  abbrev after : ℕ
  after = first + constraint_fresh o c

  abbrev front : List Step
  front = constraint_steps o c first lower next

  abbrev between : ℕ
  between = next + count_by takes_id front

  abbrev back : List Step
  back = constraint_steps o d after upper between

  enough : between ≤ 2 ^ 60
  enough = omega (arith, leaves, sum_by-append (λ (s : Step). cond (takes_id s) 1 0) front back)

  soon : next ≤ 2 ^ 60
  soon = omega (arith, enough)

  lower_start : MayStart first (constraint_fresh o c) lower next
  lower_start = record { low = low.low; fits = omega (arith, low.fits); given = low.given; known = low.known; few = low.few }

  upper_start : MayStart after (constraint_fresh o d) upper between
  upper_start = record { low = omega (arith, low.low); fits = omega (arith, low.fits); given = high.given; known = omega (arith, high.known); few = omega (arith, enough) }

  upper_over_after : AreOriginal after d.terms
  upper_over_after = upper_original c d first after modest (omega arith) original

  split_sayable : All IsSayable (front ++ back)
  split_sayable =
      All-append IsSayable front back
      (constraints_sayable o c first lower next modest.lower_modest (omega (arith, count)) original lower_start soon)
      (constraints_sayable o d after upper between modest.upper_modest (omega (arith, count)) upper_over_after upper_start enough)

  split_brief : length c.terms ≤ 2 ^ 21 → AreBothBrief (length c.terms) (constraint_fresh o c + constraint_fresh o d) (constraint_count o c + constraint_count o d) (front ++ back)
  split_brief short =
      let as_long : length d.terms ≡ length c.terms = ap (λ (ts : List Weighted). length ts) modest.halves.turned ∙ length-map c.terms opposite in
      let one = constraints_brief o c first lower next modest.lower_modest (omega (arith, count)) original lower_start soon short in
      let two : AreBrief (length c.terms) (constraint_fresh o d) (constraint_count o d) back =
      subst (λ (n : ℕ). AreBrief n (constraint_fresh o d) (constraint_count o d) back) as_long
      (constraints_brief o d after upper between modest.upper_modest (omega (arith, count)) upper_over_after upper_start enough (omega (arith, as_long, short))) in
      record {
        each = All-append Fits front back one.each two.each;
        all = omega (arith, sum_by-append line_size front back, one.all, two.all);
      }

-- ---- either way

module _ (o : Options) (c d : Constraint) (first lower upper next : ℕ) (modest : IsModestEquality c d) (original : AreOriginal first c.terms) where
  abbrev steps_by : Bool → ℕ → List Step
  steps_by b n = cond b (joint_steps (literals_asked c) (pos (first_coef c.terms)) first lower upper n) (followed_by (constraint_steps o c first lower) (constraint_steps o d (first + constraint_fresh o c) upper) n)

  abbrev fresh_by : Bool → ℕ
  fresh_by b = cond b (exact_fresh (literals_asked c)) (constraint_fresh o c + constraint_fresh o d)

  abbrev count_in : Bool → ℕ
  count_in b = cond b (exact_size (literals_asked c)) (constraint_count o c + constraint_count o d)

  soon_after : next + count_by takes_id (joint_steps (literals_asked c) (pos (first_coef c.terms)) first lower upper next) ≤ 2 ^ 60 → next + 2 ≤ 2 ^ 61
  soon_after leaves = omega (arith, leaves)

  sayable_by : (b : Bool) → is_joint o c ≡ b → count_in b ≤ 2 ^ 56 → MayStart first (fresh_by b) lower next → MayStart first (fresh_by b) upper next → LeavesIds (steps_by b) next → All IsSayable (steps_by b next)
  sayable_by true is count low high leaves = joint_sayable c d modest (joint_asks o c is) first lower upper next original low high (soon_after leaves)
  sayable_by false is count low high leaves = split_sayable o c d modest first lower upper next count original low high leaves

  brief_by : (b : Bool) → is_joint o c ≡ b → count_in b ≤ 2 ^ 56 → MayStart first (fresh_by b) lower next → MayStart first (fresh_by b) upper next → LeavesIds (steps_by b) next → length c.terms ≤ 2 ^ 21
      → AreBothBrief (length c.terms) (fresh_by b) (count_in b) (steps_by b next)
  brief_by true is count low high leaves short = joint_brief c d modest (joint_asks o c is) first lower upper next original low high (soon_after leaves) short
  brief_by false is count low high leaves short = split_brief o c d modest first lower upper next count original low high leaves short

pub equalities_sayable : EqualitiesAreSayable
equalities_sayable o c d first lower upper next modest count original low high leaves = sayable_by o c d first lower upper next modest original (is_joint o c) refl count low high leaves

pub equalities_brief : EqualitiesAreBrief
equalities_brief o c d first lower upper next modest count original low high leaves short = brief_by o c d first lower upper next modest original (is_joint o c) refl count low high leaves short
