-- The steps of an equality derive its clauses from its two halves.
use Rattle.std.proofs.Common.{◌≡◌, ◌<◌, ◌+◌, ◌-◌, ◌^◌, ℕ, Bool, true, false, cond, List, [], ◌∷◌, ◌++◌, length, pos, refl, ◌∙◌, subst, arith}
use Rattle.std.specs.Prelude.{All, count_by}
use Rattle.std.proofs.lemmas.List.{length-map}
use Rattle.std.proofs.lemmas.List.Elements.{All-nil, All-cons, All-weaker}
use Rattle.pb_norm.specs.Constraints.{Weighted, Constraint}
use Rattle.pb_norm.specs.BoundedSums.{BoundedSum}
use Rattle.pb_norm.specs.Reduction.{divided, first_coef, lits_of}
use Rattle.pb_steps.specs.declared.step.Step.{Step}
use Rattle.pb_steps.specs.Steps.{takes_id}
use Rattle.pb_steps.specs.Database.{Database, grown}
use Rattle.pb_steps.specs.Runs.{Runs}
use Rattle.pb_derive.specs.Derivations.{Derives, IsReadyForBoth}
use Rattle.pb_derive.specs.FollowedBy.{followed_by}
use Rattle.pb_derive.specs.Later.{IsLater}
use Rattle.pb_derive.specs.Ones.{unit_of}
use Rattle.pb_derive.specs.inner.Ran.{Ran, RanSwept}
use Rattle.pb_derive.proofs.FollowedBy.{followed_swept, later_wider, swept_wider}
use Rattle.pb_derive.proofs.Laters.{at_grown, known_below, later_grown, later_then}
use Rattle.pb_derive.proofs.Scoped.{Scoped, scoped}
use Rattle.pb_family.specs.Families.{VarsBelow}
use Rattle.pb_totalizer.specs.Exact.{at_least, exact_clauses, exact_fresh}
use Rattle.pb_totalizer.specs.ExactSteps.{exact_steps}
use Rattle.pb_totalizer.specs.laws.ExactDerives.{exact_derives}
use Rattle.pb_base.specs.declared.options.Options.{Options}
use Rattle.pb_choice.specs.Clauses.{constraint_clauses, constraint_fresh}
use Rattle.pb_choice.specs.ConstraintSteps.{constraint_steps}
use Rattle.pb_choice.specs.Equals.{asks_for_number, is_joint, literals_asked, number_asked}
use Rattle.pb_choice.specs.EqualitySteps.{joint_steps, quotient_step}
use Rattle.pb_choice.specs.Readiness.{IsReadyWith}
use Rattle.pb_choice.specs.EqualityLaws.{EqualitiesDerive, IsEquality, IsModestEquality}
use Rattle.pb_choice.proofs.ClaimedClauses.{form_itself}
use Rattle.pb_choice.proofs.ConstraintDerived.{constraints_derive}
use Rattle.pb_choice.proofs.Derived.{derives_swept, swept_derives}
use Rattle.pb_choice.proofs.EqualityEncoded.{upper_over}
use Rattle.pb_choice.proofs.JointSums.{asked_proper, asked_units, joint_asks, least_form, lower_asks, most_form, ones_over, upper_asks}
use Rattle.pb_choice.proofs.Quotients.{quotient_allowed, quotient_over}

pub modest_equality : (c d : Constraint) → IsModestEquality c d → IsEquality c d
modest_equality c d modest = record { lower_linear = modest.lower_modest.linear; upper_linear = modest.upper_modest.linear; halves = modest.halves }

-- ---- as one

module _ (c d : Constraint) (modest : IsModestEquality c d) (number : asks_for_number c ≡ true) (first lower upper : ℕ) (db : Database) (below : VarsBelow first c.terms)
    (low : IsReadyWith c first (exact_fresh (literals_asked c)) lower db) (high : IsReadyWith d first (exact_fresh (literals_asked c)) upper db) where
  abbrev a : ℕ
  a = first_coef c.terms

  abbrev m : BoundedSum
  m = literals_asked c

  abbrev fresh : ℕ
  fresh = exact_fresh (literals_asked c)

  abbrev Below : ℕ → Type 0
  Below v = v < first

  abbrev Within : ℕ → Type 0
  Within v = v < first + fresh

  abbrev mid : Database
  mid = grown db (divided c)

  abbrev top : Database
  top = grown (grown db (divided c)) (divided d)

  -- the two quotients stand under the next ids
  first_later : IsLater Below db mid
  first_later = later_grown Below db (divided c) low.numbered (quotient_over a (number_asked c) c (lower_asks c d (modest_equality c d modest) number) Below below)

  second_later : IsLater Below mid top
  second_later =
      later_grown Below mid (divided d) first_later.numbered
      (quotient_over a (length c.terms - number_asked c) d (upper_asks c d (modest_equality c d modest) number) Below (upper_over Below c d modest.halves.turned below))

  both_later : IsLater Below db top
  both_later = later_then Below db mid top first_later second_later

  both_run : Runs db (quotient_step lower (pos a) ∷ quotient_step upper (pos a) ∷ []) [] top
  both_run =
      let under = known_below db upper d high.numbered (d, high.stands, form_itself d modest.upper_modest.linear) in (
        mid,
        quotient_allowed a (number_asked c) c (lower_asks c d (modest_equality c d modest) number) db lower _ modest.lower_modest.light low.stands,
        (
          top,
          quotient_allowed a (length c.terms - number_asked c) d (upper_asks c d (modest_equality c d modest) number) mid upper _ modest.upper_modest.light (first_later.stands upper under ∙ high.stands),
          (refl, refl),
        ),
      )

  both_ready : IsReadyForBoth m (at_least m) first fresh db.next (db.next + 1) top
  both_ready = record {
    room = record {
      original = low.original;
      vars = low.vars;
      numbered = both_later.numbered;
      unnamed = λ v from to. both_later.unnamed v (λ less. omega (arith, from, less)) (low.unnamed v from to);
    };
    least_stands = (divided c, second_later.stands db.next (omega arith) ∙ at_grown db (divided c) low.numbered, least_form c d (modest_equality c d modest) number);
    most_stands = (divided d, at_grown mid (divided d) first_later.numbered, most_form c d (modest_equality c d modest) number);
  }

  joint_derives : Derives db (joint_steps m (pos a) first lower upper db.next) (exact_clauses m first) (first + fresh)
  joint_derives =
      let after : top.next ≡ db.next + 2 = omega arith in
      let few : length m.terms < 2 ^ 31 = omega (arith, length-map (lits_of c.terms) unit_of, length-map c.terms (λ (t : Weighted). t.lit), modest.lower_modest.few) in
      let equality = modest_equality c d modest in
      let steps : List Step = exact_steps m first db.next (db.next + 1) (db.next + 2) in
      let inner : Derives top steps (exact_clauses m first) (first + fresh) =
      subst (λ (n : ℕ). Derives top (exact_steps m first db.next (db.next + 1) n) (exact_clauses m first) (first + fresh)) after
      (exact_derives m (asked_units c d equality number) (asked_proper c d equality number) few first db.next (db.next + 1) top (ones_over Below c.terms below) both_ready) in
      let opened : Ran Within db (quotient_step lower (pos a) ∷ quotient_step upper (pos a) ∷ []) [] 2 = record {
        end = top;
        runs = both_run;
        later = later_wider Below Within (λ v less. omega (arith, less)) db top both_later;
        next = after;
      } in
      let Takes : Step → Type 0 = λ s. takes_id s ≡ true in
      let adding : All (λ s. takes_id s ≡ true) (quotient_step lower (pos a) ∷ quotient_step upper (pos a) ∷ []) =
      All-cons Takes (quotient_step lower (pos a)) (quotient_step upper (pos a) ∷ []) refl (All-cons Takes (quotient_step upper (pos a)) [] refl (All-nil Takes)) in
      let whole : Scoped Within db (joint_steps m (pos a) first lower upper db.next) (exact_clauses m first) (2 + count_by takes_id steps) 2 =
      scoped Within db (quotient_step lower (pos a) ∷ quotient_step upper (pos a) ∷ []) steps (exact_clauses m first) 2 (count_by takes_id steps) 2 1 opened low.numbered adding
      (derives_swept top steps (exact_clauses m first) (first + fresh) inner) refl in
      swept_derives db (joint_steps m (pos a) first lower upper db.next) (exact_clauses m first) (first + fresh) (2 + count_by takes_id steps) low.numbered whole.all

-- ---- one after the other

module _ (o : Options) (c d : Constraint) (modest : IsModestEquality c d) (first lower upper : ℕ) (db : Database) (below : VarsBelow first c.terms)
    (low : IsReadyWith c first (constraint_fresh o c + constraint_fresh o d) lower db) (high : IsReadyWith d first (constraint_fresh o c + constraint_fresh o d) upper db) where
  abbrev after : ℕ
  after = first + constraint_fresh o c

  abbrev limit : ℕ
  limit = first + (constraint_fresh o c + constraint_fresh o d)

  abbrev lower_steps : ℕ → List Step
  lower_steps next = constraint_steps o c first lower next

  abbrev upper_steps : ℕ → List Step
  upper_steps next = constraint_steps o d (first + constraint_fresh o c) upper next

  front : RanSwept (λ v. v < after) db (lower_steps db.next) (constraint_clauses o c first) (count_by takes_id (lower_steps db.next))
  front =
      derives_swept db (lower_steps db.next) (constraint_clauses o c first) after (constraints_derive o c first lower db modest.lower_modest below (record {
        original = low.original;
        vars = omega (arith, low.vars);
        numbered = low.numbered;
        stands = low.stands;
        unnamed = λ v from to. low.unnamed v from (omega (arith, to));
      }))

  abbrev mid_end : Database
  mid_end = front.ran.end

  back : RanSwept (λ v. v < after + constraint_fresh o d) mid_end (upper_steps mid_end.next) (constraint_clauses o d after) (count_by takes_id (upper_steps mid_end.next))
  back =
      let over : VarsBelow first d.terms = upper_over (λ v. v < first) c d modest.halves.turned below in
      let under = known_below db upper d high.numbered (d, high.stands, form_itself d modest.upper_modest.linear) in
      let later = front.ran.later in
      derives_swept mid_end (upper_steps mid_end.next) (constraint_clauses o d after) (after + constraint_fresh o d)
      (constraints_derive o d after upper mid_end modest.upper_modest (All-weaker (λ (t : Weighted). t.lit.var < first) (λ (t : Weighted). t.lit.var < after) (λ t h. omega (arith, h)) d.terms over) (record {
        original = omega (arith, low.original, later.original);
        vars = omega (arith, low.vars, later.vars);
        numbered = later.numbered;
        stands = later.stands upper under ∙ high.stands;
        unnamed = λ v from to. later.unnamed v (λ less. omega (arith, from, less)) (high.unnamed v (omega (arith, from)) (omega (arith, to)));
      }))

  split_derives : Derives db (followed_by (constraint_steps o c first lower) (constraint_steps o d (first + constraint_fresh o c) upper) db.next) (constraint_clauses o c first ++ constraint_clauses o d (first + constraint_fresh o c)) limit
  split_derives =
      let Within : ℕ → Type 0 = λ v. v < limit in
      let i = count_by takes_id (lower_steps db.next) in
      let j = count_by takes_id (upper_steps mid_end.next) in
      let one : RanSwept Within db (lower_steps db.next) (constraint_clauses o c first) i = record {
        ran = record { end = mid_end; runs = front.ran.runs; later = later_wider (λ v. v < after) Within (λ v less. omega (arith, less)) db mid_end front.ran.later; next = front.ran.next };
        swept = front.swept;
        unmarked = front.unmarked;
      } in
      let two : RanSwept Within mid_end (upper_steps mid_end.next) (constraint_clauses o d after) j =
      swept_wider (λ v. v < after + constraint_fresh o d) Within (λ v less. omega (arith, less)) mid_end (upper_steps mid_end.next) (constraint_clauses o d after) j back in
      swept_derives db (followed_by lower_steps upper_steps db.next) (constraint_clauses o c first ++ constraint_clauses o d after) limit (i + j) low.numbered
      (followed_swept Within db lower_steps upper_steps (constraint_clauses o c first) (constraint_clauses o d after) i j one two)

-- ---- either way

module _ (o : Options) (c d : Constraint) (first lower upper : ℕ) (db : Database) (modest : IsModestEquality c d) (below : VarsBelow first c.terms) where
  abbrev Goal : Bool → Type 0
  Goal b =
      let fresh = cond b (exact_fresh (literals_asked c)) (constraint_fresh o c + constraint_fresh o d) in
      IsReadyWith c first fresh lower db → IsReadyWith d first fresh upper db
      → Derives db
      (cond b (joint_steps (literals_asked c) (pos (first_coef c.terms)) first lower upper db.next) (followed_by (constraint_steps o c first lower) (constraint_steps o d (first + constraint_fresh o c) upper) db.next))
      (cond b (exact_clauses (literals_asked c) first) (constraint_clauses o c first ++ constraint_clauses o d (first + constraint_fresh o c)))
      (first + fresh)

  either_way : (b : Bool) → is_joint o c ≡ b → Goal b
  either_way true is low high = joint_derives c d modest (joint_asks o c is) first lower upper db below low high
  either_way false is low high = split_derives o c d modest first lower upper db below low high

pub equalities_derive : EqualitiesDerive
equalities_derive o c d first lower upper db modest below low high = either_way o c d first lower upper db modest below (is_joint o c) refl low high
