-- What the derivation of one loaded constraint shows, as the derivation of its group asks it.
use Rattle.std.proofs.Common.{◌≡◌, ◌≤◌, ◌<◌, ◌+◌, ◌*◌, ◌^◌, ℕ, List, length, ap, ◌∙◌, arith}
use Rattle.std.proofs.Math.Nat.{add-mul, mul-add, mul-le-mul_left, mul_assoc}
use Rattle.std.specs.Prelude.{All, sum_by}
use Rattle.std.proofs.lemmas.List.Elements.{All-weaker}
use Rattle.pb_norm.specs.Constraints.{Constraint, weight}
use Rattle.pb_norm.proofs.Variables.{OfTerm}
use Rattle.pb_steps.specs.declared.step.Step.{Step}
use Rattle.pb_steps.specs.Database.{Database}
use Rattle.pb_steps.specs.Sayable.{IsSayable}
use Rattle.pb_derive.specs.Derivations.{Derives}
use Rattle.pb_derive.specs.Short.{line_size}
use Rattle.pb_family.specs.Derivations.{AreOriginal, MayStart}
use Rattle.pb_family.specs.Families.{VarsBelow}
use Rattle.pb_base.specs.declared.options.Options.{Options}
use Rattle.pb_choice.specs.Clauses.{constraint_clauses, constraint_count, constraint_fresh}
use Rattle.pb_choice.specs.ConstraintSteps.{constraint_steps}
use Rattle.pb_choice.specs.Readiness.{IsModest, IsReadyWith}
use Rattle.pb_choice.proofs.ConstraintDerived.{constraints_derive}
use Rattle.pb_choice.proofs.ConstraintSizes.{constraints_brief, constraints_few, constraints_sayable}
use Rattle.pb_choice.proofs.Composition.{IsOneBelow, IsReady}

-- in normal form, over variables from 1 and below a number, with few terms and small numbers
pub record IsLight (o : Options) (n : ℕ) (c : Constraint) : Type 0 where
  pub ready : IsReady o n c
  pub weight : weight c.terms < 2 ^ 100
  pub few : length c.terms ≤ 2 ^ 20 + 1

-- the lines of the steps of so many constraints with n terms, none with more than `most`
pub record IsSaid (most n count fresh clauses : ℕ) (steps : List Step) : Type 0 where
  pub sayable : All IsSayable steps
  pub each : All (λ s. line_size s ≤ 2 ^ 28) steps
  pub all : sum_by line_size steps ≤ 512 * (fresh * most) + 512 * n + 2 ^ 20 * (fresh + clauses + 4 * count)

pub modest : (o : Options) (n : ℕ) (c : Constraint) → IsLight o n c → IsModest c
modest o n c light = record { linear = light.ready.linear; light = light.weight; few = omega (arith, light.few) }

pub light_below : (o : Options) (n first : ℕ) (c : Constraint) → n ≤ first → IsLight o n c → VarsBelow first c.terms
light_below o n first c le light = All-weaker (OfTerm (IsOneBelow n)) (λ t. t.lit.var < first) (λ t h. omega (arith, le, h.1)) c.terms light.ready.within

pub light_original : (o : Options) (n first : ℕ) (c : Constraint) → n ≤ first → IsLight o n c → AreOriginal first c.terms
light_original o n first c le light = All-weaker (OfTerm (IsOneBelow n)) (λ t. (1 ≤ t.lit.var) × (t.lit.var < first)) (λ t h. (h.0, omega (arith, le, h.1))) c.terms light.ready.within

pub constraint-derives : (o : Options) (n first id : ℕ) (c : Constraint) (db : Database) → IsLight o n c → n ≤ first → IsReadyWith c first (constraint_fresh o c) id db
    → Derives db (constraint_steps o c first id db.next) (constraint_clauses o c first) (first + constraint_fresh o c)
constraint-derives o n first id c db light le start = constraints_derive o c first id db (modest o n c light) (light_below o n first c le light) start

pub constraint-few : (o : Options) (n : ℕ) (c : Constraint) (first id next : ℕ) → IsLight o n c → length (constraint_steps o c first id next) ≤ 8 * (constraint_fresh o c + constraint_count o c) + 4
constraint-few o n c first id next light = constraints_few o c first id next (modest o n c light)

-- no constraint has more terms than this
abbrev pub HasFewTerms : ℕ → Constraint → Type 0
HasFewTerms most c = length c.terms ≤ most

-- the bytes of all lines of so many constraints with n terms each
pub bytes_few : (most n count fresh more bytes : ℕ) → n ≤ most → bytes ≤ 512 * (fresh + count) * n + more → bytes ≤ 512 * (fresh * most) + 512 * (count * n) + more
bytes_few most n count fresh more bytes few h =
    let parts : 512 * (fresh + count) * n ≡ 512 * (fresh * n) + 512 * (count * n) = mul_assoc 512 (fresh + count) n ∙ ap (λ (k : ℕ). 512 * k) (add-mul fresh count n) ∙ mul-add 512 (fresh * n) (count * n) in
    omega (arith, h, parts, mul-le-mul_left fresh few)

pub constraint-said : (o : Options) (most n first id next : ℕ) (c : Constraint) → IsLight o n c → HasFewTerms most c → n ≤ first → 1 ≤ first → first + constraint_fresh o c ≤ 2 ^ 31 → constraint_count o c ≤ 2 ^ 56 → 1 ≤ id → id < next → next ≤ 2 ^ 60
    → IsSaid most (length c.terms) 1 (constraint_fresh o c) (constraint_count o c) (constraint_steps o c first id next)
constraint-said o most n first id next c light short le low fits counted given known few =
    let original = light_original o n first c le light in
    let start : MayStart first (constraint_fresh o c) id next = record { low = low; fits = fits; given = given; known = known; few = omega (arith, few) } in
    let brief = constraints_brief o c first id next (modest o n c light) counted original start few (omega (arith, light.few)) in
    record {
      sayable = constraints_sayable o c first id next (modest o n c light) counted original start few;
      each = brief.each;
      all = omega (arith, bytes_few most (length c.terms) 1 (constraint_fresh o c) (2 ^ 20 * (constraint_fresh o c + constraint_count o c + 4)) (sum_by line_size (constraint_steps o c first id next)) short brief.all);
    }
