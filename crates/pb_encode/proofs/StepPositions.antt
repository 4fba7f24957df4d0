-- The derivations of groups of constraints that are handed over one after another.
use Rattle.std.proofs.Common.{◌≡◌, ◌≤◌, ◌+◌, ◌^◌, ◌++◌, ℕ, Bool, cond, List, All, [], ◌∷◌, length, sym, ap, subst, arith}
use Rattle.std.specs.Prelude.{count_by, sum_by, Result, IsErrAnd}
use Rattle.std.proofs.lemmas.List.Elements.{All-head, All-tail}
use Rattle.std.proofs.lemmas.List.Sums.{sum_by-append, sum_by-cons}
use Rattle.pb_steps.specs.declared.step.Step.{Step}
use Rattle.pb_steps.specs.Steps.{takes_id}
use Rattle.pb_family.specs.StepSinks.{StepState, TakesSteps, StopsInSteps, HandsSteps}
use Rattle.pb_family.specs.declared.sink.SinkFault.{SinkFault}
use Rattle.pb_family.proofs.Deriving.{Deriving, deriving_starts, deriving_as, deriving_step, steps_fault}
use Rattle.pb_base.specs.declared.options.Options.{Options}
use Rattle.pb_choice.specs.Readiness.{LeavesIds}
use Rattle.pb_encode.specs.declared.groups.Group.{Group}
use Rattle.pb_encode.specs.Clauses.{clause_total, fresh_total}
use Rattle.pb_encode.specs.Groups.{group_count, group_fresh, group_size, group_steps, size_total}
use Rattle.pb_encode.specs.Steps.{steps_from}
use Rattle.pb_encode.specs.inner.GroupPlans.{HasGroupTurn, IsSound}
use Rattle.pb_encode.proofs.GroupParts.{sound_later}

abbrev pub ids_in : List Step → ℕ
ids_in steps = count_by takes_id steps

pub ids-append : (ss ts : List Step) → ids_in (ss ++ ts) ≡ ids_in ss + ids_in ts
ids-append ss ts = sum_by-append (λ (s : Step). cond (takes_id s) 1 0) ss ts

-- ---- handing over

-- of the derivations of all these groups those of some are left, which begin with a fresh variable and an id
pub record Positions {R : Type 0} (o : Options) (first id : ℕ) (all left : List Group) (variable place : ℕ) (old now : StepState R) : Type 0 where
  pub variable_is : variable + fresh_total o left ≡ first + fresh_total o all
  pub place_is : place + size_total left ≡ id + size_total all
  pub fewer : clause_total o left ≤ clause_total o all
  pub later : first ≤ variable
  pub known : id ≤ place
  pub sound : All (IsSound first) left
  pub handed : Deriving (steps_from o first id all old.next) (steps_from o variable place left now.next) old now

pub positions_begin : {R : Type 0} (o : Options) (first id variable : ℕ) (all left : List Group) (a : StepState R) → variable ≡ first → left ≡ all → All (IsSound first) all → Positions o first id all left variable id a a
positions_begin o first id variable all left a first_is all_are sound = record {
  variable_is = λ i. first_is i + fresh_total o (all_are i);
  place_is = λ i. id + size_total (all_are i);
  fewer = omega (arith, ap (clause_total o) all_are);
  later = omega (arith, first_is);
  known = omega arith;
  sound = subst (All (IsSound first)) (sym all_are) sound;
  handed = deriving_as (λ i. steps_from o (sym first_is i) id (sym all_are i) a.next) (deriving_starts (steps_from o first id all a.next) a);
}

-- what is asked so that the derivations of groups may be handed over, which begin with a fresh variable and an id
pub record Ready (o : Options) (variable place next : ℕ) (gs : List Group) : Type 0 where
  pub fits : variable + fresh_total o gs ≤ 2147483648
  pub counted : clause_total o gs ≤ 2 ^ 56
  pub known : place + size_total gs ≤ next
  pub few : LeavesIds (steps_from o variable place gs) next

-- of one group
pub record ReadyOne (o : Options) (variable place next : ℕ) (g : Group) : Type 0 where
  pub sound : IsSound variable g
  pub turn : HasGroupTurn o g variable place next

-- the derivation of one that is left comes next
module _ {R : Type 0} {o : Options} {first id variable place : ℕ} {all left : List Group} {a b : StepState R} (g : Group) (rest : List Group) (parts : left ≡ g ∷ rest) (so_far : Positions o first id all left variable place a b) where
  abbrev here : List Step
  here = group_steps o g variable place b.next

  abbrev behind : List Step
  behind = steps_from o (variable + group_fresh o g) (place + group_size g) rest (b.next + ids_in here)

  next_piece : Deriving (steps_from o first id all a.next) (here ++ behind) a b
  next_piece = deriving_as (ap (λ (gs : List Group). steps_from o variable place gs b.next) parts) so_far.handed

  sum_parts : (f : Group → ℕ) → sum_by f left ≡ f g + sum_by f rest
  sum_parts f = omega (arith, ap (sum_by f) parts, sum_by-cons f g rest)

  pub positions_more : (variable2 place2 : ℕ) (d : StepState R) → variable2 ≡ variable + group_fresh o g → place2 ≡ place + group_size g → TakesSteps here b d → Positions o first id all rest variable2 place2 a d
  positions_more variable2 place2 d variable_to place_to taken = record {
    variable_is = omega (arith, variable_to, so_far.variable_is, sum_parts (group_fresh o));
    place_is = omega (arith, place_to, so_far.place_is, sum_parts group_size);
    fewer = omega (arith, so_far.fewer, sum_parts (group_count o));
    later = omega (arith, variable_to, so_far.later);
    known = omega (arith, place_to, so_far.known);
    sound = All-tail (IsSound first) g rest (subst (All (IsSound first)) parts so_far.sound);
    handed = deriving_as (λ i. steps_from o (sym variable_to i) (sym place_to i) rest (sym taken.ids i)) (deriving_step here d next_piece taken);
  }

  pub positions_stop : {T : Type 0} (d : StepState R) (r : Result T SinkFault) (f : SinkFault) → IsErrAnd r (λ e. e ≡ f) → StopsInSteps here b d f → HandsSteps (steps_from o first id all a.next) r a d
  positions_stop d r f is stops = steps_fault r f here behind d is next_piece stops

  -- how many ids were given
  ids_so_far : a.next + ids_in (steps_from o first id all a.next) ≡ b.next + ids_in here + ids_in behind
  ids_so_far =
      let e = next_piece in
      omega (arith, e.handed.ids, ap ids_in e.whole, ids-append e.front (here ++ behind), ids-append here behind)

  -- what was asked for all suffices for the next one
  pub positions_ready : Ready o first id a.next all → ReadyOne o variable place b.next g
  positions_ready ready = record {
    sound = sound_later first variable g so_far.later (All-head (IsSound first) g rest (subst (All (IsSound first)) parts so_far.sound));
    turn = record {
      fits = omega (arith, so_far.variable_is, ready.fits, sum_parts (group_fresh o));
      counted = omega (arith, so_far.fewer, sum_parts (group_count o), ready.counted);
      known = omega (arith, so_far.place_is, ready.known, next_piece.handed.ids, sum_parts group_size);
      few = omega (arith, ids_so_far, ready.few);
    };
  }

-- the same steps, written another way
pub takes_same_steps : {R : Type 0} (ss ts : List Step) (a b : StepState R) → ss ≡ ts → TakesSteps ss a b → TakesSteps ts a b
takes_same_steps ss ts a b same h = subst (λ (xs : List Step). TakesSteps xs a b) same h

pub stops_same_steps : {R : Type 0} (ss ts : List Step) (a b : StepState R) (f : SinkFault) → ss ≡ ts → StopsInSteps ss a b f → StopsInSteps ts a b f
stops_same_steps ss ts a b f same h = subst (λ (xs : List Step). StopsInSteps xs a b f) same h

-- no more ids than steps
pub ids-most : (steps : List Step) → ids_in steps ≤ length steps
ids-most [] = omega arith
ids-most (s ∷ steps) = omega (arith, sum_by-cons (λ (t : Step). cond (takes_id t) 1 0) s steps, bit (takes_id s), ids-most steps)
  where
    bit : (b : Bool) → cond {A = ℕ} b 1 0 ≤ 1
    bit b = grind arith

-- the next id is within the bound
pub leaves_next : (steps : ℕ → List Step) (next : ℕ) → LeavesIds steps next → next ≤ 2 ^ 60
leaves_next steps next few = omega (arith, few)
