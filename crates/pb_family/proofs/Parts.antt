-- Steps that are handed over part by part.
use Rattle.std.proofs.Common.{◌≡◌, ◌≤◌, ◌<◌, ◌+◌, ◌*◌, ◌∙◌, ◌++◌, ℕ, List, ◌∷◌, length, drop, get_or, refl, sym, ap, subst, arith}
use Rattle.std.specs.Prelude.{count_by, Result, IsErrAnd}
use Rattle.std.proofs.lemmas.List.{drop_more, drop_all}
use Rattle.pb_steps.specs.declared.step.Step.{Step}
use Rattle.pb_steps.specs.Steps.{takes_id}
use Rattle.pb_family.specs.Derivations.{pieces, in_turn, ids_in_turn}
use Rattle.pb_family.specs.StepSinks.{StepState, TakesSteps, StopsInSteps, HandsSteps}
use Rattle.pb_family.specs.declared.sink.SinkFault.{SinkFault}
use Rattle.pb_family.proofs.Deriving.{Deriving, deriving_from, deriving_as, deriving_step, deriving_ends, steps_fault}
use Rattle.pb_family.proofs.Sequence.{pieces_ids}

module _ {P R : Type 0} (count width : P → ℕ) (piece : P → ℕ → ℕ → List Step) (ps : List P) where
  -- of all parts the first k were taken
  pub record InTurn (k : ℕ) (old now : StepState R) : Type 0 where
    pub taken : Deriving (in_turn count width piece old.next ps) (in_turn count width piece now.next (drop k ps)) old now
    pub ids : now.next + ids_in_turn count width (drop k ps) ≡ old.next + ids_in_turn count width ps

  pub turn_from : (a : StepState R) → InTurn 0 a a
  turn_from a = record { taken = deriving_from a refl; ids = refl }

  module _ (k : ℕ) (p : P) (old now : StepState R) (within : k < length ps) (is : p ≡ get_or ps k p) (h : InTurn k old now) where
    here : drop k ps ≡ p ∷ drop (k + 1) ps
    here = drop_more ps k p within ∙ ap (λ (q : P). q ∷ drop (k + 1) ps) (sym is)

    abbrev part : List Step
    part = pieces (piece p) (width p) now.next 0 (count p)

    abbrev rest : ℕ → List Step
    rest next = in_turn count width piece next (drop (k + 1) ps)

    ids : now.next + (width p * count p + ids_in_turn count width (drop (k + 1) ps)) ≡ old.next + ids_in_turn count width ps
    ids = subst (λ (qs : List P). now.next + ids_in_turn count width qs ≡ old.next + ids_in_turn count width ps) here h.ids

    steps : Deriving (in_turn count width piece old.next ps) (part ++ rest (now.next + width p * count p)) old now
    steps = deriving_as (ap (in_turn count width piece now.next) here) h.taken

    -- the next part has room
    pub turn_few : (m : ℕ) → old.next + ids_in_turn count width ps < m → now.next + width p * count p < m
    turn_few m few = omega (arith, few, ids)

    pub turn_fault : {T : Type 0} (r : Result T SinkFault) (f : SinkFault) (after : StepState R) → IsErrAnd r (λ g. g ≡ f) → StopsInSteps part now after f → HandsSteps (in_turn count width piece old.next ps) r old after
    turn_fault r f after err part_stops = steps_fault r f part (rest (now.next + width p * count p)) after err steps part_stops

    pub turn_next : (after : StepState R) → ((next j : ℕ) → count_by takes_id (piece p next j) ≡ width p) → TakesSteps part now after → InTurn (k + 1) old after
    turn_next after each handed =
        let counts : now.next + width p * count p ≡ after.next = omega (arith, handed.ids, pieces_ids (piece p) (width p) each now.next 0 (count p)) in
        record {
          taken = deriving_as (ap rest counts) (deriving_step {left = rest (now.next + width p * count p)} part after steps handed);
          ids = omega (arith, counts, ids);
        }

  pub turn_ends : (k : ℕ) (old now : StepState R) → length ps ≤ k → InTurn k old now → TakesSteps (in_turn count width piece old.next ps) old now
  turn_ends k old now all h = deriving_ends (deriving_as (ap (in_turn count width piece now.next) (drop_all k ps all)) h.taken)

  pub turn_next_id : (k : ℕ) (old now : StepState R) → length ps ≤ k → InTurn k old now → now.next ≡ old.next + ids_in_turn count width ps
  turn_next_id k old now all h = omega (arith, h.ids, ap (ids_in_turn count width) (drop_all k ps all))
