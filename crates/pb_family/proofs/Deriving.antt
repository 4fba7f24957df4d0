-- Steps that are handed over one after another.
use Rattle.std.proofs.Common.{◌≡◌, ◌+◌, ◌++◌, ℕ, cond, List, [], ◌∷◌, refl, sym, ap, ◌∙◌, subst, arith, append_assoc, append-nil, Ok, Err}
use Rattle.std.specs.Prelude.{Result, IsErrAnd, count_by}
use Rattle.std.proofs.lemmas.Grind.{flat_map-append}
use Rattle.std.proofs.lemmas.List.Sums.{sum_by-append}
use Rattle.pb_steps.specs.declared.step.Step.{Step}
use Rattle.pb_steps.specs.Steps.{takes_id}
use Rattle.pb_family.specs.StepSinks.{step_text, steps_text, first_line, StepState, TakesSteps, StopsInSteps, HandsSteps}
use Rattle.pb_family.specs.Sinks.{SinkState, Takes}
use Rattle.pb_family.specs.Handing.{Stops}
use Rattle.pb_family.specs.declared.sink.SinkFault.{SinkFault}
use Rattle.pb_family.specs.declared.sink.SinkFault.TheVariants as fault
use Rattle.pb_family.proofs.Taking.{takes_nothing, then_takes, takes_same, fails_front, part_front, then_fails, then_part, part_of_nothing}

pub steps_text-append : (xs ys : List Step) → steps_text (xs ++ ys) ≡ steps_text xs ++ steps_text ys
unfolding steps_text
steps_text-append xs ys = flat_map-append step_text xs ys

pub steps_text-none : steps_text [] ≡ []
unfolding steps_text
steps_text-none = refl

pub steps_text-one : (s : Step) → steps_text (s ∷ []) ≡ step_text s
unfolding steps_text
steps_text-one s = append-nil (step_text s)

-- ---- how a text stops

stops_same : {R : Type 0} (xs ys : List ℕ) (a b : SinkState R) (f : SinkFault) → xs ≡ ys → Stops xs a b f → Stops ys a b f
stops_same xs ys a b f same h = subst (λ (zs : List ℕ). Stops zs a b f) same h

stops_front : {R : Type 0} (xs ys : List ℕ) (a b : SinkState R) (f : SinkFault) → Stops xs a b f → Stops (xs ++ ys) a b f
stops_front xs ys a b fault.Failed h = fails_front xs ys a b h
stops_front xs ys a b fault.NoMemory h = part_front xs ys a b h

then_stops : {R : Type 0} (xs ys : List ℕ) (a b c : SinkState R) (f : SinkFault) → Takes xs a b → Stops ys b c f → Stops (xs ++ ys) a c f
then_stops xs ys a b c fault.Failed first second = then_fails xs ys a b c first second
then_stops xs ys a b c fault.NoMemory first second = then_part xs ys a b c first second

-- ---- steps

pub takes_no_steps : {R : Type 0} (a : StepState R) → TakesSteps [] a a
takes_no_steps a = record { taken = takes_same _ _ a.sink a.sink (sym steps_text-none) (takes_nothing a.sink); ids = omega arith }

pub then_steps : {R : Type 0} (xs ys : List Step) (a b c : StepState R) → TakesSteps xs a b → TakesSteps ys b c → TakesSteps (xs ++ ys) a c
then_steps xs ys a b c h g = record {
  taken = takes_same _ _ a.sink c.sink (sym (steps_text-append xs ys)) (then_takes (steps_text xs) (steps_text ys) a.sink b.sink c.sink h.taken g.taken);
  ids = omega (arith, h.ids, g.ids, sum_by-append (λ (s : Step). cond (takes_id s) 1 0) xs ys);
}

first_line_longer : {R : Type 0} (xs ys : List Step) (a b : SinkState R) (f : SinkFault) → Stops (first_line xs) a b f → Stops (first_line (xs ++ ys)) a b f
first_line_longer [] ys a b f h = stops_front [] (first_line ys) a b f h
first_line_longer (x ∷ xs) ys a b f h = h

-- steps that were stopped, with more behind them
stops_steps_front : {R : Type 0} (xs ys : List Step) (a b : StepState R) (f : SinkFault) → StopsInSteps xs a b f → StopsInSteps (xs ++ ys) a b f
stops_steps_front xs ys a b f h = record {
  front = h.front;
  left = h.left ++ ys;
  middle = h.middle;
  taken = h.taken;
  next = h.next;
  whole = ap (λ (ss : List Step). ss ++ ys) h.whole ∙ append_assoc h.front h.left ys;
  stops = first_line_longer h.left ys h.middle.sink b.sink f h.stops;
}

-- steps that were taken before some that were stopped
then_stops_steps : {R : Type 0} (xs ys : List Step) (a b c : StepState R) (f : SinkFault) → TakesSteps xs a b → StopsInSteps ys b c f → StopsInSteps (xs ++ ys) a c f
then_stops_steps xs ys a b c f first h = record {
  front = xs ++ h.front;
  left = h.left;
  middle = h.middle;
  stops = h.stops;
  next = h.next;
  whole = ap (λ (ss : List Step). xs ++ ss) h.whole ∙ sym (append_assoc xs h.front h.left);
  taken = then_steps xs h.front a b h.middle first h.taken;
}

-- memory was wanting before a step
pub lacks_steps : {R : Type 0} (steps : List Step) (a : StepState R) → StopsInSteps steps a a fault.NoMemory
lacks_steps steps a = record { front = []; left = steps; middle = a; whole = refl; taken = takes_no_steps a; stops = part_of_nothing (first_line steps) a.sink; next = refl }

-- the line of one step was taken, and its id counted
pub takes_step : {R : Type 0} (s : Step) (a b : StepState R) → Takes (step_text s) a.sink b.sink → b.next ≡ a.next + count_by takes_id (s ∷ []) → TakesSteps (s ∷ []) a b
takes_step s a b taken ids = record { taken = takes_same _ _ a.sink b.sink (sym (steps_text-one s)) taken; ids = ids }

-- or a first part of it
pub stops_step : {R : Type 0} (s : Step) (a b : StepState R) (f : SinkFault) → Stops (step_text s) a.sink b.sink f → b.next ≡ a.next → StopsInSteps (s ∷ []) a b f
stops_step s a b f part next = record { front = []; left = s ∷ []; whole = refl; middle = a; taken = takes_no_steps a; stops = part; next = next }

-- of all steps a front was taken, and some are left
pub record Deriving {R : Type 0} (all left : List Step) (old now : StepState R) : Type 0 where
  pub front : List Step
  pub whole : all ≡ front ++ left
  pub handed : TakesSteps front old now

pub deriving_starts : {R : Type 0} (all : List Step) (a : StepState R) → Deriving all all a a
deriving_starts all a = record { front = []; whole = refl; handed = takes_no_steps a }

-- none was taken yet, of steps that are written another way
pub deriving_from : {R : Type 0} {all left : List Step} (a : StepState R) → all ≡ left → Deriving all left a a
deriving_from a same = record { front = []; whole = same; handed = takes_no_steps a }

-- what is left, written another way
pub deriving_as : {R : Type 0} {all left more : List Step} {old now : StepState R} → left ≡ more → Deriving all left old now → Deriving all more old now
deriving_as {all = all} {old = old} {now} same e = subst (λ (ss : List Step). Deriving all ss old now) same e

-- a piece was taken
pub deriving_step : {R : Type 0} {all left : List Step} {old now : StepState R} (piece : List Step) (after : StepState R) → Deriving all (piece ++ left) old now → TakesSteps piece now after → Deriving all left old after
deriving_step {left = left} {old} {now} piece after e h = record {
  front = e.front ++ piece;
  whole = e.whole ∙ sym (append_assoc e.front piece left);
  handed = then_steps e.front piece old now after e.handed h;
}

pub deriving_ends : {R : Type 0} {all : List Step} {old now : StepState R} → Deriving all [] old now → TakesSteps all old now
deriving_ends {old = old} {now} e = subst (λ (ss : List Step). TakesSteps ss old now) (sym (e.whole ∙ append-nil e.front)) e.handed

-- some of the next piece were taken
pub deriving_stops : {R : Type 0} {all : List Step} {old now : StepState R} (piece left : List Step) (after : StepState R) (f : SinkFault) → Deriving all (piece ++ left) old now → StopsInSteps piece now after f → StopsInSteps all old after f
deriving_stops {old = old} {now} piece left after f e part =
    subst (λ (ss : List Step). StopsInSteps ss old after f) (sym e.whole) (then_stops_steps e.front (piece ++ left) old now after f e.handed (stops_steps_front piece left now after f part))

-- ---- as results

-- the fault of a piece is handed on
pub steps_fault : {R T : Type 0} {all : List Step} {old now : StepState R} (r : Result T SinkFault) (f : SinkFault) (piece left : List Step) (after : StepState R) → IsErrAnd r (λ g. g ≡ f) → Deriving all (piece ++ left) old now → StopsInSteps piece now after f → HandsSteps all r old after
steps_fault (Ok x) f piece left after is e part = absurd is
steps_fault {all = all} {old} (Err g) f piece left after is e part = subst (StopsInSteps all old after) (sym is) (deriving_stops piece left after f e part)

-- memory was wanting between two pieces
pub steps_lack : {R T : Type 0} {all left : List Step} {old now : StepState R} (r : Result T SinkFault) → IsErrAnd r (λ g. g ≡ fault.NoMemory) → Deriving all left old now → HandsSteps all r old now
steps_lack {left = left} {now = now} r is e = steps_fault r fault.NoMemory [] left now is e (lacks_steps [] now)

-- memory was wanting before any
pub steps_lack_first : {R T : Type 0} (all : List Step) (a : StepState R) (r : Result T SinkFault) → IsErrAnd r (λ g. g ≡ fault.NoMemory) → HandsSteps all r a a
steps_lack_first all a r is = steps_lack r is (deriving_starts all a)

-- the last call hands over all that is left
pub steps_last : {R T : Type 0} {all : List Step} {old now : StepState R} (r : Result T SinkFault) (piece : List Step) (after : StepState R) → Deriving all piece old now → HandsSteps piece r now after → HandsSteps all r old after
steps_last {T = T} {all = all} {old} {now} r piece after e h = by_cases r h
  where
    ending : Deriving all (piece ++ []) old now
    ending = deriving_as (sym (append-nil piece)) e

    by_cases : (r : Result T SinkFault) → HandsSteps piece r now after → HandsSteps all r old after
    by_cases (Ok x) taken = deriving_ends (deriving_step piece after ending taken)
    by_cases (Err f) part = deriving_stops piece [] after f ending part

-- the same steps, written another way
pub steps_same : {R T : Type 0} (r : Result T SinkFault) (ss ts : List Step) (a b : StepState R) → ss ≡ ts → HandsSteps ss r a b → HandsSteps ts r a b
steps_same r ss ts a b same h = subst (λ (xs : List Step). HandsSteps xs r a b) same h

-- ---- what it means for the text

line_and_more : (left : List Step) → (more : List ℕ) × (first_line left ++ more ≡ steps_text left)
unfolding steps_text
line_and_more [] = ([], refl)
line_and_more (s ∷ steps) = (steps_text steps, refl)

-- a first part of the steps' text was taken
pub steps_text_stops : {R : Type 0} (steps : List Step) (a b : StepState R) (f : SinkFault) → StopsInSteps steps a b f → Stops (steps_text steps) a.sink b.sink f
steps_text_stops steps a b f h =
    let rest = line_and_more h.left in
    stops_same _ _ a.sink b.sink f (ap (λ (xs : List ℕ). steps_text h.front ++ xs) rest.1 ∙ sym (ap steps_text h.whole ∙ steps_text-append h.front h.left))
    (then_stops (steps_text h.front) (first_line h.left ++ rest.0) a.sink h.middle.sink b.sink f h.taken.taken (stops_front (first_line h.left) rest.0 h.middle.sink b.sink f h.stops))
