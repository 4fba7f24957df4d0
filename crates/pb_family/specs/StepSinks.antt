-- How steps of derivations are handed to a sink (our own).
-- What contracts know of the lines is the record that sinks of clauses have, with the same relations for text that is accepted or
-- stopped; besides there is the id of the next step that takes one. After a fault the steps that were accepted whole are known
-- (`StopsInSteps`), so that this id is right then too.
use Rattle.std.specs.Prelude.{◌≡◌, ℕ, ◌+◌, List, [], ◌∷◌, ◌++◌, codes, count_by, Result}
use Rattle.std.specs.List.{flat_map}
use Rattle.std.specs.declared.result.Result.TheVariants.{Ok, Err}
use Rattle.pb_steps.specs.declared.step.Step.{Step}
use Rattle.pb_steps.specs.Steps.{takes_id}
use Rattle.pb_steps.specs.StepText.{step_line}
use Rattle.pb_family.specs.Handing.{Stops}
use Rattle.pb_family.specs.Sinks.{SinkState, Takes}
use Rattle.pb_family.specs.TextSinks.{in_memory}
use Rattle.pb_family.specs.declared.sink.SinkFault.{SinkFault}

-- the line of a step, with its LF
abbrev pub step_text : Step → List ℕ
step_text s = step_line s ++ codes "\n"

unfoldable pub steps_text : List Step → List ℕ
steps_text steps = flat_map step_text steps

-- the line of the first step, if there is one
abbrev pub first_line : List Step → List ℕ
first_line [] = []
first_line (s ∷ steps) = step_text s

-- A sink of steps, as contracts see it: the sink of its lines, and the id of the next step that takes one.
pub record StepState (Rest : Type 0) : Type 0 where
  pub sink : SinkState Rest
  pub next : ℕ

-- The lines of the steps were taken, and each step that takes an id got the next one.
pub record TakesSteps {Rest : Type 0} (steps : List Step) (old new : StepState Rest) : Type 0 where
  pub taken : Takes (steps_text steps) old.sink new.sink
  pub ids : new.next ≡ old.next + count_by takes_id steps

-- The first steps were taken, and then a first part of the line of the next one, which got no id.
pub record StopsInSteps {Rest : Type 0} (steps : List Step) (old new : StepState Rest) (f : SinkFault) : Type 0 where
  pub front : List Step
  pub left : List Step
  pub whole : steps ≡ front ++ left
  pub middle : StepState Rest
  pub taken : TakesSteps front old middle
  pub stops : Stops (first_line left) middle.sink new.sink f
  pub next : new.next ≡ middle.next

-- All steps were taken, or the first ones until the sink failed or memory was wanting.
abbrev pub HandsSteps : {T Rest : Type 0} → List Step → Result T SinkFault → StepState Rest → StepState Rest → Type 0
HandsSteps steps (Ok x) old new = TakesSteps steps old new
HandsSteps steps (Err f) old new = StopsInSteps steps old new f

-- the same of steps that are given by the sink's next id
abbrev pub HandsFrom : {T Rest : Type 0} → (ℕ → List Step) → Result T SinkFault → StepState Rest → StepState Rest → Type 0
HandsFrom steps result old new = HandsSteps (steps old.next) result old new

-- a sink in memory, which never fails itself
abbrev pub steps_in_memory : List ℕ → ℕ → StepState (Unit {0})
steps_in_memory text next = record { sink = in_memory text 0; next = next }
