-- The steps of reifications, of clauses and of their justifications, handed over from the sink's next id on.
use Rattle.std.specs.Prelude.{List, map, Result}
use Rattle.pb_derive.specs.Claims.{Claim, claim_steps}
use Rattle.pb_derive.specs.Reifications.{Reification, reification_steps}
use Rattle.pb_derive.specs.Justifications.{Justification, by_justification}
use Rattle.pb_family.specs.StepSinks.{HandsSteps, StepState}
use Rattle.pb_family.specs.declared.sink.SinkFault.{SinkFault}

abbrev pub HandsReifications : {T Rest : Type 0} → List Reification → Result T SinkFault → StepState Rest → StepState Rest → Type 0
HandsReifications reifications result old new = HandsSteps (reification_steps old.next reifications) result old new

abbrev pub HandsClaims : {T Rest : Type 0} → List Claim → Result T SinkFault → StepState Rest → StepState Rest → Type 0
HandsClaims claims result old new = HandsSteps (claim_steps old.next claims) result old new

abbrev pub HandsJustifications : {T Rest : Type 0} → List Justification → Result T SinkFault → StepState Rest → StepState Rest → Type 0
HandsJustifications justifications result old new = HandsSteps (claim_steps old.next (map by_justification justifications)) result old new
