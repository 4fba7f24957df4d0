-- What was read before the others. This serves the proofs that what a line lists is read as it is defined.
use Rattle.std.specs.Prelude.{List, ◌++◌, Result, Ok, Err}
use Rattle.pb_base.specs.declared.literal.Term.{Term}
use Rattle.pb_base.specs.Words.{Chunk}
use Rattle.pb_steps.specs.declared.fault.StepFault.{StepFault}

-- with items before the others
abbrev pub with_items : {A : Type 0} → List A → Result (List A) StepFault → Result (List A) StepFault
with_items xs (Ok ys) = Ok (xs ++ ys)
with_items xs (Err fault) = Err fault

-- with terms before the others
abbrev pub with_terms : List Term → Result (List Term × List Chunk) StepFault → Result (List Term × List Chunk) StepFault
with_terms ts (Ok p) = Ok (ts ++ p.0, p.1)
with_terms ts (Err fault) = Err fault
