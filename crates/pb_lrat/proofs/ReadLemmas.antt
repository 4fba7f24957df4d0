-- What was read of a list so far.
use Rattle.std.proofs.Common.{List, ◌++◌}
use Rattle.std.specs.Prelude.{Result, Ok, Err}
use Rattle.pb_base.specs.declared.literal.Lit.{Lit}
use Rattle.pb_base.specs.Words.{Chunk}
use Rattle.pb_steps.specs.declared.fault.StepFault.{StepFault}

-- with literals that were read before the others
abbrev pub with_lits : List Lit → Result (List Lit × List Chunk) StepFault → Result (List Lit × List Chunk) StepFault
with_lits ls (Ok p) = Ok (ls ++ p.0, p.1)
with_lits ls (Err fault) = Err fault
