-- The faults of both texts, by their places (our own).
use Rattle.std.specs.Prelude.{ℕ, List, [], ◌∷◌, Some}
use Rattle.pb_base.specs.declared.expected.Expected.{Expected}
use Rattle.pb_base.specs.declared.expected.Expected.TheVariants as expected
use Rattle.pb_base.specs.declared.file.File.TheVariants.{Cnf, Proof}
use Rattle.pb_base.specs.Words.{Chunk, words_of}
use Rattle.pb_desk.specs.declared.lines.LineFault.{LineFault}
use Rattle.pb_desk.specs.declared.lines.LineFault.TheVariants as line_fault
use Rattle.pb_dimacs.specs.declared.fault.CnfFault.{CnfFault}
use Rattle.pb_dimacs.specs.declared.fault.CnfFault.TheVariants as cnf_fault
use Rattle.pb_dimacs.specs.CnfRows.{line_start, limit_place}
use Rattle.pb_steps.specs.declared.fault.StepFault.{StepFault}
use Rattle.pb_steps.specs.declared.fault.StepFault.TheVariants as step_fault
use Rattle.pb_check.specs.declared.verdict.CheckFault.{CheckFault}
use Rattle.pb_check.specs.declared.verdict.CheckFault.TheVariants.{Refused, Limit, ReadFault, NoMemory}

-- the fault of a CNF text
abbrev pub of_cnf : CnfFault → CheckFault
of_cnf (cnf_fault.Token place e) = Refused Cnf place e
of_cnf (cnf_fault.Limit place which) = Limit Cnf place which
of_cnf cnf_fault.Failed = ReadFault
of_cnf cnf_fault.NoMemory = NoMemory

-- the fault of the line of a number in a derivation
abbrev pub of_step : ℕ → StepFault → CheckFault
of_step number (step_fault.Token column e) = Refused Proof (record { line = number; column = column }) e
of_step number (step_fault.Limit column which) = Limit Proof (Some (record { line = number; column = column })) which
of_step number step_fault.NoMemory = NoMemory

-- the fault of a derivation one of whose lines was not read
abbrev pub of_line : LineFault → CheckFault
of_line (line_fault.Limit which number) = Limit Proof (limit_place which (line_start number)) which
of_line line_fault.Failed = ReadFault
of_line line_fault.NoMemory = NoMemory

-- the column of the first word, and of the second
abbrev pub first_column : List Chunk → ℕ
first_column [] = 1
first_column (w ∷ ws) = w.column

abbrev pub second_column : List Chunk → ℕ
second_column [] = 1
second_column (w ∷ ws) = first_column ws

-- a line that does not stand in its place
abbrev pub misplaced_line : ℕ → List ℕ → Expected → CheckFault
misplaced_line number line e = Refused Proof (record { line = number; column = first_column (words_of line) }) e

-- a line that tells a wrong number of loaded constraints
abbrev pub miscounted_line : ℕ → List ℕ → CheckFault
miscounted_line number line = Refused Proof (record { line = number; column = second_column (words_of line) }) expected.LoadedCount
