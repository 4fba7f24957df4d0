-- What is told of columns that give no statements, and what a refusal blames. It serves proofs.
use Rattle.std.specs.Prelude.{ℕ, ◌==◌, ◌&&◌, ◌||◌, Bool, None, if◌then◌else◌}
use Rattle.pb_columns.specs.declared.fault.ColumnFault.{ColumnFault}
use Rattle.pb_columns.specs.declared.fault.ColumnFault.TheVariants as fault
use Rattle.pb_suite.specs.declared.outcome.Outcome.TheVariants as outcome
use Rattle.pbcnf_c.specs.declared.constraints.Blame.{Blame}
use Rattle.pbcnf_c.specs.declared.refusal.PbcnfRefusal.{PbcnfRefusal}

abbrev pub blame_of : ColumnFault → Blame
blame_of fault.NoMemory = record { outcome = outcome.NoMemory; at = 0 }
blame_of (fault.Unfit at) = record { outcome = outcome.Usage; at = at }
blame_of (fault.Limit which at) = record { outcome = outcome.Limit None which None; at = at }

-- a constraint can be to blame for bad numbers, and for a limit that no text passes
abbrev pub may_blame : PbcnfRefusal → Bool
may_blame r = (r.status == 2) || ((r.status == 3) && (r.file == 0))

abbrev pub blame_in : PbcnfRefusal → ℕ
blame_in r = if may_blame r then r.number else 0

abbrev pub without_blame : PbcnfRefusal → PbcnfRefusal
without_blame r = if may_blame r then record r { number = 0 } else r
