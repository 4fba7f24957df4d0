use Rattle.std.proofs.Common.{◌≤◌, ◌-◌, length, map}
use Rattle.std.specs.List.{AllByRecursion}
use Rattle.pb_dimacs.specs.CnfReading.{literal_number, IsLitWithin}
use Rattle.pb_steps.specs.Fronts.{Spells}
use Rattle.pb_steps.specs.StepGrammar.StepSymbol.{integer}
use Rattle.pb_lrat.proofs.quick.lits_at.Given as goal

abbrev pub invariant-lits : goal.invariant-lits
invariant-lits l = record {
  within : l.at ≤ length l.left;
  spells : Spells l.left (map integer (map literal_number l.lits.items)) l.at;
  each : AllByRecursion (IsLitWithin l.vars) l.lits.items;
}

abbrev pub decreases-lits : goal.decreases-lits
decreases-lits l = length l.left - l.at
