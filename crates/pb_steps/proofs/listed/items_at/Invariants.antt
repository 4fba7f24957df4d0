use Rattle.std.proofs.Common.{◌≤◌, ◌-◌, length}
use Rattle.std.specs.List.{flat_map, AllByRecursion}
use Rattle.pb_steps.specs.Fronts.{Spells}
use Rattle.pb_steps.proofs.listed.items_at.Given as goal

abbrev pub invariant-items : goal.invariant-items
invariant-items g l = record {
  within : l.at ≤ length l.left;
  spells : Spells l.left (flat_map g.T.Listed.symbols l.items.items) l.at;
  each : AllByRecursion g.T.Fronted.IsFine l.items.items;
}

abbrev pub decreases-items : goal.decreases-items
decreases-items g l = length l.left - l.at
