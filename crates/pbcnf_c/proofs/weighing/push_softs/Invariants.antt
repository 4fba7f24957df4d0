use Rattle.std.proofs.Common.{◌≡◌, ◌++◌, take}
use Rattle.std.specs.List.{flat_map}
use Rattle.pb_norm.specs.Constraints.{terms_of}
use Rattle.pb_encode.proofs.CostTexts.{cost_line}
use Rattle.pbcnf_c.proofs.weighing.push_softs.Given as goal

abbrev pub invariant-loop-term : goal.invariant-loop-term
invariant-loop-term l = record {
  items : l.terms ≡ terms_of l.objective.terms;
  pushed : l.out.items ≡ l.initial.out.items ++ flat_map cost_line (take l.term-index l.terms);
}
