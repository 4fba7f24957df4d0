use Rattle.std.proofs.Common.{◌≡◌, map, take}
use Rattle.pb_norm.specs.Constraints.{terms_of}
use Rattle.pbcnf_c.specs.Bounds.{told_by}
use Rattle.pbcnf_c.proofs.Costed.{soft_numbers}
use Rattle.pbcnf_c.proofs.softs.softs_of.Given as goal

abbrev pub invariant-loop-term : goal.invariant-loop-term
invariant-loop-term l = record {
  items : l.terms ≡ terms_of l.objective.terms;
  told : map told_by l.given.items ≡ map soft_numbers (take l.term-index l.terms);
}
