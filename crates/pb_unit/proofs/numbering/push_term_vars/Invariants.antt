use Rattle.std.proofs.Common.{◌≡◌, ◌++◌, take}
use Rattle.std.specs.Prelude.{All}
use Rattle.pb_norm.specs.Constraints.{weights}
use Rattle.pb_unit.specs.Renaming.{term_vars, IsName}
use Rattle.pb_unit.proofs.numbering.push_term_vars.Given as goal

abbrev pub invariant-loop-term : goal.invariant-loop-term
invariant-loop-term l = record {
  vars : l.out.items ≡ l.initial.out.items ++ term_vars (weights (take l.term-index l.terms));
  names : All IsName l.out.items;
}
