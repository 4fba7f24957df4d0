use Rattle.std.proofs.Common.{◌≡◌, ◌++◌, take}
use Rattle.std.specs.Prelude.{All}
use Rattle.pb_unit.specs.Renaming.{lit_vars, IsName}
use Rattle.pb_unit.proofs.numbering.push_lit_vars.Given as goal

abbrev pub invariant-loop-lit : goal.invariant-loop-lit
invariant-loop-lit l = record {
  vars : l.out.items ≡ l.initial.out.items ++ lit_vars (take l.lit-index l.lits);
  names : All IsName l.out.items;
}
