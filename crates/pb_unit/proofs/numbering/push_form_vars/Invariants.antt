use Rattle.std.proofs.Common.{◌≡◌, ◌++◌, take}
use Rattle.std.specs.Prelude.{All}
use Rattle.pb_unit.specs.Renaming.{form_vars, IsName}
use Rattle.pb_unit.proofs.numbering.push_form_vars.Given as goal

abbrev pub invariant-loop-place : goal.invariant-loop-place
invariant-loop-place l = record {
  vars : l.out.items ≡ l.initial.out.items ++ form_vars (take l.place l.forms);
  names : All IsName l.out.items;
}
