use Rattle.std.proofs.Common.{◌≡◌, ◌≤◌, ◌+◌, ◌*◌, length}
use Rattle.pb_norm.specs.Halves.{loaded}
use Rattle.pb_encode.proofs.derivation_file.count_statements.Given as goal

abbrev pub invariant-loop-statement : goal.invariant-loop-statement
invariant-loop-statement l = record {
  whole : l.count + length (loaded l.statement-iterator) ≡ length (loaded l.statements);
  few : l.count + 2 * length l.statement-iterator ≤ 2 * length l.statements;
}
