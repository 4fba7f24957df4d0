use Rattle.std.proofs.Common.{◌≡◌, ◌≤◌, drop, length}
use Rattle.pb_named.specs.inner.Columns.{free_count}
use Rattle.pb_named.proofs.statements.names_behind.Given as goal

abbrev pub invariant-loop-term : goal.invariant-loop-term
invariant-loop-term l = record {
  enough : free_count l.term-iterator ≤ length l.left;
  same : drop (free_count l.term-iterator) l.left ≡ drop (free_count l.initial.term-iterator) l.names;
}
