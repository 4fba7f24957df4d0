use Rattle.std.proofs.Common.{ℕ, ◌<◌}
use Rattle.std.specs.Prelude.{Contains, slice_index_or}
use Rattle.pb_base.specs.declared.literal.Term.{Term}
use Rattle.pb_database.specs.inner.Indexed.{ids_of, KeepsIds}
use Rattle.pb_database.proofs.index.enter.Given as goal

abbrev pub invariant-loop-term : goal.invariant-loop-term
invariant-loop-term l = record {
  kept : KeepsIds l.initial.lists.items l.lists.items;
  added : (k : ℕ) (d : Term) → k < l.term-index → l.original < (slice_index_or l.terms k d).lit.var → Contains (ids_of l.lists.items (slice_index_or l.terms k d).lit.var) l.id;
}
