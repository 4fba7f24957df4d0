use Rattle.std.proofs.Common.{◌≡◌, ◌++◌, length}
use Rattle.std.specs.List.{list_any}
use Rattle.std.specs.Vec.Iter.{into_iter_items}
use Rattle.pb_lrat.specs.Hints.{is_nothing}
use Rattle.pb_lrat.specs.LratStates.{numbered}
use Rattle.pb_lrat.proofs.checker.store_with_ids.Given as goal

abbrev pub invariant-loop-clause : goal.invariant-loop-clause
invariant-loop-clause l = record {
  whole : l.yielded ++ into_iter_items l.clause-iterator ≡ l.fn.clauses;
  store : l.store ≡ record { last = length l.yielded; live = numbered 1 l.yielded };
  empty : l.refuted ≡ list_any is_nothing l.yielded;
}
