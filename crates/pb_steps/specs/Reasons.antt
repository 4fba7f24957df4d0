-- The words by which it is told why a step is not allowed. Our own.
use Rattle.std.specs.Prelude.{ℕ, List, ◌++◌, codes, decimal}
use Rattle.pb_steps.specs.declared.denied.Denied.{Denied}
use Rattle.pb_steps.specs.declared.denied.Denied.TheVariants as denied

abbrev pub denied_words : Denied → List ℕ
denied_words (denied.UnknownVar var) = codes "unknown variable x" ++ decimal var
denied_words (denied.UnknownId id) = codes "unknown id " ++ decimal id
denied_words denied.Stack = codes "stack"
denied_words denied.Width = codes "width"
denied_words (denied.SetsOriginal var) = codes "sets original x" ++ decimal var
denied_words denied.NotPropagated = codes "not propagated"
denied_words (denied.Obligation id) = codes "obligation " ++ decimal id
denied_words denied.NoClause = codes "no clause"
denied_words (denied.NotImplied id) = codes "not implied by " ++ decimal id
denied_words (denied.OutDeleted id) = codes "deletes output " ++ decimal id
denied_words denied.ClausesLeft = codes "clauses left"
