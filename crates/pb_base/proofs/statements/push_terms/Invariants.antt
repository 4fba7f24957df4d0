use Rattle.std.proofs.Common.{◌≡◌, ◌++◌, take}
use Rattle.pb_base.proofs.statements.push_terms.Given as goal

abbrev pub invariant-loop-term : goal.invariant-loop-term
invariant-loop-term l = l.column ≡ l.initial.column ++ take l.term-index l.terms
