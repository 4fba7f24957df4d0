use Rattle.std.proofs.Common.{take}
use Rattle.pb_named.specs.inner.Columns.{AddsPlain}
use Rattle.pb_named.proofs.statements.push_plain_terms.Given as goal

abbrev pub invariant-loop-term : goal.invariant-loop-term
invariant-loop-term l = AddsPlain l.initial.plain l.plain l.initial.names.items l.names.items (take l.term-index l.terms)
