use Rattle.pb_columns.specs.Columns.{AreTermsOf}
use Rattle.pb_columns.proofs.terms.terms_of.Given as goal

abbrev pub invariant-loop-place : goal.invariant-loop-place
invariant-loop-place l = AreTermsOf l.words l.literals l.first l.place l.terms
