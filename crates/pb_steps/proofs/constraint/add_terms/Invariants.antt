use Rattle.std.proofs.Common.{◌≡◌, length}
use Rattle.pb_steps.specs.LineSteps.{terms_in}
use Rattle.pb_steps.specs.inner.Reading.{with_terms}
use Rattle.pb_steps.proofs.constraint.add_terms.Given as goal

abbrev pub invariant-terms : goal.invariant-terms
invariant-terms l = with_terms l.initial.terms (terms_in l.end l.initial.words) ≡ with_terms l.terms (terms_in l.end l.words)

abbrev pub decreases-terms : goal.decreases-terms
decreases-terms l = length l.words
