use Rattle.std.proofs.Common.{◌≡◌, take}
use Rattle.std.specs.Prelude.{map}
use Rattle.pb_norm.specs.inner.Kept.{on_term}
use Rattle.pb_norm.specs.Reduction.{opposite}
use Rattle.pb_diagram.proofs.derivation.negated_terms.Given as goal

abbrev pub invariant-loop-term : goal.invariant-loop-term
invariant-loop-term l = l.negated.items ≡ map (on_term opposite) (take l.term-index l.terms)
