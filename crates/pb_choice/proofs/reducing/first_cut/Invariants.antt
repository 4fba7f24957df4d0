use Rattle.std.proofs.Common.{◌≡◌, drop}
use Rattle.pb_norm.specs.Constraints.{weights}
use Rattle.pb_norm.specs.Reduction.{first_coef}
use Rattle.pb_choice.specs.Reducing.{cut_terms}
use Rattle.pb_choice.proofs.reducing.first_cut.Given as goal

abbrev pub invariant-loop-term : goal.invariant-loop-term
invariant-loop-term l = first_coef (cut_terms l.slack l.degree (weights (drop l.term-index l.terms))) ≡ first_coef (cut_terms l.slack l.degree (weights l.terms))
