use Rattle.std.proofs.Common.{◌≡◌, drop}
use Rattle.pb_norm.specs.Constraints.{weights}
use Rattle.pb_norm.specs.Reduction.{all_weigh}
use Rattle.pb_choice.specs.Reducing.{cut_terms}
use Rattle.pb_choice.proofs.reducing.all_cut.Given as goal

abbrev pub invariant-loop-term : goal.invariant-loop-term
invariant-loop-term l = all_weigh l.coef (cut_terms l.slack l.degree (weights (drop l.term-index l.terms))) ≡ all_weigh l.coef (cut_terms l.slack l.degree (weights l.terms))
