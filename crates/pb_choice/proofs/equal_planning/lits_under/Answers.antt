use Rattle.std.proofs.Common.{ap, ◌∙◌}
use Rattle.pb_norm.specs.Reduction.{lits_of}
use Rattle.pb_norm.proofs.KeptTerms.{lits-weights}
use Rattle.pb_choice.proofs.equal_planning.lits_under.Goals as goal

pub returns-clause-lits : goal.returns-clause-lits
returns-clause-lits c = c.from_vec.ensures ∙ (c.in_ok-lits.ensures ∙ (lits-weights c.terms.result.now ∙ ap lits_of c.terms.ensures.weights))
