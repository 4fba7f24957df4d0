use Rattle.std.proofs.Common.{sym, ◌∙◌}
use Rattle.pb_norm.proofs.TightTerms.{tight_splits}
use Rattle.pb_norm.proofs.reduction.is_tight.Goals as goal

pub returns-then-degree-gt0 : goal.returns-then-degree-gt0
returns-then-degree-gt0 c holds =
    tight_splits c.args.constraint.now c.terms.result.now c.degree-degree.result c.args.spare c.terms.ensures.weights c.degree-degree.ensures.value c.requires.spare c.requires.enough c.if-degree-gt0.true
    (sym c.all_tight.ensures ∙ holds)
