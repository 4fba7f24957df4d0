use Rattle.std.proofs.Common.{ℕ, List, [], ◌∷◌, ◌++◌, ap, ◌∙◌}
use Rattle.std.proofs.lemmas.Result.{on_ok_weaker}
use Rattle.pb_steps.proofs.write.push_line.Goals as goal

pub returns-clause-ok : goal.returns-clause-ok
returns-clause-ok c = on_ok_weaker c.push_text.result (λ e. e ∙ ap (λ (ys : List ℕ). ys ++ 10 ∷ []) c.in_ok-push_step.ensures.ok) c.push_text.ensures.ok
