use Rattle.std.proofs.Common.{rules, ◌≡◌, ◌++◌, Bool, List, OnOk, subst}
use Rattle.pb_model.specs.SolutionText.{text_under}
use Rattle.pb_model.proofs.solution.write_text.Goals as goal

pub returns-clause-ok : goal.returns-clause-ok
returns-clause-ok c = subst (λ (values : List Bool). OnOk c.whole_or_none.result (c.whole_or_none.new.out.items ≡ c.args.out.now.items ++ text_under c.args.status.now c.args.problem.now values)) c.as_slice.ensures (search rules)
