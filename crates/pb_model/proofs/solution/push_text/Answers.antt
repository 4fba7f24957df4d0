use Rattle.std.proofs.Common.{◌≡◌, ◌++◌, ℕ, List, ap, ◌∙◌, append_assoc}
use Rattle.std.specs.Prelude.{OnOk, Result, Ok, Err}
use Rattle.pb_base.specs.Literals.{assigned_by}
use Rattle.pb_base.specs.Problems.{widened}
use Rattle.pb_model.specs.SolutionText.{objective_line, values_line}
use Rattle.pb_model.proofs.ValueWords.{kept_before}
use Rattle.pb_model.proofs.solution.push_text.Goals as goal

after_ok : {T E : Type 0} {P Q : Type 0} (r : Result T E) → (P → Q) → OnOk r P → OnOk r Q
after_ok (Ok x) f p = f p
after_ok (Err e) f p = p

pub returns-clause-ok : goal.returns-clause-ok
returns-clause-ok c =
    let start : List ℕ = c.args.out.now.items in
    let objective = objective_line (assigned_by (widened c.args.problem.now c.args.values.now)) c.args.problem.now.objective in
    let status : List ℕ = c.args.status.now in
    let values = values_line c.args.problem.now c.args.values.now in
    let before : c.extend_from_slice.new.self.items ≡ start ++ (objective ++ status) =
    c.in_ok-extend_from_slice.ensures.items ∙ ap (λ (xs : List ℕ). xs ++ status) c.in_ok-push_objective.ensures.ok ∙ append_assoc start objective status in
    after_ok c.push_values_line.result
    (λ (ok : c.push_values_line.new.out.items ≡ c.extend_from_slice.new.self.items ++ values).
    ok ∙ ap (λ (xs : List ℕ). xs ++ values) before ∙ append_assoc start (objective ++ status) values)
    c.push_values_line.ensures.ok

pub returns-clause-before : goal.returns-clause-before
returns-clause-before c =
    let start : List ℕ = c.args.out.now.items in
    let objective = objective_line (assigned_by (widened c.args.problem.now c.args.values.now)) c.args.problem.now.objective in
    let status : List ℕ = c.args.status.now in
    let before : c.extend_from_slice.new.self.items ≡ start ++ (objective ++ status) =
    c.in_ok-extend_from_slice.ensures.items ∙ ap (λ (xs : List ℕ). xs ++ status) c.in_ok-push_objective.ensures.ok ∙ append_assoc start objective status in
    kept_before start (objective ++ status) c.extend_from_slice.new.self.items c.push_values_line.new.out.items before c.push_values_line.ensures.before
