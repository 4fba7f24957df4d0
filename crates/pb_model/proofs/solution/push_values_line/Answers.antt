use Rattle.std.proofs.Common.{◌++◌, ℕ, List, refl}
use Rattle.std.specs.Prelude.{codes}
use Rattle.pb_model.specs.SolutionText.{value_words}
use Rattle.pb_model.proofs.Endings.{further, ends, ends_kept}
use Rattle.pb_model.proofs.ValueWords.{kept_before}
use Rattle.pb_model.proofs.solution.push_values_line.Goals as goal

pub returns-clause-ok : goal.returns-clause-ok
returns-clause-ok c =
    let start : List ℕ = c.args.out.now.items in
    let words = value_words c.args.problem.now 1 c.args.values.now in
    ends c.extend_from_slice-2.result start (codes "v" ++ words) (codes "\n") _ c.push_values.new.out.items c.extend_from_slice-2.new.self.items
    (further start (codes "v") words c.extend_from_slice.new.self.items c.push_values.new.out.items c.in_ok-extend_from_slice.ensures.items c.in_ok-push_values.ensures.ok)
    refl
    c.extend_from_slice-2.ensures.items

pub returns-clause-before : goal.returns-clause-before
returns-clause-before c =
    let start : List ℕ = c.args.out.now.items in
    let words = value_words c.args.problem.now 1 c.args.values.now in
    ends_kept c.extend_from_slice-2.result start (codes "v" ++ words) (codes "\n") c.push_values.new.out.items c.extend_from_slice-2.new.self.items
    (further start (codes "v") words c.extend_from_slice.new.self.items c.push_values.new.out.items c.in_ok-extend_from_slice.ensures.items c.in_ok-push_values.ensures.ok)
    c.extend_from_slice-2.ensures.items

pub returns-in_err-push_values-clause-before : goal.returns-in_err-push_values-clause-before
returns-in_err-push_values-clause-before c =
    kept_before c.args.out.now.items (codes "v") c.extend_from_slice.new.self.items c.push_values.new.out.items c.in_ok-extend_from_slice.ensures.items c.in_err-push_values.ensures.before
