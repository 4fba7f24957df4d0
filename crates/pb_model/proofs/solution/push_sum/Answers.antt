use Rattle.std.proofs.Common.{◌≡◌, ◌++◌, ℕ, List, ap, ◌∙◌, rules}
use Rattle.std.specs.Prelude.{codes}
use Rattle.std.specs.Fmt.{signed_decimal}
use Rattle.pb_base.specs.Literals.{assigned_by}
use Rattle.pb_base.specs.Problems.{sum_value}
use Rattle.pb_model.proofs.Endings.{kept_whole, further, ends, ends_kept}
use Rattle.pb_model.proofs.solution.push_sum.Goals as goal

pub returns-clause-ok : goal.returns-clause-ok
returns-clause-ok c =
    let start : List ℕ = c.args.out.now.items in
    let text : List ℕ = c.as_bytes.result.now in
    let is : text ≡ signed_decimal (sum_value (assigned_by c.args.values.now) c.args.terms.now) = search rules in
    ends c.extend_from_slice-3.result start (codes "o " ++ text) (codes "\n") _ c.extend_from_slice-2.new.self.items c.extend_from_slice-3.new.self.items
    (further start (codes "o ") text c.extend_from_slice.new.self.items c.extend_from_slice-2.new.self.items c.in_ok-extend_from_slice.ensures.items c.in_ok-extend_from_slice-2.ensures.items)
    (ap (λ (xs : List ℕ). codes "o " ++ xs ++ codes "\n") is)
    c.extend_from_slice-3.ensures.items

pub returns-clause-before : goal.returns-clause-before
returns-clause-before c =
    let start : List ℕ = c.args.out.now.items in
    let text : List ℕ = c.as_bytes.result.now in
    ends_kept c.extend_from_slice-3.result start (codes "o " ++ text) (codes "\n") c.extend_from_slice-2.new.self.items c.extend_from_slice-3.new.self.items
    (further start (codes "o ") text c.extend_from_slice.new.self.items c.extend_from_slice-2.new.self.items c.in_ok-extend_from_slice.ensures.items c.in_ok-extend_from_slice-2.ensures.items)
    c.extend_from_slice-3.ensures.items

pub returns-in_err-extend_from_slice-2-clause-before : goal.returns-in_err-extend_from_slice-2-clause-before
returns-in_err-extend_from_slice-2-clause-before c =
    kept_whole c.args.out.now.items (codes "o ") c.extend_from_slice-2.new.self.items (c.in_err-extend_from_slice-2.ensures.items ∙ c.in_ok-extend_from_slice.ensures.items)
