use Rattle.std.proofs.Common.{◌≡◌, ◌++◌, ℕ, List, refl, ap, ◌∙◌}
use Rattle.std.specs.Prelude.{codes, decimal}
use Rattle.pb_model.specs.VariableNames.{name_at}
use Rattle.pb_model.proofs.Endings.{kept_whole, kept_same, further, ends, ends_kept}
use Rattle.pb_model.proofs.ValueWords.{kept_before}
use Rattle.pb_model.proofs.naming.push_line.Goals as goal

numbered : (start text number one two : List ℕ) → text ≡ number → one ≡ start ++ text → two ≡ one ++ codes " " → two ≡ start ++ (number ++ codes " ")
numbered start text number one two is first second = further start number (codes " ") one two (first ∙ ap (λ (xs : List ℕ). start ++ xs) is) second

pub returns-clause-ok : goal.returns-clause-ok
returns-clause-ok c =
    let start : List ℕ = c.args.out.now.items in
    let number = decimal c.args.variable in
    let name = name_at c.args.problem.now c.args.variable in
    let before = numbered start c.as_bytes.result.now number c.extend_from_slice.new.self.items c.extend_from_slice-2.new.self.items (c.as_bytes.ensures.value ∙ c.format.ensures.text) c.in_ok-extend_from_slice.ensures.items c.in_ok-extend_from_slice-2.ensures.items in
    ends c.extend_from_slice-3.result start ((number ++ codes " ") ++ name) (codes "\n") _ c.push_name.new.out.items c.extend_from_slice-3.new.self.items
    (further start (number ++ codes " ") name c.extend_from_slice-2.new.self.items c.push_name.new.out.items before c.in_ok-push_name.ensures.ok)
    refl
    c.extend_from_slice-3.ensures.items

pub returns-clause-before : goal.returns-clause-before
returns-clause-before c =
    let start : List ℕ = c.args.out.now.items in
    let number = decimal c.args.variable in
    let name = name_at c.args.problem.now c.args.variable in
    let before = numbered start c.as_bytes.result.now number c.extend_from_slice.new.self.items c.extend_from_slice-2.new.self.items (c.as_bytes.ensures.value ∙ c.format.ensures.text) c.in_ok-extend_from_slice.ensures.items c.in_ok-extend_from_slice-2.ensures.items in
    ends_kept c.extend_from_slice-3.result start ((number ++ codes " ") ++ name) (codes "\n") c.push_name.new.out.items c.extend_from_slice-3.new.self.items
    (further start (number ++ codes " ") name c.extend_from_slice-2.new.self.items c.push_name.new.out.items before c.in_ok-push_name.ensures.ok)
    c.extend_from_slice-3.ensures.items

pub returns-in_err-extend_from_slice-clause-before : goal.returns-in_err-extend_from_slice-clause-before
returns-in_err-extend_from_slice-clause-before c = kept_same c.args.out.now.items c.extend_from_slice.new.self.items c.in_err-extend_from_slice.ensures.items

pub returns-in_err-extend_from_slice-2-clause-before : goal.returns-in_err-extend_from_slice-2-clause-before
returns-in_err-extend_from_slice-2-clause-before c =
    kept_whole c.args.out.now.items c.as_bytes.result.now c.extend_from_slice-2.new.self.items (c.in_err-extend_from_slice-2.ensures.items ∙ c.in_ok-extend_from_slice.ensures.items)

pub returns-in_err-push_name-clause-before : goal.returns-in_err-push_name-clause-before
returns-in_err-push_name-clause-before c =
    let start : List ℕ = c.args.out.now.items in
    let text : List ℕ = c.as_bytes.result.now in
    kept_before start (text ++ codes " ") c.extend_from_slice-2.new.self.items c.push_name.new.out.items
    (further start text (codes " ") c.extend_from_slice.new.self.items c.extend_from_slice-2.new.self.items c.in_ok-extend_from_slice.ensures.items c.in_ok-extend_from_slice-2.ensures.items)
    c.in_err-push_name.ensures.before
