use Rattle.std.proofs.Common.{◌≡◌, ◌≤◌, ◌∙◌, ℕ, List, [], arith, ap, sym, subst, take, length, get_or}
use Rattle.std.specs.Prelude.{slice_index}
use Rattle.std.proofs.lemmas.List.{get_or_default, length-take-le}
use Rattle.pb_unit.specs.Index.{section, IsSectioned}
use Rattle.pb_unit.specs.declared.index.Occurrence.{Occurrence}
use Rattle.pb_unit.proofs.Sections.{sectioned_none, section_none}
use Rattle.pb_unit.proofs.index.Index.new.Goals as goal

ends_are : (c : goal.After-new) → c.in_ok-ends.ends.items ≡ take (length c.args.counts.now) c.in_ok-starts.starts.items
ends_are c = c.in_ok-ends.ensures.items ∙ ap (λ (xs : List ℕ). take (length c.args.counts.now) xs) c.deref.ensures.value

pub invariant_of-result : goal.invariant_of-result
invariant_of-result c =
    let n : ℕ = length c.args.counts.now in
    let starts : List ℕ = c.in_ok-starts.starts.items in
    let last : get_or starts n c.index.result.now ≡ get_or starts n 0 = get_or_default starts n c.index.result.now 0 (omega (arith, c.in_ok-starts.ensures.size)) in
    let room : slice_index starts n ≤ length c.in_ok-vec.field-0.items = omega (arith, last, c.index.ensures, c.in_ok-vec.ensures.len) in
    subst (λ (es : List ℕ). IsSectioned starts es c.in_ok-vec.field-0.items) (sym (ends_are c))
    (sectioned_none starts c.in_ok-vec.field-0.items n c.in_ok-starts.ensures.size c.in_ok-starts.ensures.ascending room)

pub returns-clause-size : goal.returns-clause-size
returns-clause-size c =
    ap (λ (xs : List ℕ). length xs) (ends_are c) ∙ length-take-le (length c.args.counts.now) c.in_ok-starts.starts.items (omega (arith, c.in_ok-starts.ensures.size))

pub returns-clause-units : goal.returns-clause-units
returns-clause-units c = λ k.
    ap (λ (es : List ℕ). section c.in_ok-starts.starts.items es c.in_ok-vec.field-0.items k) (ends_are c) ∙
    section_none c.in_ok-starts.starts.items c.in_ok-vec.field-0.items (length c.args.counts.now) k

pub returns-clause-others : goal.returns-clause-others
returns-clause-others c = λ k. ap (λ (xs : List (List Occurrence)). get_or xs k []) c.new.ensures.items
