use Rattle.std.proofs.Common.{◌≡◌, ◌∙◌, ℕ, List, [], length, ap, sym, filter}
use Rattle.std.specs.Prelude.{slice_index_or, is_some}
use Rattle.std.specs.Vec.{with_items}
use Rattle.std.proofs.lemmas.List.{with_items_is}
use Rattle.pb_unit.specs.declared.index.Occurrence.{Occurrence}
use Rattle.pb_unit.specs.States.{at_place}
use Rattle.pb_unit.specs.Index.{Lists, size_of, units_at, others_at, that_stand}
use Rattle.pb_unit.proofs.Pushing.{section_as, sectioned_as}
use Rattle.pb_unit.proofs.index.Index.sweep.Goals as goal

ends_are : (c : goal.After-self-3-1) → (with_items c.self.inside.ends c.sweep_sections.new.ends).items ≡ c.sweep_sections.new.ends
ends_are c = with_items_is c.self.inside.ends c.sweep_sections.new.ends (c.sweep_sections.auto.ends ∙ c.deref_mut.ensures.len)

units_are : (c : goal.After-self-3-1) → (with_items c.self.inside.units c.sweep_sections.new.units).items ≡ c.sweep_sections.new.units
units_are c = with_items_is c.self.inside.units c.sweep_sections.new.units (c.sweep_sections.auto.units ∙ c.deref_mut-2.ensures.len)

pub sweep_sections-requires : goal.sweep_sections-requires
sweep_sections-requires c = sectioned_as c.deref.ensures.value c.deref_mut.ensures.value c.deref_mut-2.ensures.value c.self.invariant

pub invariant_of-self : goal.invariant_of-self
invariant_of-self c = sectioned_as (sym c.deref.ensures.value) (ends_are c) (units_are c) c.sweep_sections.ensures.sections

pub returns-clause-size : goal.returns-clause-size
returns-clause-size c =
    ap (λ (xs : List ℕ). length xs) (ends_are c) ∙
    (c.sweep_sections.auto.ends ∙ (ap (λ (xs : List ℕ). length xs) c.deref_mut.ensures.value ∙ ap size_of c.self.view_is))

pub returns-clause-units : goal.returns-clause-units
returns-clause-units c = λ k.
    section_as (sym c.deref.ensures.value) (ends_are c) (units_are c) k ∙
    (c.sweep_sections.ensures.swept k ∙
    (ap (that_stand c.args.places.now) (section_as c.deref.ensures.value c.deref_mut.ensures.value c.deref_mut-2.ensures.value k) ∙
    ap (λ (x : Lists). that_stand c.args.places.now (units_at x k)) c.self.view_is))

pub returns-clause-others : goal.returns-clause-others
returns-clause-others c = λ k.
    let stands = λ (o : Occurrence). is_some (at_place c.args.places.now o.place) in
    ap (λ (xs : List (List Occurrence)). slice_index_or xs k []) (with_items_is c.self.inside.lists c.sweep_lists.new.lists (c.sweep_lists.auto.lists ∙ c.deref_mut-3.ensures.len)) ∙
    (c.sweep_lists.ensures k ∙
    (ap (λ (xs : List (List Occurrence)). filter stands (slice_index_or xs k [])) c.deref_mut-3.ensures.value ∙
    ap (λ (x : Lists). filter stands (others_at x k)) c.self.view_is))
