use Rattle.std.proofs.Common.{◌≡◌, ◌<◌, ◌∙◌, ◌++◌, ◌∷◌, [], ℕ, List, length, ap, sym, subst, refl}
use Rattle.std.specs.Vec.{with_items}
use Rattle.std.proofs.lemmas.Bool.{OnTrue_at, OnTrue_from, OnFalse_at, OnFalse_from}
use Rattle.std.proofs.lemmas.List.{with_items_is}
use Rattle.pb_unit.specs.Index.{Lists, size_of, section, IsPushed, AreSame}
use Rattle.pb_unit.proofs.Pushing.{section_as, sectioned_as, pushed_unit, pushed_other, same_index}
use Rattle.pb_unit.proofs.index.Index.push.Goals as goal

pub returns-then-put_unit-clause-pushed : goal.returns-then-put_unit-clause-pushed
returns-then-put_unit-clause-pushed c =
    let e : (with_items c.self.inside.ends c.put_unit.new.ends).items ≡ c.put_unit.new.ends = with_items_is c.self.inside.ends c.put_unit.new.ends (c.put_unit.auto.ends ∙ c.deref_mut.ensures.len) in
    let u : (with_items c.self.inside.units c.put_unit.new.units).items ≡ c.put_unit.new.units = with_items_is c.self.inside.units c.put_unit.new.units (c.put_unit.auto.units ∙ c.deref_mut-2.ensures.len) in
    let x : Lists = record { starts = c.self.inside.starts.items; ends = c.self.inside.ends.items; units = c.self.inside.units.items; others = c.self.inside.lists.items } in
    let y : Lists = record { starts = c.self.inside.starts.items; ends = (with_items c.self.inside.ends c.put_unit.new.ends).items; units = (with_items c.self.inside.units c.put_unit.new.units).items; others = c.self.inside.lists.items } in
    let old : (k : ℕ) → section c.deref.result.now c.deref_mut.result.now c.deref_mut-2.result.now k ≡ section c.self.inside.starts.items c.self.inside.ends.items c.self.inside.units.items k = section_as c.deref.ensures.value c.deref_mut.ensures.value c.deref_mut-2.ensures.value in
    let new : (k : ℕ) → section c.deref.result.now c.put_unit.new.ends c.put_unit.new.units k ≡ section c.self.inside.starts.items y.ends y.units k = section_as c.deref.ensures.value (sym e) (sym u) in
    subst (λ (z : Lists). IsPushed c.args.lit.now (record { place = c.args.place; coef = c.args.coef }) z y) c.self.view_is
    (pushed_unit x y c.args.lit.now c.code-number.result c.args.place c.args.coef c.code-number.ensures
    (ap (λ (xs : List ℕ). length xs) e ∙ (c.put_unit.auto.ends ∙ ap (λ (xs : List ℕ). length xs) c.deref_mut.ensures.value)) c.if-put_unit.ensures.one
    (sym (new c.code-number.result) ∙ (c.if-put_unit.ensures.here ∙ ap (λ (xs : List ℕ). xs ++ c.args.place ∷ []) (old c.code-number.result)))
    (λ k ne. sym (new k) ∙ (c.put_unit.ensures.others k ne ∙ old k)) (λ k. refl))

abbrev x : goal.After-put_other → Lists
x c = record { starts = c.self.inside.starts.items; ends = c.self.inside.ends.items; units = c.self.inside.units.items; others = c.self.inside.lists.items }

abbrev y : goal.After-put_other → Lists
y c = record { starts = c.self.inside.starts.items; ends = (with_items c.self.inside.ends c.put_unit.new.ends).items; units = (with_items c.self.inside.units c.put_unit.new.units).items; others = c.put_other.new.lists.items }

ends_same : (c : goal.After-put_other) → (y c).ends ≡ (x c).ends
ends_same c = with_items_is c.self.inside.ends c.put_unit.new.ends (c.put_unit.auto.ends ∙ c.deref_mut.ensures.len) ∙ (c.if-put_unit.ensures.refused.0 ∙ c.deref_mut.ensures.value)

units_same : (c : goal.After-put_other) (k : ℕ) → section (y c).starts (y c).ends (y c).units k ≡ section (x c).starts (x c).ends (x c).units k
units_same c = section_as refl (ends_same c) (with_items_is c.self.inside.units c.put_unit.new.units (c.put_unit.auto.units ∙ c.deref_mut-2.ensures.len) ∙ (c.if-put_unit.ensures.refused.1 ∙ c.deref_mut-2.ensures.value))

pub returns-clause-pushed : goal.returns-clause-pushed
returns-clause-pushed c = OnTrue_from c.put_other.result _ (λ yes.
    subst (λ (z : Lists). IsPushed c.args.lit.now (record { place = c.args.place; coef = c.args.coef }) z (y c)) c.self.view_is
    (pushed_other (x c) (y c) c.args.lit.now c.code-number.result (record { place = c.args.place; coef = c.args.coef }) c.code-number.ensures
    (ap (λ (xs : List ℕ). length xs) (ends_same c)) (units_same c) (OnTrue_at yes c.put_other.ensures.here) c.put_other.ensures.others))

pub returns-clause-refused : goal.returns-clause-refused
returns-clause-refused c = OnFalse_from c.put_other.result _ (λ no.
    subst (λ (z : Lists). AreSame z (y c)) c.self.view_is
    (same_index (x c) (y c) (ap (λ (xs : List ℕ). length xs) (ends_same c)) (units_same c) (OnFalse_at no c.put_other.ensures.refused)))

pub put_unit-requires-clause-sections : goal.put_unit-requires-clause-sections
put_unit-requires-clause-sections c = sectioned_as c.deref.ensures.value c.deref_mut.ensures.value c.deref_mut-2.ensures.value c.self.invariant

pub put_unit-requires-clause-known : goal.put_unit-requires-clause-known
put_unit-requires-clause-known c =
    subst (λ (m : ℕ). c.code-number.result < m) (sym (ap (λ (xs : List ℕ). length xs) c.deref_mut.ensures.value ∙ ap size_of c.self.view_is))
    (subst (λ (k : ℕ). k < size_of c.args.self.now) (sym c.code-number.ensures) c.requires)

pub invariant_of-self : goal.invariant_of-self
invariant_of-self c = sectioned_as (sym c.deref.ensures.value)
    (with_items_is c.self.inside.ends c.put_unit.new.ends (c.put_unit.auto.ends ∙ c.deref_mut.ensures.len))
    (with_items_is c.self.inside.units c.put_unit.new.units (c.put_unit.auto.units ∙ c.deref_mut-2.ensures.len)) c.put_unit.ensures.sections

pub invariant_of-self-2 : goal.invariant_of-self-2
invariant_of-self-2 c = sectioned_as (sym c.deref.ensures.value)
    (with_items_is c.self.inside.ends c.put_unit.new.ends (c.put_unit.auto.ends ∙ c.deref_mut.ensures.len))
    (with_items_is c.self.inside.units c.put_unit.new.units (c.put_unit.auto.units ∙ c.deref_mut-2.ensures.len)) c.put_unit.ensures.sections
