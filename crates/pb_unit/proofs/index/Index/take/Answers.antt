use Rattle.std.proofs.Common.{◌≡◌, ◌∙◌, [], List, get_or, refl, ap, sym, subst}
use Rattle.std.specs.Prelude.{IfSome}
use Rattle.std.specs.Vec.{with_items}
use Rattle.std.proofs.lemmas.List.{with_items_is}
use Rattle.pb_unit.specs.declared.index.Occurrence.{Occurrence}
use Rattle.pb_unit.specs.Index.{Lists, IsPushed, HasOneMore}
use Rattle.pb_unit.proofs.Unlisting.{taken_if}
use Rattle.pb_unit.proofs.index.Index.take.Goals as goal

pub returns-clause-taken : goal.returns-clause-taken
returns-clause-taken c =
    let made : List (List Occurrence) → Lists = λ os. record { starts = c.self.inside.starts.items; ends = c.self.inside.ends.items; units = c.self.inside.units.items; others = os } in
    let is : (with_items c.self.inside.lists c.take_other.new.lists).items ≡ c.take_other.new.lists = with_items_is c.self.inside.lists c.take_other.new.lists (c.take_other.auto.lists ∙ c.deref_mut.ensures.len) in
    subst (λ (os : List (List Occurrence)). IfSome c.take_other.result (λ (o : Occurrence). IsPushed c.args.lit.now o (made os) c.args.self.now)) (sym is)
    (subst (λ (z : Lists). IfSome c.take_other.result (λ (o : Occurrence). IsPushed c.args.lit.now o (made c.take_other.new.lists) z)) c.self.view_is
    (taken_if (made c.self.inside.lists.items) (made c.take_other.new.lists) c.args.lit.now c.code.result c.take_other.result c.code.ensures refl (λ k. refl)
    (subst (λ (os : List (List Occurrence)). IfSome c.take_other.result (λ (o : Occurrence). HasOneMore o (get_or c.take_other.new.lists c.code.result []) (get_or os c.code.result []))) c.deref_mut.ensures.value c.take_other.ensures.here)
    (λ k ne. c.take_other.ensures.others k ne ∙ ap (λ (os : List (List Occurrence)). get_or os k []) c.deref_mut.ensures.value)))
