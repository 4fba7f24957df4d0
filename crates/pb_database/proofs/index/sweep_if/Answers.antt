use Rattle.std.proofs.Common.{◌≡◌, ◌∙◌, ℕ, List, length, ap, sym, subst}
use Rattle.std.specs.Prelude.{filter, is_some}
use Rattle.std.specs.Vec.{with_items}
use Rattle.std.proofs.lemmas.List.{with_items_is}
use Rattle.pb_database.specs.inner.Slots.{slot_of}
use Rattle.pb_database.specs.inner.Indexed.{ids_at, IsIndexed}
use Rattle.pb_database.proofs.Indexing.{indexed-swept}
use Rattle.pb_database.proofs.index.sweep_if.Goals as goal

pub returns-then-due : goal.returns-then-due
returns-then-due c = λ original indexed.
    let is : (with_items c.args.lists.now c.sweep.new.lists).items ≡ c.sweep.new.lists = with_items_is c.args.lists.now c.sweep.new.lists (c.sweep.auto.lists ∙ c.deref_mut.ensures.len) in
    subst (λ (ls : List (List ℕ)). IsIndexed original c.args.slots.now ls) (sym is)
    (indexed-swept original c.args.slots.now c.args.lists.now.items c.sweep.new.lists
    (c.sweep.auto.lists ∙ ap (λ (ls : List (List ℕ)). length ls) c.deref_mut.ensures.value)
    (λ v. c.sweep.ensures v ∙ ap (λ (ls : List (List ℕ)). filter (λ (id : ℕ). is_some (slot_of c.args.slots.now id).constraint) (ids_at ls v)) c.deref_mut.ensures.value)
    indexed)
