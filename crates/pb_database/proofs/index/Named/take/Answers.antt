use Rattle.std.proofs.Common.{◌≡◌, ◌<◌, ℕ, List, sym, subst, length, get_or}
use Rattle.std.specs.Prelude.{Contains}
use Rattle.pb_database.proofs.Indexing.{less_one}
use Rattle.pb_database.proofs.index.Named.take.Goals as goal

pub returns-in-Some : goal.returns-in-Some
returns-in-Some c = λ k ne h.
    let ids : List ℕ = c.self.inside.items.items in
    let below : c.in-Some.index < length ids = subst (λ (xs : List ℕ). c.in-Some.index < length xs) c.deref.ensures.value c.in-Some.ensures.below in
    let at : (d : ℕ) → get_or ids c.in-Some.index d ≡ c.args.id = λ d. subst (λ (xs : List ℕ). get_or xs c.in-Some.index d ≡ c.args.id) c.deref.ensures.value (c.in-Some.ensures.at d) in
    subst (λ (xs : List ℕ). Contains xs k) (sym c.fit.ensures)
    (less_one c.args.id c.in-Some.index ids c.remove.new.self.items below at c.remove.ensures.items k ne (subst (λ (xs : List ℕ). Contains xs k) (sym c.self.view_is) h))
