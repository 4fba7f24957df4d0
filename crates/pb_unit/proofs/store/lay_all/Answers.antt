use Rattle.std.proofs.Common.{◌≡◌, ◌≤◌, ◌+◌, ◌⊎◌, ◌++◌, ◌∷◌, [], ℕ, List, Option, None, length, take, get_or, subst, sym, arith}
use Rattle.std.specs.Prelude.{Contains}
use Rattle.std.proofs.lemmas.List.{take_more, take_all, length-take-le}
use Rattle.pb_norm.specs.Constraints.{Constraint}
use Rattle.pb_unit.specs.declared.kept.Counters.{Counters}
use Rattle.pb_unit.specs.inner.Filling.{AreLaid}
use Rattle.pb_unit.proofs.Laying.{laid_none, laid_more}
use Rattle.pb_unit.proofs.store.lay_all.Goals as goal

pub loop-place-init : goal.loop-place-init
loop-place-init c = subst (λ (ks : List Counters). AreLaid [] ks c.args.tight.now.items) (sym c.requires) (laid_none c.args.tight.now.items)

pub loop-place-preserved : goal.loop-place-preserved
loop-place-preserved c =
    let ps : List (Option Constraint) = c.args.places.now in
    let i : ℕ = c.loop-place.place in
    let count : length (take i ps) ≡ i = length-take-le i ps (omega (arith, c.loop-place-test.true, c.len-place-end.ensures)) in
    let here : (c.kept.result.alert ≤ c.kept.result.room) ⊎ Contains c.lay.new.tight.items (length (take i ps)) =
    subst (λ (n : ℕ). (c.kept.result.alert ≤ c.kept.result.room) ⊎ Contains c.lay.new.tight.items n) (sym count) c.if-not-lay.ensures.listed in
    subst (λ (ks : List Counters). AreLaid (take (i + 1) ps) ks c.lay.new.tight.items) (sym c.if-not-lay.ensures.kept)
    (subst (λ (qs : List (Option Constraint)). AreLaid qs (c.loop-place.kept.items ++ c.kept.result ∷ []) c.lay.new.tight.items) (sym (take_more ps i None (omega (arith, c.loop-place-test.true, c.len-place-end.ensures))))
    (laid_more (take i ps) c.loop-place.kept.items c.loop-place.tight.items c.lay.new.tight.items (get_or ps i None) c.kept.result c.loop-place.invariant c.kept.ensures here c.if-not-lay.ensures.more))

pub returns : goal.returns
returns c = subst (λ (qs : List (Option Constraint)). AreLaid qs c.loop-place.kept.items c.loop-place.tight.items) (take_all c.loop-place.place c.args.places.now (omega (arith, c.loop-place-test.false, c.len-place-end.ensures))) c.loop-place.invariant
