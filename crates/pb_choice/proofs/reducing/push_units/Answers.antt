use Rattle.std.proofs.Common.{◌≡◌, ◌<◌, ◌+◌, ◌++◌, ℕ, List, [], ◌∷◌, length, map, take, get_or, append_assoc, ap, sym, ◌∙◌}
use Rattle.std.proofs.lemmas.List.{map-append, take_more}
use Rattle.pb_base.specs.declared.literal.Lit.{Lit}
use Rattle.pb_steps.specs.declared.op.PolOp.{PolOp}
use Rattle.pb_choice.specs.Reducing.{weaken_unit}
use Rattle.pb_choice.proofs.reducing.push_units.Goals as goal

-- one more
units_more : (front : List PolOp) (us : List Lit) (i : ℕ) (u : Lit) → i < length us → u ≡ get_or us i u
    → (front ++ map weaken_unit (take i us)) ++ weaken_unit u ∷ [] ≡ front ++ map weaken_unit (take (i + 1) us)
units_more front us i u lt is =
    let more : take (i + 1) us ≡ take i us ++ u ∷ [] = take_more us i u lt ∙ ap (λ (l : Lit). take i us ++ l ∷ []) (sym is) in
    append_assoc front (map weaken_unit (take i us)) (weaken_unit u ∷ [])
    ∙ ap (λ (ops : List PolOp). front ++ ops) (sym (map-append weaken_unit (take i us) (u ∷ [])) ∙ ap (map weaken_unit) (sym more))

pub loop-unit-preserved : goal.loop-unit-preserved
loop-unit-preserved c =
    c.in_ok-push.ensures.items
    ∙ ap (λ (ops : List PolOp). ops ++ weaken_unit c.unit-item.result ∷ []) c.loop-unit.invariant
    ∙ units_more c.args.ops.now.items c.args.units.now c.loop-unit.unit-index c.unit-item.result c.loop-unit-test.true c.unit-item.is
