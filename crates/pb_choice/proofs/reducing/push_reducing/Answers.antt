use Rattle.std.proofs.Common.{rules, FitsSigned, ◌≡◌, ◌++◌, pos, List, [], ◌∷◌, map, append_assoc, ap, ◌∙◌}
use mir.Syntax.{w128}
use Rattle.std.proofs.lemmas.Int.{to_z-of_z}
use Rattle.pb_base.specs.declared.literal.Lit.{Lit}
use Rattle.pb_steps.specs.declared.op.PolOp.{PolOp}
use Rattle.pb_steps.specs.declared.op.PolOp.TheVariants.{Push, Div, Saturate}
use Rattle.pb_choice.specs.Reducing.{divisor, weaken_unit}
use Rattle.pb_choice.proofs.reducing.push_reducing.Goals as goal

-- the operations one after another
one_list : (front middle : List PolOp) (a b d : PolOp) → (((front ++ a ∷ []) ++ middle) ++ b ∷ []) ++ d ∷ [] ≡ front ++ a ∷ (middle ++ b ∷ d ∷ [])
one_list front middle a b d = simp append_assoc

pub returns : goal.returns
returns c =
    let first : PolOp = Push c.args.origin.now.id in
    let weakened = map weaken_unit c.args.origin.now.units.now in
    let last : PolOp = Div (pos (divisor c.args.origin.now.constraint.now)) in
    let fits : FitsSigned w128 c.divisor.result = search rules in
    let factor = to_z-of_z w128 c.divisor.result fits ∙ c.divisor.ensures in
    c.in_ok-push-3.ensures.items
    ∙ (λ i. c.in_ok-push-2.ensures.items i ++ Div (factor i) ∷ [])
    ∙ ap (λ (ops : List PolOp). (ops ++ Saturate ∷ []) ++ last ∷ []) (c.in_ok-push_units.ensures ∙ ap (λ (us : List Lit). c.push.new.self.items ++ map weaken_unit us) c.as_slice.ensures
    ∙ ap (λ (ops : List PolOp). ops ++ weakened) c.in_ok-push.ensures.items)
    ∙ one_list c.args.ops.now.items weakened first Saturate last
