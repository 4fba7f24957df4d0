use Rattle.std.proofs.Common.{◌≡◌, ◌-◌, ◌∙◌, ◌++◌, [], ◌∷◌, ℕ, List, pos, ap, length, subst}
use Rattle.std.proofs.lemmas.Result.{on_ok_weaker}
use Rattle.pb_steps.specs.declared.op.PolOp.{PolOp}
use Rattle.pb_steps.specs.declared.op.PolOp.TheVariants.{Div}
use Rattle.pb_diagram.specs.Guards.{on_of, on_sums, place_sums, reach_by}
use Rattle.pb_diagram.proofs.GuardedOps.{four_pushed}
use Rattle.pb_diagram.proofs.tier.Tier.push_if_true.Goals as goal

pub returns : goal.returns
returns c =
    let t = c.args.self.now in
    let made = c.push_ops-2.new.ops.items in
    let start = c.args.ops.now.items in
    let goal_ops = c.args.goal.now in
    let end : List PolOp = Div (pos c.args.widest) ∷ [] in
    let last : ℕ = length t.next.now - 1 in
    let sums = λ (own : ℕ). on_sums t.lit.now t.order own t.var t.counts 0 t.nodes.now in
    let places = λ (own : ℕ). place_sums (λ j. reach_by on_of t.nodes.now j - own) t.order t.after last 0 t.next.now in
    on_ok_weaker c.push_ops-2.result
    (λ h.
    subst (λ (own : ℕ). made ≡ start ++ (goal_ops ++ (sums own ++ (places own ++ end)))) c.own-own.ensures
    (four_pushed start goal_ops (sums c.own-own.result) (places c.own-own.result) end c.push_ops.new.ops.items c.push_on_sums.new.ops.items c.push_places.new.ops.items made c.in_ok-push_ops.ensures c.in_ok-push_on_sums.ensures c.in_ok-push_places.ensures (h ∙ ap (λ (op : PolOp). c.push_places.new.ops.items ++ op ∷ []) c.over.ensures)))
    c.push_ops-2.ensures
