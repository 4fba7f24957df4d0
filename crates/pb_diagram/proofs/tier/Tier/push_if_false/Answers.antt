use Rattle.std.proofs.Common.{◌-◌, ◌∙◌, ◌++◌, [], ◌∷◌, ℕ, List, pos, ap, arith, length}
use Rattle.std.proofs.lemmas.Result.{on_ok_weaker}
use Rattle.pb_steps.specs.declared.op.PolOp.{PolOp}
use Rattle.pb_steps.specs.declared.op.PolOp.TheVariants.{Div}
use Rattle.pb_diagram.specs.Guards.{and_literal, off_of, off_sums, place_sums, reach_by}
use Rattle.pb_diagram.proofs.GuardedOps.{five_pushed, places_same}
use Rattle.pb_diagram.proofs.tier.Tier.push_if_false.Goals as goal

pub returns : goal.returns
returns c =
    let t = c.args.self.now in
    let start = c.args.ops.now.items in
    let goal_ops = c.args.goal.now in
    let last : ℕ = length t.next.now - 1 in
    let sums = off_sums t.after t.counts 0 t.nodes.now in
    let end : List PolOp = and_literal t.lit.now ++ Div (pos c.args.widest) ∷ [] in
    let less : ℕ → ℕ = λ j. reach_by off_of t.nodes.now j - 0 in
    on_ok_weaker c.push_ops-2.result
    (λ h.
    five_pushed start goal_ops sums (place_sums less t.order t.after last 0 t.next.now) (and_literal t.lit.now) (Div (pos c.args.widest) ∷ []) c.push_ops.new.ops.items c.push_off_sums.new.ops.items c.push_places.new.ops.items c.push_literal.new.ops.items c.push_ops-2.new.ops.items
    c.in_ok-push_ops.ensures c.in_ok-push_off_sums.ensures c.in_ok-push_places.ensures c.in_ok-push_literal.ensures (h ∙ ap (λ (op : PolOp). c.push_literal.new.ops.items ++ op ∷ []) c.over.ensures)
    ∙ ap (λ (os : List PolOp). start ++ (goal_ops ++ (sums ++ (os ++ end)))) (places_same less (reach_by off_of t.nodes.now) t.order t.after last 0 t.next.now (λ k. omega arith)))
    c.push_ops-2.ensures
