use Rattle.std.proofs.Common.{rules, ◌∙◌, ◌++◌, ◌-◌, List, ap, sym, append_assoc}
use Rattle.pb_base.specs.declared.literal.Lit.{Lit}
use Rattle.pb_unit.specs.Reaching.{held_to, value_at}
use Rattle.pb_unit.proofs.HeldLists.{held_to-more}
use Rattle.pb_unit.proofs.reaching.push_held.Goals as goal

pub loop-index-init : goal.loop-index-init
loop-index-init c = search rules

pub loop-index-preserved : goal.loop-index-preserved
loop-index-preserved c =
    let held = c.args.held.now.lits in
    let i = c.loop-index.index in
    let before = c.args.out.now.items in
    c.in_ok-push_value.ensures
    ∙ ap (λ (ls : List Lit). ls ++ value_at held i) c.loop-index.invariant
    ∙ append_assoc before (held_to held (i - 1)) (value_at held i)
    ∙ ap (λ (ls : List Lit). before ++ ls) (sym (held_to-more held i c.loop-index.auto.index))
