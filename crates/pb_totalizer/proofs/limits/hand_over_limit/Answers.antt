use Rattle.std.proofs.Common.{◌∷◌, [], List, ap, arith}
use Rattle.pb_base.specs.declared.literal.Lit.{Lit}
use Rattle.pb_family.proofs.Emission.{hands_same}
use Rattle.pb_totalizer.proofs.WrittenClauses.{only_right, only_left, left_and_right}
use Rattle.pb_totalizer.proofs.limits.hand_over_limit.Goals as goal

pub returns-then-i-count : goal.returns-then-i-count
returns-then-i-count g c =
    hands_same c.clause.result _ _ _ _
    (ap (λ (l : List Lit). l ∷ []) (only_right c.args.node.now c.args.i c.args.j _ c.not_at-limit.ensures _ (omega arith) (omega arith) c.at.ensures)) c.clause.ensures

pub returns-then-j-count : goal.returns-then-j-count
returns-then-j-count g c =
    hands_same c.clause-then-j-count.result _ _ _ _
    (ap (λ (l : List Lit). l ∷ []) (only_left c.args.node.now c.args.i c.args.j _ c.not_at-limit.ensures _ (omega arith) (omega arith) c.at-then-j-count.ensures)) c.clause-then-j-count.ensures

pub returns-else-j-count : goal.returns-else-j-count
returns-else-j-count g c =
    hands_same c.clause-else-j-count.result _ _ _ _
    (ap (λ (l : List Lit). l ∷ [])
    (left_and_right c.args.node.now c.args.i c.args.j _ c.not_at-limit.ensures _ _ (omega arith) (omega arith) c.at-else-j-count.ensures c.at-else-j-count-2.ensures)) c.clause-else-j-count.ensures
