use Rattle.std.proofs.Common.{◌∷◌, [], List, ap, arith}
use Rattle.pb_base.specs.declared.literal.Lit.{Lit}
use Rattle.pb_family.proofs.Emission.{hands_same}
use Rattle.pb_totalizer.proofs.WrittenClauses.{sum_right, sum_left, sum_both}
use Rattle.pb_totalizer.proofs.emission.hand_over.Goals as goal

pub returns-then-i-eq0 : goal.returns-then-i-eq0
returns-then-i-eq0 g c =
    hands_same c.clause.result _ _ _ _
    (ap (λ (l : List Lit). l ∷ []) (sum_right c.args.node.now c.args.i c.args.j _ c.at-sum.ensures _ (omega arith) (omega arith) c.not_at.ensures)) c.clause.ensures

pub returns-then-j-eq0 : goal.returns-then-j-eq0
returns-then-j-eq0 g c =
    hands_same c.clause-then-j-eq0.result _ _ _ _
    (ap (λ (l : List Lit). l ∷ []) (sum_left c.args.node.now c.args.i c.args.j _ c.at-sum.ensures _ (omega arith) (omega arith) c.not_at-then-j-eq0.ensures)) c.clause-then-j-eq0.ensures

pub returns-else-j-eq0 : goal.returns-else-j-eq0
returns-else-j-eq0 g c =
    hands_same c.clause-else-j-eq0.result _ _ _ _
    (ap (λ (l : List Lit). l ∷ []) (sum_both c.args.node.now c.args.i c.args.j _ c.at-sum.ensures _ _ (omega arith) (omega arith) c.not_at-else-j-eq0.ensures c.not_at-else-j-eq0-2.ensures)) c.clause-else-j-eq0.ensures
