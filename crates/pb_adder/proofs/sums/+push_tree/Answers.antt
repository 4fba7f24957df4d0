use Rattle.std.proofs.Common.{◌≡◌, ◌<◌, ◌+◌, ◌-◌, ◌*◌, ◌^◌, ◌%◌, ◌++◌, ◌∙◌, ℕ, List, [], ◌∷◌, length, suc, ap, subst, arith}
use Rattle.std.specs.Prelude.{IfOk}
use Rattle.std.proofs.Math.Nat.{two-pow-succ}
use Rattle.std.proofs.lemmas.List.{length-drop}
use Rattle.std.proofs.lemmas.Result.{IfOk-equal}
use Rattle.pb_steps.specs.declared.op.PolOp.{PolOp}
use Rattle.pb_steps.specs.declared.op.PolOp.TheVariants.{Add}
use Rattle.pb_adder.specs.AdderSteps.{tree_ops}
use Rattle.pb_adder.proofs.LevelSteps.{grown}
use Rattle.pb_adder.proofs.TreeSplit.{half_is, tree_one, tree_narrow, tree_halves, behind}
use Rattle.pb_adder.proofs.sums.+push_tree.Goals as goal

pub returns-then-height-eq0 : goal.returns-then-height-eq0
returns-then-height-eq0 t c =
    subst (λ (ops : List PolOp). IfOk c.push_line.result (λ x. c.push_line.new.ops.items ≡ c.args.ops.now.items ++ ops)) (tree_one c.args.height c.args.of.id c.args.of.levels.now c.if-height-eq0.true c.requires.some) c.push_line.ensures

pub returns-then-of-half : goal.returns-then-of-half
returns-then-of-half t c =
    let n = c.args.height in
    let half = half_is (n - 1) (omega (arith, c.requires.high)) in
    subst (λ (ops : List PolOp). IfOk c.push_tree.result (λ x. c.push_tree.new.ops.items ≡ c.args.ops.now.items ++ ops))
    (tree_narrow (n - 1) n c.args.of.id c.args.of.levels.now (omega (arith, c.if-height-eq0.false)) (omega (arith, c.if-of-half.true, half))) c.push_tree.ensures

pub push_tree-requires-3 : goal.push_tree-requires-3
push_tree-requires-3 t c =
    let n = c.args.height in
    let levels = c.args.of.levels.now in
    let rights = c.split_at.result.1.levels.now in
    let half = half_is (n - 1) (omega (arith, c.requires.high)) in
    let k = 1 * 2 ^ (n - 1) % 18446744073709551616 in
    let two : 2 ^ (n - 1) + 2 ^ (n - 1) ≡ 2 ^ n = twice n (omega (arith, c.if-height-eq0.false)) in
    let more : k < length levels = omega (arith, c.if-of-half.false) in
    let size : length rights ≡ length levels - k = omega (arith, ap length c.split_at.ensures.back, length-drop k levels) in
    (omega (arith, c.decreases, c.if-height-eq0.false), (omega (arith, size, more), (omega (arith, c.requires.high), omega (arith, size, more, half, two, c.requires.few))))
  where
    twice : (n : ℕ) → 0 < n → 2 ^ (n - 1) + 2 ^ (n - 1) ≡ 2 ^ n
    twice n some = omega (arith, two-pow-succ (n - 1), ap (λ (j : ℕ). 2 ^ j) (let e : suc (n - 1) ≡ n = omega (arith, some) in e))

pub returns : goal.returns
returns t c =
    let n = c.args.height in
    let id = c.args.of.id in
    let lefts = c.split_at.result.0 in
    let rights = c.split_at.result.1 in
    let k = 1 * 2 ^ (n - 1) % 18446744073709551616 in
    let half = half_is (n - 1) (omega (arith, c.requires.high)) in
    let us = tree_ops (n - 1) lefts.id lefts.levels.now in
    let vs = tree_ops (n - 1) rights.id rights.levels.now in
    let old = c.args.ops.now.items in
    IfOk-equal c.extend_from_slice.result _ _ _ (grown c.extend_from_slice.result _ _ _ c.extend_from_slice.ensures.items)
    (ap (λ (ops : List PolOp). ops ++ Add ∷ []) (c.in_ok-push_tree-2.ensures ∙ ap (λ (ops : List PolOp). ops ++ vs) c.in_ok-push_tree.ensures)
    ∙ behind old us vs
    ∙ ap (λ (ops : List PolOp). old ++ ops)
    ((λ i. tree_ops (n - 1) (c.split_at.ensures.id i) lefts.levels.now ++ (tree_ops (n - 1) (c.split_at.ensures.later i) rights.levels.now ++ Add ∷ []))
    ∙ tree_halves (n - 1) n id k c.args.of.levels.now lefts.levels.now rights.levels.now (omega (arith, c.if-height-eq0.false)) half (omega (arith, c.if-of-half.false)) c.split_at.ensures.front c.split_at.ensures.back))
