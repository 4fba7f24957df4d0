use Rattle.std.proofs.Common.{◌≡◌, ◌+◌, ◌-◌, ◌++◌, ℕ, suc, List, [], ◌∷◌, ap, sym, ◌∙◌, arith, append-nil, append_assoc}
use Rattle.std.specs.List.{range_with_len}
use Rattle.std.proofs.lemmas.Result.{IfOk-from_err}
use Rattle.pb_family.proofs.Sequence.{range_more}
use Rattle.pb_family.proofs.deletion.push_ids.Goals as goal

pub loop-next-init : goal.loop-next-init
loop-next-init c = sym (append-nil c.args.ids.now.items) ∙ ap (λ (n : ℕ). c.args.ids.now.items ++ range_with_len c.args.from n) (let e : 0 ≡ c.args.from - c.args.from = omega arith in e)

pub loop-next-preserved : goal.loop-next-preserved
loop-next-preserved c =
    let from = c.args.from in
    let next = c.loop-next.next in
    let old = c.args.ids.now.items in
    c.in_ok-push.ensures.items ∙ ap (λ (is : List ℕ). is ++ next ∷ []) c.loop-next.invariant ∙ append_assoc old (range_with_len from (next - from)) (next ∷ [])
    ∙ ap (λ (is : List ℕ). old ++ is) (range_more from (next - from) next (omega arith) ∙ ap (range_with_len from) (let e : suc (next - from) ≡ next + 1 - from = omega arith in e))

pub returns-in_err-push : goal.returns-in_err-push
returns-in_err-push c = IfOk-from_err _ _ c.from_residual.ensures.0

pub returns : goal.returns
returns c =
    c.loop-next.invariant ∙ ap (λ (n : ℕ). c.args.ids.now.items ++ range_with_len c.args.from n) (let e : c.loop-next.next - c.args.from ≡ c.args.count = omega (arith, c.loop-next.auto.next-end, c.loop-next-test.false) in e)
