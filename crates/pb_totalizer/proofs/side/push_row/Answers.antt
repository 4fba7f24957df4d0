use Rattle.std.proofs.Common.{◌≡◌, ◌∙◌, ◌++◌, [], ◌∷◌, ℕ, suc, List, map, append_assoc, append-nil, ap, sym, arith}
use Rattle.std.specs.List.{range_with_len}
use Rattle.std.proofs.lemmas.Result.{IfOk-from_err}
use Rattle.pb_base.specs.declared.literal.Term.{Term}
use Rattle.pb_family.specs.Fresh.{fresh_at}
use Rattle.pb_totalizer.specs.laws.UnitTerms.{unit_term}
use Rattle.pb_totalizer.proofs.SidesOf.{row_more}
use Rattle.pb_totalizer.proofs.side.push_row.Goals as goal

pub loop-place-init : goal.loop-place-init
loop-place-init c = sym (append-nil c.args.terms.now.items)

pub returns-in_err-push : goal.returns-in_err-push
returns-in_err-push c = IfOk-from_err _ _ c.from_residual.ensures.0

pub loop-place-preserved : goal.loop-place-preserved
loop-place-preserved c =
    let first = c.args.row.now.first in
    let k : ℕ = c.loop-place.place in
    let start = c.args.terms.now.items in
    c.in_ok-push.ensures.items ∙ ap (λ (ts : List Term). ts ++ unit_term c.bit.result ∷ []) c.loop-place.invariant
    ∙ append_assoc start (map unit_term (map (fresh_at first) (range_with_len 0 k))) (unit_term c.bit.result ∷ [])
    ∙ ap (λ (ts : List Term). start ++ ts) (row_more first k c.bit.result c.bit.ensures)

pub returns : goal.returns
returns c =
    let first = c.args.row.now.first in
    c.loop-place.invariant
    ∙ ap (λ (n : ℕ). c.args.terms.now.items ++ map unit_term (map (fresh_at first) (range_with_len 0 n))) (let e : c.loop-place.place ≡ suc c.args.row.now.last = omega (arith, c.loop-place.auto.place-end, c.loop-place-test.false) in e)
