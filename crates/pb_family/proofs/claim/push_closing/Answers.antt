use Rattle.std.proofs.Common.{◌∙◌, ◌++◌, ◌∷◌, [], List, ap, append-nil, arith, pos, refl, sym}
use Rattle.std.proofs.lemmas.Result.{IfOk-from_err}
use Rattle.pb_base.specs.declared.literal.Term.{Term}
use Rattle.pb_steps.specs.declared.op.PolOp.{PolOp}
use Rattle.pb_steps.specs.declared.op.PolOp.TheVariants.{Div, Weaken}
use Rattle.pb_derive.specs.Justifications.{widest}
use Rattle.pb_family.proofs.Fronts.{appended_all}
use Rattle.pb_family.proofs.Gathered.{map_next, map_last, vars_mapped}
use Rattle.pb_family.proofs.claim.push_closing.Goals as goal

pub loop-term-init : goal.loop-term-init
loop-term-init c = sym (append-nil c.args.ops.now.items)

pub returns-in_err-push : goal.returns-in_err-push
returns-in_err-push c = IfOk-from_err _ _ c.from_residual.ensures.0

pub loop-term-preserved : goal.loop-term-preserved
loop-term-preserved c =
    map_next (λ (t : Term). Weaken t.lit.var) c.args.weakened.now c.loop-term.term-index c.term-item.result c.args.ops.now.items c.loop-term.ops.items c.push.new.self.items (Weaken c.term-item.result.lit.var) (omega arith) c.term-item.is
    c.loop-term.invariant c.in_ok-push.ensures.items refl

pub returns : goal.returns
returns c =
    let start = c.args.ops.now.items in
    let all = map_last (λ (t : Term). Weaken t.lit.var) c.args.weakened.now c.loop-term.term-index start c.loop-term.ops.items (omega arith) c.loop-term.invariant
    ∙ ap (λ (os : List PolOp). start ++ os) (vars_mapped Weaken c.args.weakened.now) in
    appended_all c.extend_from_slice.result start _ (Div (pos widest) ∷ []) c.loop-term.ops.items c.extend_from_slice.new.self.items all c.extend_from_slice.ensures.items
