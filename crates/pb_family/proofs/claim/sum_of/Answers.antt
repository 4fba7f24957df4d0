use Rattle.std.proofs.Common.{◌-◌, ◌∙◌, ◌∷◌, [], arith, drop, get_or, length, refl, take}
use Rattle.std.proofs.lemmas.Result.{IfOk-from_err}
use Rattle.pb_steps.specs.declared.op.PolOp.TheVariants.{Push}
use Rattle.pb_derive.specs.Justifications.{push_and_add}
use Rattle.pb_family.proofs.Gathered.{flat_next, flat_last, added_behind}
use Rattle.pb_family.proofs.claim.sum_of.Goals as goal

pub returns-in_err-ops : goal.returns-in_err-ops
returns-in_err-ops c = IfOk-from_err _ _ c.from_residual.ensures.0

pub loop-id-init : goal.loop-id-init
loop-id-init c = c.in_ok-ops.ensures.items

pub returns-in_err-extend_from_slice : goal.returns-in_err-extend_from_slice
returns-in_err-extend_from_slice c = IfOk-from_err _ _ c.from_residual-in_err-extend_from_slice.ensures.0

pub loop-id-preserved : goal.loop-id-preserved
loop-id-preserved c =
    let more = take (length c.args.ids.now - 1) (drop 1 c.args.ids.now) in
    flat_next push_and_add more c.loop-id.id-index (get_or more c.loop-id.id-index 0) 0 (Push (get_or c.args.ids.now 0 0) ∷ []) c.loop-id.ops.items c.extend_from_slice.new.self.items (omega (arith, c.loop-id-test.true)) refl c.loop-id.invariant c.in_ok-extend_from_slice.ensures.items

pub returns : goal.returns
returns c =
    let more = take (length c.args.ids.now - 1) (drop 1 c.args.ids.now) in
    flat_last push_and_add more c.loop-id.id-index (Push (get_or c.args.ids.now 0 0) ∷ []) c.loop-id.ops.items c.loop-id-test.false c.loop-id.invariant ∙ added_behind c.args.ids.now c.requires.some
