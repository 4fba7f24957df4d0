use Rattle.std.proofs.Common.{◌≡◌, ◌∙◌, ◌≤◌, All, FitsSigned, ap, arith, get_or, length, of_z, pos, rules, subst, sym, to_z}
use mir.Syntax.{w32}
use Rattle.std.proofs.lemmas.Int.{to_z-of_z}
use Rattle.std.proofs.lemmas.List.{take_all}
use Rattle.std.proofs.lemmas.List.Elements.{All-more}
use Rattle.pb_columns.specs.declared.sum.PbcnfSum.{PbcnfSum}
use Rattle.pb_columns.proofs.Standing.{no_sum}
use Rattle.pb_columns.proofs.posing.are_plain.Goals as goal

pub loop-place-preserved : goal.loop-place-preserved
loop-place-preserved c =
    let m : PbcnfSum = get_or c.args.sums.now c.loop-place.place no_sum in
    let fits : FitsSigned w32 m.condition = search rules in
    let kept : to_z w32 (of_z w32 m.condition) ≡ m.condition = to_z-of_z w32 m.condition fits in
    All-more (λ (m : PbcnfSum). m.condition ≡ pos 0) c.args.sums.now c.loop-place.place no_sum c.loop-place-test.true c.loop-place.invariant (sym kept ∙ ap (to_z w32) c.if-sums-place-ne0.false)

pub returns : goal.returns
returns c =
    let done : length c.args.sums.now ≤ c.loop-place.place = omega arith in
    λ _. subst (All (λ (m : PbcnfSum). m.condition ≡ pos 0)) (take_all c.loop-place.place c.args.sums.now done) c.loop-place.invariant
