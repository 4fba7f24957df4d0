use Rattle.std.proofs.Common.{◌≡◌, ◌≤◌, FitsSigned, arith, get_or, length, of_z, refl, rules, subst, sym, to_z}
use mir.Syntax.{w32}
use Rattle.std.specs.Prelude.{All}
use Rattle.std.proofs.lemmas.Bool.{false≢true}
use Rattle.std.proofs.lemmas.Int.{to_z-of_z}
use Rattle.std.proofs.lemmas.List.{take_all}
use Rattle.std.proofs.lemmas.List.Elements.{All-more}
use Rattle.pb_columns.specs.declared.sum.PbcnfSum.{PbcnfSum}
use Rattle.pb_columns.specs.Columns.{IsCondition}
use Rattle.pb_columns.proofs.Standing.{no_sum, stands_here}
use Rattle.pb_columns.proofs.posing.first_stray.Goals as goal

pub returns-then-not-is_condition : goal.returns-then-not-is_condition
returns-then-not-is_condition c =
    let m : PbcnfSum = get_or c.args.sums.now c.loop-place.place no_sum in
    let fits : FitsSigned w32 m.condition = search rules in
    let kept : to_z w32 (of_z w32 m.condition) ≡ m.condition = to_z-of_z w32 m.condition fits in
    (m, stands_here c.args.sums.now c.loop-place.place no_sum c.loop-place-test.true, λ is. false≢true (c.if-not-is_condition.ensures.1 (subst (IsCondition c.args.first) (sym kept) is)))

pub loop-place-preserved : goal.loop-place-preserved
loop-place-preserved c =
    let m : PbcnfSum = get_or c.args.sums.now c.loop-place.place no_sum in
    let fits : FitsSigned w32 m.condition = search rules in
    let kept : to_z w32 (of_z w32 m.condition) ≡ m.condition = to_z-of_z w32 m.condition fits in
    All-more (λ (m : PbcnfSum). IsCondition c.args.first m.condition) c.args.sums.now c.loop-place.place no_sum c.loop-place-test.true c.loop-place.invariant (subst (IsCondition c.args.first) kept (c.if-not-is_condition.ensures.0 refl))

pub returns : goal.returns
returns c =
    let done : length c.args.sums.now ≤ c.loop-place.place = omega arith in
    subst (All (λ (m : PbcnfSum). IsCondition c.args.first m.condition)) (take_all c.loop-place.place c.args.sums.now done) c.loop-place.invariant
