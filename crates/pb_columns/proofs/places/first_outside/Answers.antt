use Rattle.std.proofs.Common.{◌≡◌, ◌≤◌, ℤ, FitsSigned, arith, get_or, length, of_z, pos, refl, rules, subst, to_z}
use mir.Syntax.{w32}
use Rattle.std.specs.Prelude.{All}
use Rattle.std.proofs.lemmas.Int.{to_z-of_z}
use Rattle.std.proofs.lemmas.List.{take_all}
use Rattle.std.proofs.lemmas.List.Elements.{All-more}
use Rattle.pb_columns.specs.Columns.{IsBelow}
use Rattle.pb_columns.proofs.places.first_outside.Goals as goal

pub loop-place-preserved : goal.loop-place-preserved
loop-place-preserved c =
    let number : ℤ = get_or c.args.numbers.now c.loop-place.place (pos 0) in
    let fits : FitsSigned w32 number = search rules in
    let kept : to_z w32 (of_z w32 number) ≡ number = to_z-of_z w32 number fits in
    All-more (IsBelow c.args.first) c.args.numbers.now c.loop-place.place (pos 0) c.loop-place-test.true c.loop-place.invariant (subst (IsBelow c.args.first) kept (c.if-not-is_below.ensures.0 refl))

pub returns : goal.returns
returns c =
    let done : length c.args.numbers.now ≤ c.loop-place.place = omega arith in
    subst (All (IsBelow c.args.first)) (take_all c.loop-place.place c.args.numbers.now done) c.loop-place.invariant
