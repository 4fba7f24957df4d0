use Rattle.std.proofs.Common.{◌<◌, ◌≡◌, ◌∙◌, length, get_or, ap, arith, of_z, pos, rules, to_z, FitsSigned}
use mir.Syntax.{w32, w128}
use Rattle.std.specs.Int.RustNames.{unsigned_abs}
use Rattle.std.proofs.lemmas.Int.{fits_signed_from_abs, to_z-of_z}
use Rattle.std.proofs.lemmas.List.Elements.{All-get_or}
use Rattle.pb_columns.specs.Columns.{IsBelow}
use Rattle.pb_columns.proofs.TermLists.{one_more}
use Rattle.pb_columns.proofs.terms.terms_of.Goals as goal

pub loop-place-preserved : goal.loop-place-preserved
loop-place-preserved c =
    let literals = c.args.literals.now in
    let place = c.loop-place.place in
    let number = get_or literals place (pos 0) in
    let within : place < length literals = omega arith in
    let below = All-get_or (IsBelow c.args.first) literals place (pos 0) within c.requires.below in
    let low = below.from in
    let high = below.to in
    let top = c.requires.high in
    let kept : to_z w32 (of_z w32 number) ≡ number = to_z-of_z w32 number (fits_signed_from_abs w32 number (omega (arith, high, top))) in
    let var : c.literal_of.result.var ≡ unsigned_abs number = c.literal_of.ensures.var ∙ ap unsigned_abs kept in
    let fits : FitsSigned w128 c.coefficient_at.result = search rules in
    one_more c.args.words.now literals c.args.first place (pos 0) c.loop-place.terms _ _ within c.loop-place.invariant c.in_ok-push.ensures.ok (to_z-of_z w128 c.coefficient_at.result fits ∙ c.coefficient_at.ensures) (c.literal_of.ensures.number ∙ kept) (omega (arith, var, low)) (omega (arith, var, high))
