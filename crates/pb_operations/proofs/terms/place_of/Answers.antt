use Rattle.std.proofs.Common.{◌≢◌, ◌<◌, length, get_or, arith, ap}
use Rattle.std.proofs.lemmas.Bool.Decides.{nat_tests}
use Rattle.std.proofs.lemmas.List.{get_or_default}
use Rattle.pb_base.specs.declared.literal.Term.{Term}
use Rattle.pb_operations.proofs.Zeroed.{none-stands}
use Rattle.pb_operations.proofs.terms.place_of.Goals as goal
use Rattle.pb_operations.proofs.terms.place_of.Goals.{else-place-terms-via-then-place-terms+else-eq, else-place-terms-via-else-place-terms}

pub returns-else-place-terms-clause-none : goal.returns-else-place-terms-clause-none
returns-else-place-terms-clause-none c =
    let terms = c.args.terms.now in
    let place = c.place_for-place.result in
    let apart : place < length terms → (d : Term) → (get_or terms place d).lit.var ≢ c.args.var =
    elim c.else-place-terms.branch [ else-place-terms-via-then-place-terms+else-eq w ↦ (λ below d e. let at = ap (λ (t : Term). t.lit.var) (get_or_default terms place d w.index-terms-place.result below) in absurd (grind (arith, nat_tests, w.if-eq.false, w.eq.ensures))) | else-place-terms-via-else-place-terms w ↦ (λ below d e. absurd (grind (arith, nat_tests, w.if-place-terms.false))) ] in
    λ none. none-stands terms c.args.var place c.requires c.place_for-place.ensures.point apart
