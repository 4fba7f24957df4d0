use Rattle.std.proofs.Common.{◌≡◌, ◌++◌, ◌∷◌, [], FitsSigned, ap, of_z, rules, to_z, ℤ}
use mir.Syntax.{w128}
use Rattle.std.specs.Prelude.{codes}
use Rattle.std.specs.Fmt.{signed_decimal}
use Rattle.std.proofs.lemmas.Int.{to_z-of_z}
use Rattle.pb_family.specs.ClauseText.{clause_text}
use Rattle.pb_dimacs.specs.WcnfText.{soft_text}
use Rattle.pb_dimacs.proofs.Holding.{text_same}
use Rattle.pb_dimacs.proofs.TextChains.{first_stops, second_stops, third_last}
use Rattle.pb_dimacs.proofs.hard_writer.HardWriter.soft.Goals as goal

pub returns-in_err-put_number : goal.returns-in_err-put_number
returns-in_err-put_number g c =
    let z = to_z w128 (of_z w128 c.args.weight) in
    let fits : FitsSigned w128 c.args.weight = search rules in
    let same : z ≡ c.args.weight = to_z-of_z w128 c.args.weight fits in
    text_same c.from_residual.result _ _ _ _ (ap (λ (y : ℤ). soft_text y c.args.lit) same)
    (first_stops c.from_residual.result _ (signed_decimal z) (codes " " ++ clause_text (c.args.lit ∷ [])) _ _ c.from_residual.ensures.1 c.in_err-put_number.ensures)

pub returns-in_err-put : goal.returns-in_err-put
returns-in_err-put g c =
    let z = to_z w128 (of_z w128 c.args.weight) in
    let fits : FitsSigned w128 c.args.weight = search rules in
    let same : z ≡ c.args.weight = to_z-of_z w128 c.args.weight fits in
    text_same c.from_residual-in_err-put.result _ _ _ _ (ap (λ (y : ℤ). soft_text y c.args.lit) same)
    (second_stops c.from_residual-in_err-put.result _ (signed_decimal z) (codes " ") (clause_text (c.args.lit ∷ [])) _ _ _ c.from_residual-in_err-put.ensures.1 c.in_ok-put_number.ensures c.in_err-put.ensures)

pub returns : goal.returns
returns g c =
    let z = to_z w128 (of_z w128 c.args.weight) in
    let fits : FitsSigned w128 c.args.weight = search rules in
    let same : z ≡ c.args.weight = to_z-of_z w128 c.args.weight fits in
    text_same c.put_line.result _ _ _ _ (ap (λ (y : ℤ). soft_text y c.args.lit) same)
    (third_last c.put_line.result (signed_decimal z) (codes " ") (clause_text (c.args.lit ∷ [])) _ _ _ _ c.in_ok-put_number.ensures c.in_ok-put.ensures c.put_line.ensures)
