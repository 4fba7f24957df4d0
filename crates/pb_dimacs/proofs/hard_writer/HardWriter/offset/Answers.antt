use Rattle.std.proofs.Common.{◌≡◌, ◌++◌, FitsSigned, ap, of_z, rules, to_z}
use mir.Syntax.{w128}
use Rattle.std.specs.Prelude.{codes}
use Rattle.std.specs.Fmt.{signed_decimal}
use Rattle.std.proofs.lemmas.Int.{to_z-of_z}
use Rattle.pb_dimacs.specs.WcnfText.{offset_text}
use Rattle.pb_dimacs.proofs.Holding.{text_same}
use Rattle.pb_dimacs.proofs.TextChains.{first_stops, second_stops, third_last}
use Rattle.pb_dimacs.proofs.hard_writer.HardWriter.offset.Goals as goal

pub returns-in_err-put : goal.returns-in_err-put
returns-in_err-put g c = first_stops c.from_residual.result _ (codes "c offset ") (signed_decimal c.args.offset ++ codes "\n") _ _ c.from_residual.ensures.1 c.in_err-put.ensures

pub returns-in_err-put_number : goal.returns-in_err-put_number
returns-in_err-put_number g c =
    let z = to_z w128 (of_z w128 c.args.offset) in
    let fits : FitsSigned w128 c.args.offset = search rules in
    let same : z ≡ c.args.offset = to_z-of_z w128 c.args.offset fits in
    text_same c.from_residual-in_err-put_number.result _ _ _ _ (ap offset_text same)
    (second_stops c.from_residual-in_err-put_number.result _ (codes "c offset ") (signed_decimal z) (codes "\n") _ _ _ c.from_residual-in_err-put_number.ensures.1 c.in_ok-put.ensures c.in_err-put_number.ensures)

pub returns : goal.returns
returns g c =
    let z = to_z w128 (of_z w128 c.args.offset) in
    let fits : FitsSigned w128 c.args.offset = search rules in
    let same : z ≡ c.args.offset = to_z-of_z w128 c.args.offset fits in
    text_same c.put-2.result _ _ _ _ (ap offset_text same) (third_last c.put-2.result (codes "c offset ") (signed_decimal z) (codes "\n") _ _ _ _ c.in_ok-put.ensures c.in_ok-put_number.ensures c.put-2.ensures)
