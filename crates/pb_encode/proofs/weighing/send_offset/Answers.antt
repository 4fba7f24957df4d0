use Rattle.std.proofs.Common.{◌≡◌, FitsSigned, ap, of_z, rules, to_z, ◌∙◌}
use mir.Syntax.{w128}
use Rattle.std.proofs.lemmas.Int.{to_z-of_z}
use Rattle.pb_dimacs.specs.WcnfText.{offset_text}
use Rattle.pb_dimacs.proofs.Holding.{text_same}
use Rattle.pb_encode.proofs.weighing.send_offset.Goals as goal

pub returns : goal.returns
returns g c =
    let fits : FitsSigned w128 c.offset_by.result = search rules in
    let same : to_z w128 (of_z w128 c.offset_by.result) ≡ c.offset_by.result = to_z-of_z w128 c.offset_by.result fits in
    text_same c.offset.result _ _ _ _ (ap offset_text (same ∙ c.offset_by.ensures)) c.offset.ensures
