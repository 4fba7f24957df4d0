-- What is due of the free names of a problem that was read.
use Rattle.std.proofs.Common.{None, refl}
use Rattle.pb_base.specs.declared.problem.Problem.{Problem}
use Rattle.pb_desk.specs.Desk.{DeskState, IfTold}
use Rattle.pb_model.specs.MapText.{map_text}
use Rattle.pb_words.specs.MapWords.{MapWords}
use Rattle.pb_suite.specs.Outputs.{only_words}
use Rattle.pb_suite.specs.MapSpec.{map_spec}
use Rattle.pb_suite.specs.Denoted.{IsDenoted}
use Rattle.pb_suite.proofs.Texts.{told_more}

pub map_due : (w : MapWords) (p : Problem) (b : DeskState) → IfTold b (λ t. IsDenoted t.shelf w.opb None p) → IfTold b (λ t. (map_spec w).done t.shelf (only_words (map_text p)))
map_due w p b denoted = told_more b (λ t. IsDenoted t.shelf w.opb None p) (λ t. (map_spec w).done t.shelf (only_words (map_text p))) (λ t found. (p, found, refl)) denoted
