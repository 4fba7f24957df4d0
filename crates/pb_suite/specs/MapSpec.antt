-- The specification of listing the free names of a problem. Our own.
use Rattle.std.specs.Prelude.{◌≡◌, [], ◌∷◌, None}
use Rattle.pb_base.specs.declared.file.File.TheVariants.{Opb}
use Rattle.pb_base.specs.declared.problem.Problem.{Problem}
use Rattle.pb_model.specs.MapText.{map_text}
use Rattle.pb_words.specs.MapWords.{MapWords}
use Rattle.pb_suite.specs.Outputs.{only_words}
use Rattle.pb_suite.specs.CommandSpec.{CommandSpec, IsUnended}
use Rattle.pb_suite.specs.Denoted.{IsDenoted}
use Rattle.pb_suite.specs.Refusals.{IsUnread, RefusesOpb}

-- a line is said for each free name
abbrev pub map_spec : MapWords → CommandSpec
map_spec w = record {
  texts = record { kind = Opb; name = w.opb } ∷ [];
  leaves_open = λ shelf taken ended. IsUnended 0 w.opb taken ended;
  stops = λ shelf answer. IsUnread shelf w.opb (RefusesOpb None) answer;
  done = λ shelf out. (p : Problem) × IsDenoted shelf w.opb None p × (out ≡ only_words (map_text p));
}
