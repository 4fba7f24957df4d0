-- The specification of encoding a problem and its objective. Our own.
use Rattle.std.specs.Prelude.{ℕ, ◌≡◌, List, [], ◌∷◌}
use Rattle.pb_base.specs.declared.file.File.TheVariants.{Opb}
use Rattle.pb_base.specs.declared.problem.Problem.{Problem}
use Rattle.pb_base.specs.declared.options.Options.{Options}
use Rattle.pb_encode.specs.Summaries.{IsEncodable}
use Rattle.pb_encode.specs.BoundLines.{words_of}
use Rattle.pb_encode.specs.Weighted.{weighted_text}
use Rattle.pb_words.specs.WcnfWords.{WcnfWords}
use Rattle.pb_suite.specs.Outputs.{Output}
use Rattle.pb_suite.specs.CommandSpec.{CommandSpec, IsUnended}
use Rattle.pb_suite.specs.EncodeSpec.{file_of, StopsEncode}
use Rattle.pb_suite.specs.Denoted.{IsDenoted}

-- the file of a problem and its objective, in slot 0, and the size of its hard clauses in words
abbrev pub weighted_output : List ℕ → Options → Problem → Output
weighted_output name o p = record { made = file_of 0 name (weighted_text o p) ∷ []; said = words_of o p }

abbrev pub wcnf_spec : WcnfWords → CommandSpec
wcnf_spec w = record {
  texts = record { kind = Opb; name = w.opb } ∷ [];
  leaves_open = λ shelf taken ended. IsUnended 0 w.opb taken ended;
  stops = λ shelf answer. StopsEncode shelf w.opb w.bound w.options answer;
  done = λ shelf out. (p : Problem) × IsDenoted shelf w.opb w.bound p × IsEncodable w.options p × (out ≡ weighted_output w.wcnf w.options p);
}
