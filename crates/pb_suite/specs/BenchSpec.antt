-- The specification of encoding a generated problem: what encoding its text does under the default options. No text is read. Our own.
use Rattle.std.specs.Prelude.{ℕ, ◌≡◌, List, [], ◌∷◌, Option, Some, None}
use Rattle.pb_base.specs.declared.problem.Problem.{Problem}
use Rattle.pb_gen.specs.Generated.{generated}
use Rattle.pb_opb.specs.Faults.{Reads}
use Rattle.pb_base.specs.Defaults.{default_options}
use Rattle.pb_encode.specs.BoundLines.{words_of}
use Rattle.pb_encode.specs.Encodings.{problem_text}
use Rattle.pb_encode.specs.Summaries.{IsEncodable}
use Rattle.pb_words.specs.BenchWords.{BenchWords}
use Rattle.pb_suite.specs.Outputs.{only_words, Output}
use Rattle.pb_suite.specs.CommandSpec.{CommandSpec}
use Rattle.pb_suite.specs.EncodeSpec.{file_of, PassesLimit}

-- the size of the encoding, beside its CNF file where that is named
abbrev pub bench_output : Option (List ℕ) → Problem → Output
bench_output (Some name) p = record { made = file_of 0 name (problem_text default_options p) ∷ []; said = words_of default_options p }
bench_output None p = only_words (words_of default_options p)

abbrev pub bench_spec : BenchWords → CommandSpec
bench_spec w = record {
  texts = [];
  leaves_open = λ shelf taken ended. ⊥;
  stops = λ shelf answer. PassesLimit default_options (Reads (generated w.count w.seed)) answer;
  done = λ shelf out. (p : Problem) × Reads (generated w.count w.seed) p × IsEncodable default_options p × (out ≡ bench_output w.cnf p);
}
