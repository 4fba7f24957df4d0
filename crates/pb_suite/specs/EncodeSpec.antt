-- The specification of encoding a problem. Our own.
use Rattle.std.specs.Prelude.{ℕ, ◌≡◌, ◌⊎◌, ℤ, List, [], ◌∷◌, ◌++◌, Option, Some, None}
use Rattle.pb_base.specs.declared.file.File.TheVariants.{Opb}
use Rattle.pb_base.specs.declared.limit.LimitKind.{LimitKind}
use Rattle.pb_base.specs.declared.problem.Problem.{Problem}
use Rattle.pb_desk.specs.View.{Made}
use Rattle.pb_base.specs.declared.options.Options.{Options}
use Rattle.pb_encode.specs.Encodings.{problem_text, FileNames}
use Rattle.pb_encode.specs.BoundLines.{words_of}
use Rattle.pb_encode.specs.Summaries.{IsEncodable, IsOver}
use Rattle.pb_words.specs.EncodeWords.{EncodeWords}
use Rattle.pb_suite.specs.declared.outcome.Outcome.{Outcome}
use Rattle.pb_suite.specs.declared.outcome.Outcome.TheVariants as outcome
use Rattle.pb_suite.specs.Outputs.{Output}
use Rattle.pb_suite.specs.CommandSpec.{CommandSpec, IsUnended, Shelf}
use Rattle.pb_suite.specs.Denoted.{IsDenoted}
use Rattle.pb_suite.specs.Derivations.{Derivations}
use Rattle.pb_suite.specs.Refusals.{IsUnread, RefusesOpb}

-- a file that was made
abbrev pub file_of : ℕ → List ℕ → List ℕ → Made
file_of slot name bytes = record { slot = slot; name = name; bytes = bytes }

-- the derivation's, in slot 1, if it has a name
abbrev pub proof_files : Option (List ℕ) → List ℕ → List Made
proof_files None bytes = []
proof_files (Some name) bytes = file_of 1 name bytes ∷ []

-- the files of a problem, its CNF in slot 0 and the derivation after it; its size, and the rows of its table of bounds, if there is one
abbrev pub encoded_output : Derivations → FileNames → Options → Problem → Output
encoded_output derive names o p = record { made = proof_files names.proof (derive o p) ++ file_of 0 names.cnf (problem_text o p) ∷ []; said = words_of o p }

abbrev pub names_in : EncodeWords → FileNames
names_in w = record { cnf = w.cnf; proof = w.proof }

-- the problem is too large to be encoded: first the budget of its table is tested, and then the numbers of variables and of clauses
pub data PassesLimit (o : Options) (IsDue : Problem → Type 0) : Outcome → Type 0 where
  over : (p : Problem) (which : LimitKind) → IsDue p → IsOver which o p → PassesLimit o IsDue (outcome.Limit None which None)

-- in the order of a run: the text, and the bound if one is given; and then what is to be made
abbrev pub StopsEncode : Shelf → List ℕ → Option ℤ → Options → Outcome → Type 0
StopsEncode shelf opb bound o answer = IsUnread shelf opb (RefusesOpb bound) answer ⊎ PassesLimit o (IsDenoted shelf opb bound) answer

abbrev pub encode_spec : Derivations → EncodeWords → CommandSpec
encode_spec derive w = record {
  texts = record { kind = Opb; name = w.opb } ∷ [];
  leaves_open = λ shelf taken ended. IsUnended 0 w.opb taken ended;
  stops = λ shelf answer. StopsEncode shelf w.opb w.bound w.options answer;
  done = λ shelf out. (p : Problem) × IsDenoted shelf w.opb w.bound p × IsEncodable w.options p × (out ≡ encoded_output derive (names_in w) w.options p);
}
