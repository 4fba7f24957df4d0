-- A command that encoded with a derivation made one that is accepted.
use Rattle.std.proofs.Common.{◌≡◌, ◌∙◌, ◌++◌, ◌∷◌, [], ℕ, ℤ, List, Option, ap, arith, refl}
use Rattle.std.specs.Option.{ForSome}
use Rattle.pb_base.specs.declared.problem.Problem.{Problem}
use Rattle.pb_desk.specs.View.{Told}
use Rattle.pb_desk.specs.Desk.{DeskState, IfTold, IsTold}
use Rattle.pb_family.specs.StepSinks.{steps_text}
use Rattle.pb_check.specs.Walk.{Accepts}
use Rattle.pb_check.proofs.Writing.{written_runs_are_accepted}
use Rattle.pb_base.specs.declared.options.Options.{Options}
use Rattle.pb_encode.specs.Clauses.{problem_clauses}
use Rattle.pb_encode.specs.Encodings.{derivation_text, problem_text}
use Rattle.pb_encode.specs.Steps.{loaded_steps}
use Rattle.pb_encode.specs.Summaries.{IsEncodable}
use Rattle.pb_encode.proofs.CnfTexts.{problem_told}
use Rattle.pb_encode.proofs.DerivedProblems.{problem_derived}
use Rattle.pb_words.specs.EncodeWords.{EncodeWords}
use Rattle.pb_suite.specs.declared.outcome.Outcome.{Outcome}
use Rattle.pb_suite.specs.declared.outcome.Outcome.TheVariants as outcome
use Rattle.pb_suite.specs.Headline.{MakesDerivation}
use Rattle.pb_suite.specs.Implementing.{Implements}
use Rattle.pb_suite.specs.Outputs.{IsMore, Output}
use Rattle.pb_suite.specs.Derivations.{AreAccepted, Derivations}
use Rattle.pb_suite.specs.EncodeSpec.{file_of, encode_spec, proof_files}
use Rattle.pb_suite.specs.Denoted.{Denotes}
use Rattle.pb_suite.proofs.DenotedProblems.{denotes_within}
use Rattle.pb_suite.proofs.Dones.{added_so}

-- the two texts of a problem that a text denotes are accepted beside it
pub texts_accepted : AreAccepted derivation_text
unfolding steps_text
texts_accepted o bound text p denotes encodable =
    let within = denotes_within bound text p denotes in
    let told = problem_told o p within encodable in
    let derived = problem_derived o p within encodable in
    written_runs_are_accepted p (problem_text o p) (derivation_text o p) _ (problem_clauses o p) (loaded_steps o p) derived.end
    told.1 (omega arith) derived.within derived.sayable refl derived.runs

pub obeyed_derives : (derive : Derivations) → AreAccepted derive → (w : EncodeWords) (a b : DeskState) (answer : Outcome) → answer ≡ outcome.Done → Implements (encode_spec derive w) a b answer → ForSome w.proof (λ name. IfTold a (λ t. IsTold b (MakesDerivation w name t)))
obeyed_derives derive accepted w a b answer is implements name named = added_so (encode_spec derive w) a b (MakesDerivation w name) made_of answer is implements
  where
    made_of : (t u : Told) (out : Output) → (encode_spec derive w).done t.shelf out → IsMore out t u → MakesDerivation w name t u
    made_of t u out (p, denoted, encodable, is) more =
        let cnf = problem_text w.options p in
        let proof = derive w.options p in
        record {
          problem = p;
          cnf = cnf;
          proof = proof;
          denoted = denoted;
          made_is = more.made ∙ ap (λ (o : Output). o.made ++ t.made) is ∙ ap (λ (x : Option (List ℕ)). proof_files x proof ++ file_of 0 w.cnf cnf ∷ [] ++ t.made) named;
          accepted = accepted w.options w.bound denoted.text p denoted.denotes encodable;
        }
