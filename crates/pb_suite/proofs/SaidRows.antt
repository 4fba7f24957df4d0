-- A command that encoded with a table said its rows.
use Rattle.std.proofs.Common.{◌≡◌, ◌∙◌, ◌++◌, true, ap}
use Rattle.pb_desk.specs.View.{Told}
use Rattle.pb_desk.specs.Desk.{DeskState, IfTold, IsTold}
use Rattle.pb_encode.specs.Bounds.{bound_rows}
use Rattle.pb_encode.specs.Clauses.{problem_clauses, problem_vars}
use Rattle.pb_encode.specs.Encodings.{problem_text}
use Rattle.pb_encode.proofs.BoundRows.{table_tells}
use Rattle.pb_words.specs.EncodeWords.{EncodeWords}
use Rattle.pb_suite.specs.declared.outcome.Outcome.{Outcome}
use Rattle.pb_suite.specs.declared.outcome.Outcome.TheVariants as outcome
use Rattle.pb_suite.specs.Implementing.{Implements}
use Rattle.pb_suite.specs.Outputs.{IsMore, Output}
use Rattle.pb_suite.specs.Derivations.{Derivations}
use Rattle.pb_suite.specs.EncodeSpec.{encode_spec}
use Rattle.pb_suite.specs.SaidBounds.{SaysBounds}
use Rattle.pb_suite.proofs.Encodes.{encoded_made, problem_reads}
use Rattle.pb_suite.proofs.DenotedProblems.{denotes_within}
use Rattle.pb_suite.proofs.Dones.{added_so}

pub obeyed_bounds : (derive : Derivations) (w : EncodeWords) (a b : DeskState) (answer : Outcome) → w.options.table ≡ true → answer ≡ outcome.Done → Implements (encode_spec derive w) a b answer → IfTold a (λ t. IsTold b (SaysBounds w t))
obeyed_bounds derive w a b answer asked = added_so (encode_spec derive w) a b (SaysBounds w) made_of answer
  where
    made_of : (t u : Told) (out : Output) → (encode_spec derive w).done t.shelf out → IsMore out t u → SaysBounds w t u
    made_of t u out (p, denoted, encodable, is) more =
        let o = w.options in
        let within = denotes_within w.bound denoted.text p denoted.denotes in
        record {
          problem = p;
          denoted = denoted;
          cnf = problem_text o p;
          proof = derive o p;
          made_is = encoded_made derive w p t u out is more;
          vars = problem_vars o p;
          clauses = problem_clauses o p;
          says = problem_reads o p within encodable;
          rows = bound_rows o p;
          said_is = more.said ∙ ap (λ (out : Output). t.said ++ out.said) is;
          bounds = table_tells o p within asked;
        }
