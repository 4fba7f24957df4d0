-- A command that made a weighted CNF made one with the solutions of its text and their costs.
use Rattle.std.proofs.Common.{◌≡◌, ◌∙◌, ◌++◌, ℕ, ℤ, List, Option, ap, refl}
use Rattle.pb_base.specs.declared.problem.Problem.{Problem}
use Rattle.pb_desk.specs.View.{Told}
use Rattle.pb_desk.specs.Desk.{DeskState, IfTold, IsTold}
use Rattle.pb_base.specs.declared.options.Options.{Options}
use Rattle.pb_encode.specs.Summaries.{IsEncodable}
use Rattle.pb_encode.specs.Weighted.{weighted_text}
use Rattle.pb_encode.proofs.ModelCosts.{models_have_costs}
use Rattle.pb_encode.proofs.WeightedTexts.{weighted_reads}
use Rattle.pb_words.specs.WcnfWords.{WcnfWords}
use Rattle.pb_suite.specs.declared.outcome.Outcome.{Outcome}
use Rattle.pb_suite.specs.declared.outcome.Outcome.TheVariants as outcome
use Rattle.pb_suite.specs.Headline.{IsWeighing, MakesWeighing}
use Rattle.pb_suite.specs.Implementing.{Implements}
use Rattle.pb_suite.specs.Outputs.{IsMore, Output}
use Rattle.pb_suite.specs.WcnfSpec.{wcnf_spec}
use Rattle.pb_suite.specs.Denoted.{Denotes}
use Rattle.pb_suite.proofs.DenotedProblems.{denotes_within}
use Rattle.pb_suite.proofs.Dones.{added_so}

-- the weighted text of a problem that a text denotes has its costs
pub weighing : (o : Options) (bound : Option ℤ) (text : List ℕ) (p : Problem) → Denotes bound text p → IsEncodable o p → IsWeighing o bound text (weighted_text o p)
weighing o bound text p denotes encodable =
    let within = denotes_within bound text p denotes in
    record { problem = p; denotes = denotes; written = refl; says = weighted_reads o p within encodable; costs = models_have_costs o p within }

pub obeyed_weighs : (w : WcnfWords) (a b : DeskState) (answer : Outcome) → answer ≡ outcome.Done → Implements (wcnf_spec w) a b answer → IfTold a (λ t. IsTold b (MakesWeighing w t))
obeyed_weighs w a b = added_so (wcnf_spec w) a b (MakesWeighing w) made_of
  where
    made_of : (t u : Told) (out : Output) → (wcnf_spec w).done t.shelf out → IsMore out t u → MakesWeighing w t u
    made_of t u out (p, denoted, encodable, is) more = record {
      text = denoted.text;
      wcnf = weighted_text w.options p;
      on_shelf = denoted.on_shelf;
      made_is = more.made ∙ ap (λ (o : Output). o.made ++ t.made) is;
      weighing = weighing w.options w.bound denoted.text p denoted.denotes encodable;
    }
