-- What is proved to be an optimum is one, and is answered so.
use Rattle.std.proofs.Common.{◌≡◌, ◌∙◌, ◌≤ℤ◌, ◌-ℤ◌, pos, ℕ, ℤ, Bool, List, Some, None, refl, subst, sym, ap, arith, ◌∷◌, ◌++◌, []}
use Rattle.std.proofs.lemmas.Int.{ints}
use Rattle.std.proofs.lemmas.List.Elements.{All-append, All-cons, All-nil}
use Rattle.pb_base.specs.declared.problem.Raw.{Raw}
use Rattle.pb_base.specs.Literals.{assigned_by}
use Rattle.pb_base.specs.declared.problem.Problem.{Problem}
use Rattle.pb_base.specs.Problems.{objective_terms, widened, IsSolution, Satisfies}
use Rattle.pb_opb.specs.Bounded.{bounded, objective_value, sum_at_most}
use Rattle.pb_opb.proofs.Reading.{says_one}
use Rattle.pb_suite.specs.CommandSpec.{Shelf}
use Rattle.pb_suite.specs.Denoted.{Denotes, IsDenoted}
use Rattle.pb_suite.specs.OptimumSpec.{next_below, optimum_spec, refuting_of, IsProved}
use Rattle.pb_suite.specs.SaidOptima.{IsOptimum, SaysOptimum}
use Rattle.pb_suite.specs.SaidSolutions.{IsDue}
use Rattle.pb_suite.specs.Chain.{OptimaAreAnswered}
use Rattle.pb_suite.specs.Implementing.{Implements}
use Rattle.pb_suite.proofs.OneOptima.{one_optimum}
use Rattle.pb_suite.proofs.Chains.{encoded_followed}
use Rattle.pb_desk.specs.View.{Told}
use Rattle.pb_desk.specs.Desk.{DeskState, IfTold, IsTold}
use Rattle.pb_model.specs.declared.model.Model.{Model}
use Rattle.pb_model.specs.SolutionText.{optimum_text}
use Rattle.pb_words.specs.OptimumWords.{OptimumWords}
use Rattle.pb_words.specs.Parsed.Wanted.{Optimum}
use Rattle.pb_suite.specs.declared.outcome.Outcome.{Outcome}
use Rattle.pb_suite.specs.declared.outcome.Outcome.TheVariants as outcome
use Rattle.pb_suite.specs.Outputs.{only_words, IsMore, Output}
use Rattle.pb_suite.proofs.Decodes.{ends_saying}
use Rattle.pb_suite.proofs.Dones.{added_so}
use Rattle.pb_suite.proofs.Refutes.{no_solution}
use Rattle.pb_suite.proofs.Unread.{same_some}

-- with a bound the text says the bounded problem
same_bounded : (shelf : Shelf) (name : List ℕ) (b : ℤ) (p q : Problem) → IsDenoted shelf name None p → IsDenoted shelf name (Some b) q → q ≡ bounded p b
same_bounded shelf name b p q denoted other =
    let text : other.text ≡ denoted.text = same_some (shelf name) other.text denoted.text other.on_shelf denoted.on_shelf in
    let there : Denotes (Some b) denoted.text q = subst (λ (xs : List ℕ). Denotes (Some b) xs q) text other.denotes in
    let plain : there.plain ≡ denoted.denotes.plain = says_one denoted.text there.plain denoted.denotes.plain there.reads.says denoted.denotes.reads.says in
    there.is ∙ ap (λ (r : Problem). bounded r b) (plain ∙ sym denoted.denotes.is)

at_least : (a b : ℤ) → ((a ≤ℤ (b -ℤ pos 1)) → ⊥) → b ≤ℤ a
at_least a b above = grind (arith, ints, above)

-- a solution whose value is at most the bound is one of the bounded problem
keeps : (p : Problem) (b : ℤ) (values : List Bool) → IsSolution p values → objective_value p values ≤ℤ b → IsSolution (bounded p b) values
keeps p b values solves less =
    let a = assigned_by (widened p values) in
    let last : Raw = sum_at_most (objective_terms p) b in
    record {
      covers = solves.covers;
      statements = All-append (Satisfies a) p.statements (last ∷ []) solves.statements (All-cons (Satisfies a) last [] less (All-nil (Satisfies a)));
    }

-- what is proved is an optimum
pub proved_are_optimal : (w : OptimumWords) (shelf : Shelf) (p : Problem) (m : Model) → IsProved shelf w p m → IsOptimum w shelf p m.values
proved_are_optimal w shelf p m proved =
    let b = next_below p m in
    let none = no_solution (refuting_of w b) shelf proved.followed in
    let same : none.problem ≡ bounded p b = same_bounded shelf w.opb b p none.problem proved.reached.aim.denoted none.denoted in
    record {
      denoted = proved.reached.aim.denoted;
      aims = proved.reached.aim.aims;
      solution = proved.reached.comes.decoded.1;
      least = λ other solves. at_least (objective_value p other) (objective_value p m.values)
          (λ less. none.none other (subst (λ (r : Problem). IsSolution r other) (sym same) (keeps p b other solves less)));
    }

-- and is due
optimum_due : (w : OptimumWords) (shelf : Shelf) (p : Problem) (m : Model) → IsProved shelf w p m → IsDue (optimum_spec w) shelf (only_words (optimum_text p m.values))
optimum_due w shelf p m proved =
    let one = one_optimum w shelf in
    let out : Output = only_words (optimum_text p m.values) in
    let due : (optimum_spec w).done shelf out = (p, m, proved, refl) in
    record { done = due; only = λ other found. one.one_output other out found due; goes_on = λ answer stops. one.not_both out answer due stops }

pub optima_are_answered : OptimaAreAnswered
optima_are_answered w o a b x y answer now cnf lrat p m of tells e implements reached has_cnf has_lrat is =
    let proved : IsProved now.shelf o p m = record { reached = reached; followed = encoded_followed w (refuting_of o (next_below p m)) a b now.shelf cnf lrat of e has_cnf has_lrat is } in
    let due = optimum_due o now.shelf p m proved in
    record {
      optimum = proved_are_optimal o now.shelf p m proved;
      due = due;
      said = ends_saying (optimum_spec o) x y now (optimum_text p m.values) tells due answer implements.answers;
    }

-- what is said where words ask for an optimum and that is done
pub done_says_optimum : (w : OptimumWords) (a b : DeskState) (answer : Outcome) → answer ≡ outcome.Done → Implements (optimum_spec w) a b answer → IfTold a (λ t. IsTold b (SaysOptimum w t))
done_says_optimum w a b answer is implements = added_so (optimum_spec w) a b (SaysOptimum w) made_of answer is implements
  where
    made_of : (t u : Told) (out : Output) → (optimum_spec w).done t.shelf out → IsMore out t u → SaysOptimum w t u
    made_of t u out (p, m, proved, due) more = record {
      problem = p;
      values = m.values;
      optimum = proved_are_optimal w t.shelf p m proved;
      said_is = more.said ∙ ap (λ (o : Output). t.said ++ o.said) due;
      made_is = more.made ∙ ap (λ (o : Output). o.made ++ t.made) due;
    }
