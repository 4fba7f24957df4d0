-- What is put of a problem and its objective, as what is put of its text.
use Rattle.std.proofs.Common.{◌≡◌, ◌∙◌, ◌++◌, ◌-ℤ◌, ◌^◌, List, ℕ, ℤ, Option, pos, ap, append_assoc, length, map, refl, subst, sym}
use Rattle.pb_base.specs.declared.options.Options.{Options}
use Rattle.pb_base.specs.declared.problem.Problem.{Problem}
use Rattle.pb_dimacs.specs.WcnfText.{hard_text, offset_text, softs_text, wcnf_text}
use Rattle.pb_norm.specs.Constraints.{Constraint}
use Rattle.pb_norm.specs.Reduction.{opposite}
use Rattle.pb_encode.specs.Clauses.{problem_clauses}
use Rattle.pb_encode.specs.Costs.{objective_form}
use Rattle.pb_encode.specs.Weighted.{weighted_text}
use Rattle.pb_encode.proofs.ModelCosts.{models_have_costs}
use Rattle.pb_encode.proofs.WeightedTexts.{weighted_reads}
use Rattle.pb_suite.specs.declared.outcome.Outcome.{Outcome}
use Rattle.pbcnf_c.specs.declared.options.PbcnfOptions.{PbcnfOptions}
use Rattle.pbcnf_c.specs.declared.ready.Ready.{Ready}
use Rattle.pbcnf_c.specs.declared.size.PbcnfSize.{PbcnfSize}
use Rattle.pbcnf_c.specs.Put.{IsSized, IsWanting, PutsOf}
use Rattle.pbcnf_c.specs.Ready.{IsReady, IsReadyFor, StopsEncoding}
use Rattle.pbcnf_c.specs.Sizes.{no_size, problem_size}
use Rattle.pbcnf_c.specs.Weighings.{IsWcnf, WeighsInto}
use Rattle.pbcnf_c.proofs.Encoded.{wanting}
use Rattle.pbcnf_c.proofs.Endings.{ends_as}

-- the three parts of the text, by the normal form of what reaches 2 ^ 100
pub three_parts : (o : Options) (p : Problem) (form : Constraint) (text held head : List ℕ) → form ≡ objective_form p → head ≡ offset_text (pos (2 ^ 100) -ℤ pos form.degree) → held ≡ head ++ hard_text (problem_clauses o p) → text ≡ held ++ softs_text (map opposite form.terms) → text ≡ weighted_text o p
three_parts o p form text held head is begins holds ends =
    let softs = softs_text (map opposite form.terms) in
    ends ∙ ap (λ (xs : List ℕ). xs ++ softs) (holds ∙ ap (λ (xs : List ℕ). xs ++ hard_text (problem_clauses o p)) begins)
    ∙ append_assoc (offset_text (pos (2 ^ 100) -ℤ pos form.degree)) (hard_text (problem_clauses o p)) softs
    ∙ ap (λ (c : Constraint). wcnf_text (pos (2 ^ 100) -ℤ pos c.degree) (problem_clauses o p) (map opposite c.terms)) is

is_wcnf : (chosen : PbcnfOptions) (bound : Option ℤ) (text : List ℕ) (r : Ready) (size : PbcnfSize) → IsReady r → IsReadyFor chosen bound text r → size ≡ problem_size r.options r.problem (length (weighted_text r.options r.problem)) → IsWcnf chosen bound text (weighted_text r.options r.problem) size
is_wcnf chosen bound text r size ready denoted sized = record {
  options = r.options;
  chosen_are = denoted.chosen_are;
  weighing = record { problem = r.problem; denotes = denoted.denotes; written = refl; says = weighted_reads r.options r.problem ready.within ready.encodable; costs = models_have_costs r.options r.problem ready.within };
  size_is = sized;
}

pub weighed : (chosen : PbcnfOptions) (bound : Option ℤ) (text : List ℕ) (r : Ready) (old new : List ℕ) (size : PbcnfSize) (answer : Outcome) → IsReady r → IsReadyFor chosen bound text r → PutsOf (weighted_text r.options r.problem) r old new size answer → WeighsInto chosen bound text old new size answer
weighed chosen bound text r old new size answer ready denoted puts =
    let due = weighted_text r.options r.problem in
    ends_as (IsSized due r) (IsWcnf chosen bound text) IsWanting (StopsEncoding chosen bound text) no_size old new size answer
    (λ items is. subst (λ (xs : List ℕ). IsWcnf chosen bound text xs size) (sym is.0) (is_wcnf chosen bound text r size ready denoted (is.1 ∙ ap (λ (xs : List ℕ). problem_size r.options r.problem (length xs)) is.0)))
    (wanting chosen bound text) puts
