-- The weighted CNF text of a problem says its clauses, which are hard, and the soft literals: its numbers are not too large.
use Rattle.std.proofs.Common.{◌<◌, ◌+◌, ◌^◌, ℕ, List, [], ◌∷◌, arith, pos, ◌-ℤ◌}
use Rattle.std.specs.Prelude.{All}
use Rattle.std.specs.Int.RustNames.{unsigned_abs}
use Rattle.std.proofs.lemmas.Int.{ints}
use Rattle.std.proofs.lemmas.List.Elements.{All-cons, All-head, All-map, All-nil, All-tail, All-weaker}
use Rattle.pb_base.specs.declared.literal.Lit.{Lit}
use Rattle.pb_base.specs.declared.literal.Term.{Term}
use Rattle.pb_base.specs.declared.problem.Problem.{Problem}
use Rattle.pb_base.specs.Problems.{IsWithinLimits, magnitude, objective_terms, originals}
use Rattle.pb_norm.specs.Constraints.{Weighted, weight}
use Rattle.pb_norm.specs.Halves.{normal_degree, normal_terms}
use Rattle.pb_norm.specs.Reduction.{opposite}
use Rattle.pb_norm.proofs.AdditionSizes.{weight-cons}
use Rattle.pb_norm.proofs.Variables.{OfTerm, normal_terms-vars}
use Rattle.pb_norm.proofs.WrittenForm.{normal_degree-le, normal_terms-positive, normal_terms-weight}
use Rattle.pb_dimacs.specs.CnfReading.{IsLitWithin}
use Rattle.pb_dimacs.specs.WcnfReading.{WcnfReads, hard_and_soft}
use Rattle.pb_dimacs.specs.WcnfLaws.{IsSoftWithin}
use Rattle.pb_dimacs.proofs.WcnfWritten.{written_wcnf_reads}
use Rattle.pb_base.specs.declared.options.Options.{Options}
use Rattle.pb_encode.specs.Clauses.{problem_clauses, problem_vars}
use Rattle.pb_encode.specs.Costs.{offset_of, softs_of}
use Rattle.pb_encode.specs.Summaries.{IsEncodable}
use Rattle.pb_encode.specs.Weighted.{weighted_text}
use Rattle.pb_encode.proofs.CostLemmas.{light_terms}
use Rattle.pb_encode.proofs.ModelCosts.{terms_below}
use Rattle.pb_encode.proofs.Solutions.{problem-within}

-- what a term is to be before its literal is negated
record Fits (t : Weighted) : Type 0 where
  pub low : 0 < t.coef
  pub high : t.coef < 2 ^ 126
  pub var : t.lit.var < 2 ^ 64

-- terms that weigh little have small coefficients
terms_fit : (ts : List Weighted) → All (λ t. 0 < t.coef) ts → weight ts < 2 ^ 126 → All (OfTerm (λ v. v < 2 ^ 64)) ts → All Fits ts
terms_fit [] positive light below = All-nil Fits
terms_fit (t ∷ ts) positive light below =
    let more = weight-cons t ts in
    All-cons Fits t ts
    (record {
      low = All-head (λ (u : Weighted). 0 < u.coef) t ts positive;
      high = omega (arith, more, light);
      var = All-head (OfTerm (λ v. v < 2 ^ 64)) t ts below;
    })
    (terms_fit ts (All-tail (λ (u : Weighted). 0 < u.coef) t ts positive) (omega (arith, more, light)) (All-tail (OfTerm (λ v. v < 2 ^ 64)) t ts below))

negated_fits : (t : Weighted) → Fits t → IsSoftWithin (opposite t)
negated_fits t fits = record { low = omega (arith, fits.low); high = fits.high; var = fits.var }

small : (d : ℕ) → d < 2 ^ 101 → unsigned_abs (pos (2 ^ 100) -ℤ pos d) < 2 ^ 126
small d h = grind (arith, ints)

module _ (o : Options) (p : Problem) (within : IsWithinLimits p) where
  light : magnitude (objective_terms p) < 2 ^ 100
  light = light_terms (originals p) p.objective within.objective

  pub offset_small : unsigned_abs (offset_of p) < 2 ^ 126
  offset_small =
      let ts = objective_terms p in
      small (normal_degree ts (pos (2 ^ 100))) (omega (arith, normal_degree-le ts (pos (2 ^ 100)), light))

  softs_within : All IsSoftWithin (softs_of p)
  softs_within =
      let ts = objective_terms p in
      let below = All-weaker (λ (t : Term). t.lit.var < originals p + 1) (λ (t : Term). t.lit.var < 2 ^ 64) (λ t h. omega (arith, h, within.vars)) ts (terms_below (originals p) p.objective within.objective) in
      let fit = terms_fit (normal_terms ts) (normal_terms-positive ts) (omega (arith, normal_terms-weight ts, light)) (normal_terms-vars (λ v. v < 2 ^ 64) ts below) in
      All-map IsSoftWithin opposite (normal_terms ts) (All-weaker Fits (λ (t : Weighted). IsSoftWithin (opposite t)) negated_fits (normal_terms ts) fit)

  clauses_fit : IsEncodable o p → All (All (λ (l : Lit). l.var < 2 ^ 64)) (problem_clauses o p)
  clauses_fit encodable =
      let vars = problem_vars o p in
      All-weaker (All (IsLitWithin vars)) (All (λ (l : Lit). l.var < 2 ^ 64))
      (λ ls h. All-weaker (IsLitWithin vars) (λ (l : Lit). l.var < 2 ^ 64) (λ l k. omega (arith, k.high, encodable.vars)) ls h)
      (problem_clauses o p) (problem-within o p within)

  pub weighted_reads : IsEncodable o p → WcnfReads (weighted_text o p) (hard_and_soft (problem_clauses o p) (softs_of p))
  weighted_reads encodable = written_wcnf_reads (offset_of p) (problem_clauses o p) (softs_of p) offset_small (clauses_fit encodable) softs_within
