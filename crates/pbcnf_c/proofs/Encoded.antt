-- What is put of a problem that is ready, as what is put of its text.
use Rattle.std.proofs.Common.{◌≡◌, ◌∙◌, ◌++◌, [], List, ℕ, ℤ, Option, ap, arith, flat_map, length, refl, subst, sym}
use Rattle.std.specs.Prelude.{All}
use Rattle.pb_check.specs.Walk.{Accepts}
use Rattle.pb_dimacs.specs.CnfReading.{clause_numbers}
use Rattle.pb_dimacs.specs.CnfText.{header_text}
use Rattle.pb_encode.specs.declared.summary.Summary.{Summary}
use Rattle.pb_encode.specs.Clauses.{problem_clauses, problem_vars}
use Rattle.pb_encode.specs.Encodings.{derivation_text, problem_text}
use Rattle.pb_encode.proofs.Solutions.{clauses-count, problem-within}
use Rattle.pb_family.specs.ClauseText.{clauses_text, led_text}
use Rattle.pb_suite.specs.declared.outcome.Outcome.{Outcome}
use Rattle.pb_suite.proofs.Derives.{texts_accepted}
use Rattle.pb_suite.proofs.Encodes.{encoding}
use Rattle.pbcnf_c.specs.declared.options.PbcnfOptions.{PbcnfOptions}
use Rattle.pbcnf_c.specs.declared.ready.Ready.{Ready}
use Rattle.pbcnf_c.specs.declared.size.PbcnfSize.{PbcnfSize}
use Rattle.pbcnf_c.specs.Exports.{AreClauses, DerivesInto, EncodesInto, HandsInto, IsCnf, IsDerivation}
use Rattle.pbcnf_c.specs.Integers.{integers_text, IsSmall}
use Rattle.pbcnf_c.specs.Put.{IsSized, IsWanting, PutsOf}
use Rattle.pbcnf_c.specs.Ready.{IsReady, IsReadyFor, StopsEncoding}
use Rattle.pbcnf_c.specs.Ready.StopsEncoding.{no_memory}
use Rattle.pbcnf_c.specs.Sizes.{no_size, problem_size}
use Rattle.pbcnf_c.proofs.Endings.{ends_as}
use Rattle.pbcnf_c.proofs.Exact.{exact}

-- ---- what is made of a problem

-- a p line and the lines of the clauses are its text
pub is_text : (r : Ready) (lines : List ℕ) → IsReady r → lines ≡ header_text r.summary.vars r.summary.clauses ++ led_text [] (problem_clauses r.options r.problem) → lines ≡ problem_text r.options r.problem
is_text r lines ready written =
    let o = r.options in
    let p = r.problem in
    written ∙ ap (λ (x : Summary). header_text x.vars x.clauses ++ clauses_text (problem_clauses o p)) ready.summary
    ∙ ap (λ (n : ℕ). header_text (problem_vars o p) n ++ clauses_text (problem_clauses o p)) (sym (clauses-count o p ready.within))

-- integers whose text is that of the clauses are the clauses' numbers
pub are_numbers : (r : Ready) (zs : List ℤ) → IsReady r → All IsSmall zs → integers_text zs ≡ led_text [] (problem_clauses r.options r.problem) → zs ≡ flat_map clause_numbers (problem_clauses r.options r.problem)
are_numbers r zs ready small written =
    let few = ready.encodable.vars in
    exact (problem_vars r.options r.problem) (problem_clauses r.options r.problem) zs (omega (arith, few)) (problem-within r.options r.problem ready.within) small written

-- ---- what it is of the text

is_cnf : (chosen : PbcnfOptions) (bound : Option ℤ) (text : List ℕ) (r : Ready) (size : PbcnfSize) → IsReady r → IsReadyFor chosen bound text r → size ≡ problem_size r.options r.problem (length (problem_text r.options r.problem)) → IsCnf chosen bound text (problem_text r.options r.problem) size
unfolding encoding
is_cnf chosen bound text r size ready denoted sized = record {
  options = r.options;
  chosen_are = denoted.chosen_are;
  encoding = encoding r.options bound text r.problem denoted.denotes ready.encodable;
  exact = refl;
  size_is = sized;
}

are_clauses : (chosen : PbcnfOptions) (bound : Option ℤ) (text : List ℕ) (r : Ready) (zs : List ℤ) (size : PbcnfSize) → IsReady r → IsReadyFor chosen bound text r → IsSized (flat_map clause_numbers (problem_clauses r.options r.problem)) r zs size → AreClauses chosen bound text zs size
unfolding encoding
are_clauses chosen bound text r zs size ready denoted sized = record {
  options = r.options;
  cnf = problem_text r.options r.problem;
  chosen_are = denoted.chosen_are;
  encoding = encoding r.options bound text r.problem denoted.denotes ready.encodable;
  exact = refl;
  integers_are = sized.0;
  size_is = sized.1;
}

is_derivation : (chosen : PbcnfOptions) (bound : Option ℤ) (text : List ℕ) (r : Ready) (proof : List ℕ) (size : PbcnfSize) → IsReady r → IsReadyFor chosen bound text r → IsSized (derivation_text r.options r.problem) r proof size → IsDerivation chosen bound text proof size
is_derivation chosen bound text r proof size ready denoted sized = record {
  options = r.options;
  problem = r.problem;
  chosen_are = denoted.chosen_are;
  denotes = denoted.denotes;
  accepted = subst (λ (xs : List ℕ). Accepts r.problem (problem_text r.options r.problem) xs) (sym sized.0) (texts_accepted r.options bound text r.problem denoted.denotes ready.encodable);
  exact = sized.0;
  size_is = sized.1;
}

-- ---- what the calls answer

pub wanting : (chosen : PbcnfOptions) (bound : Option ℤ) (text : List ℕ) (answer : Outcome) → IsWanting answer → StopsEncoding chosen bound text answer
wanting chosen bound text answer is = subst (StopsEncoding chosen bound text) (sym is) no_memory

pub encoded : (chosen : PbcnfOptions) (bound : Option ℤ) (text : List ℕ) (r : Ready) (old new : List ℕ) (size : PbcnfSize) (answer : Outcome) → IsReady r → IsReadyFor chosen bound text r → PutsOf (problem_text r.options r.problem) r old new size answer → EncodesInto chosen bound text old new size answer
encoded chosen bound text r old new size answer ready denoted puts =
    let due = problem_text r.options r.problem in
    ends_as (IsSized due r) (IsCnf chosen bound text) IsWanting (StopsEncoding chosen bound text) no_size old new size answer
    (λ items is. subst (λ (xs : List ℕ). IsCnf chosen bound text xs size) (sym is.0) (is_cnf chosen bound text r size ready denoted (is.1 ∙ ap (λ (xs : List ℕ). problem_size r.options r.problem (length xs)) is.0)))
    (wanting chosen bound text) puts

pub handed : (chosen : PbcnfOptions) (bound : Option ℤ) (text : List ℕ) (r : Ready) (old new : List ℤ) (size : PbcnfSize) (answer : Outcome) → IsReady r → IsReadyFor chosen bound text r → PutsOf (flat_map clause_numbers (problem_clauses r.options r.problem)) r old new size answer → HandsInto chosen bound text old new size answer
handed chosen bound text r old new size answer ready denoted puts =
    ends_as (IsSized (flat_map clause_numbers (problem_clauses r.options r.problem)) r) (AreClauses chosen bound text) IsWanting (StopsEncoding chosen bound text) no_size old new size answer
    (λ items is. are_clauses chosen bound text r items size ready denoted is) (wanting chosen bound text) puts

pub derived : (chosen : PbcnfOptions) (bound : Option ℤ) (text : List ℕ) (r : Ready) (old new : List ℕ) (size : PbcnfSize) (answer : Outcome) → IsReady r → IsReadyFor chosen bound text r → PutsOf (derivation_text r.options r.problem) r old new size answer → DerivesInto chosen bound text old new size answer
derived chosen bound text r old new size answer ready denoted puts =
    ends_as (IsSized (derivation_text r.options r.problem) r) (IsDerivation chosen bound text) IsWanting (StopsEncoding chosen bound text) no_size old new size answer
    (λ items is. is_derivation chosen bound text r items size ready denoted is) (wanting chosen bound text) puts
