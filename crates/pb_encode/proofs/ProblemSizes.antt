-- The texts of a problem are no longer than the numbers of its summary say.
use Rattle.std.proofs.Common.{◌≡◌, ◌≤◌, ◌+◌, ◌-◌, ◌*◌, ◌^◌, ◌==◌, ℕ, Bool, true, false, cond, List, [], ◌∷◌, length, ap, sym, subst, ◌∙◌, arith}
use Rattle.std.proofs.Math.Nat.{mul-add, mul_assoc, mul_comm}
use Rattle.std.specs.Prelude.{All}
use Rattle.std.proofs.lemmas.List.Elements.{All-append, All-weaker}
use Rattle.std.proofs.lemmas.List.Sums.{sum_by-cons}
use Rattle.pb_base.specs.declared.problem.Problem.{Problem}
use Rattle.pb_base.specs.Problems.{IsProductWithin, IsWithinLimits, originals}
use Rattle.pb_norm.specs.Constraints.{Constraint, Weighted}
use Rattle.pb_norm.specs.Halves.{loaded}
use Rattle.pb_norm.specs.Products.{defining, loaded_of}
use Rattle.pb_norm.specs.Reduction.{rest_of}
use Rattle.pb_norm.proofs.Lengths.{ascending_few}
use Rattle.pb_base.specs.declared.options.Options.{Options}
use Rattle.pb_choice.specs.declared.treatment.Treatment.{Treatment}
use Rattle.pb_choice.specs.declared.treatment.Treatment.TheVariants as treatment
use Rattle.pb_choice.specs.Choice.{treatment_of}
use Rattle.pb_choice.specs.Equals.{is_joint}
use Rattle.pb_choice.proofs.Composition.{IsReady}
use Rattle.pb_encode.specs.Clauses.{problem_clauses, problem_count, problem_fresh, problem_vars}
use Rattle.pb_encode.specs.declared.groups.Group.{Group}
use Rattle.pb_encode.specs.declared.groups.Group.TheVariants.{Alone, Paired}
use Rattle.pb_encode.specs.Encodings.{derivation_text, problem_text}
use Rattle.pb_encode.specs.Groups.{group_size, groups_of, size_total}
use Rattle.pb_encode.specs.Sizes.{AreTextsWithin, HasAtMost, cnf_most, constraints_in}
use Rattle.pb_encode.specs.Steps.{problem_steps}
use Rattle.pb_encode.specs.Summaries.{IsEncodable, counted_at, fresh_in, joint_at, place_of, summary_of, treated, treated_in, treatments_of}
use Rattle.pb_encode.specs.Tables.{table_terms}
use Rattle.pb_encode.proofs.ChoiceLaws.{HasFewTerms}
use Rattle.pb_encode.proofs.DerivedProblems.{problem_bytes, terms_most}
use Rattle.pb_encode.proofs.GroupDerivations.{term_total}
use Rattle.pb_encode.proofs.GroupLists.{members_loaded, size_loaded}
use Rattle.pb_encode.proofs.HalfLists.{loaded_each}
use Rattle.pb_encode.proofs.HalfSizes.{half_short}
use Rattle.pb_encode.proofs.LiteralCounts.{problem_total}
use Rattle.pb_encode.proofs.ProductSizes.{defining_few}
use Rattle.pb_encode.proofs.Solutions.{clauses-count, loaded_ready, problem-within}
use Rattle.pb_encode.proofs.SoundGroups.{groups_light}
use Rattle.pb_encode.proofs.StepTexts.{text_size}
use Rattle.pb_encode.proofs.TableTerms.{table_fits, table_few}
use Rattle.pb_encode.proofs.TextSizes.{cnf_size}

-- ---- the treatments

abbrev over_places : (ℕ → ℕ) → ℕ
over_places f = f 0 + f 1 + f 2 + f 3 + f 4 + f 5 + f 6 + f 7 + f 8 + f 9 + f 10 + f 11

-- a constraint has one
one_place : (t : Treatment) → over_places (λ place. cond (place_of t == place) 1 0) ≡ 1
one_place treatment.Nothing = omega arith
one_place treatment.Empty = omega arith
one_place treatment.Clause = omega arith
one_place other = omega arith

group_places : (o : Options) (g : Group) → over_places (λ place. treated_in o place g) ≡ group_size g
group_places o (Alone c) = one_place (treatment_of o (rest_of c))
group_places o (Paired c d) = by_test (is_joint o c)
  where
    by_test : (b : Bool) → over_places (λ place. cond b (joint_at place) (counted_at o place c + counted_at o place d)) ≡ 2
    by_test true = omega arith
    by_test false = omega (arith, one_place (treatment_of o (rest_of c)), one_place (treatment_of o (rest_of d)))

places_total : (o : Options) (gs : List Group) → over_places (λ place. treated o place gs) ≡ size_total gs
places_total o [] = omega arith
places_total o (g ∷ gs) =
    let more : (place : ℕ) → treated o place (g ∷ gs) ≡ treated_in o place g + treated o place gs = λ place. sum_by-cons (treated_in o place) g gs in
    omega (
      arith,
      more 0,
      more 1,
      more 2,
      more 3,
      more 4,
      more 5,
      more 6,
      more 7,
      more 8,
      more 9,
      more 10,
      more 11,
      group_places o g,
      places_total o gs,
      sum_by-cons group_size g gs,
    )

-- so together they are as many as the loaded constraints
pub treatments_add_up : (o : Options) (p : Problem) → constraints_in (treatments_of o (groups_of p)) ≡ length (loaded_of p)
treatments_add_up o p = places_total o (groups_of p) ∙ size_loaded p

-- ---- the texts

-- 512 bytes a term
terms_parts : (most fresh n terms : ℕ) → terms ≤ most * (n + 1) → 512 * (fresh * most) + 512 * terms ≤ 512 * most * (fresh + n + 1)
terms_parts most fresh n terms few =
    let whole : 512 * most * (fresh + n + 1) ≡ 512 * (most * (fresh + (n + 1))) = let same : fresh + n + 1 ≡ fresh + (n + 1) = omega arith in ap (λ (k : ℕ). 512 * most * k) same ∙ mul_assoc 512 most (fresh + (n + 1)) in
    omega (arith, few, whole, mul-add most fresh (n + 1), mul_comm most fresh)

module _ (o : Options) (p : Problem) (within : IsWithinLimits p) (encodable : IsEncodable o p) where
  abbrev n : ℕ
  n = length (loaded_of p)

  -- neither a constraint nor the table has more terms
  module _ (most : ℕ) (short : All (HasFewTerms most) (loaded_of p)) (few : length (table_terms o p) ≤ most) where
    cnf_within : length (problem_text o p) ≤ cnf_most most (summary_of o p)
    cnf_within =
        let gs = groups_of p in
        let count = clauses-count o p within in
        omega (
          arith,
          cnf_size (problem_vars o p) encodable.vars (problem_clauses o p) (omega (arith, count, encodable.clauses)) (problem-within o p within),
          problem_total o most (originals p + 1) p (groups_light o p within) (subst (All (HasFewTerms most)) (sym (members_loaded p)) short),
          count,
          mul_assoc 12 most (treated o 2 gs),
        )

    abbrev Within : ℕ → ℕ → Type 0
    Within fresh count = length (derivation_text o p) ≤ 512 * most * (fresh + count + 1) + 2 ^ 20 * (fresh + problem_count o p + 4 * count + 4)

    steps_within : Within (problem_fresh o p) n
    steps_within =
        let terms : ℕ = term_total (loaded_of p) + length (table_terms o p) in
        omega (
          arith,
          text_size (problem_steps o p),
          problem_bytes o p within encodable most short few,
          terms_parts most (problem_fresh o p) n terms (omega (arith, terms_most most (loaded_of p) short, few, mul-add most n 1)),
        )

    fresh_is : problem_fresh o p ≡ fresh_in (summary_of o p)
    fresh_is = omega arith

    pub texts_within : AreTextsWithin most o p
    texts_within = record {
      cnf = cnf_within;
      derivation = subst (Within (fresh_in (summary_of o p))) (sym (treatments_add_up o p)) (subst (λ (fresh : ℕ). Within fresh n) fresh_is steps_within);
    }

  -- ---- by the longest statement

  module _ (most : ℕ) (has : HasAtMost most o p) where
    loaded_short : All (HasFewTerms most) (loaded_of p)
    loaded_short =
        All-append (HasFewTerms most) (defining (p.vars + 1) p.products) (loaded p.statements)
        (defining_few most (p.vars + 1) p.products (All-weaker (IsProductWithin p.vars) (λ ls. 2 ≤ length ls) (λ ls h. h.count_from) p.products within.products) has.products)
        (loaded_each (HasFewTerms most) (λ s. length s.terms ≤ most) (λ s half h. omega (arith, half_short half s, h)) p.statements has.statements)

    pub within_longest : AreTextsWithin most o p
    within_longest = texts_within most loaded_short (table_few o p most has.objective)

  -- ---- by the variables

  loaded_narrow : All (HasFewTerms (originals p)) (loaded_of p)
  loaded_narrow = All-weaker (IsReady o (originals p + 1)) (HasFewTerms (originals p)) narrow (loaded_of p) (loaded_ready o p within)
    where
      narrow : (c : Constraint) → IsReady o (originals p + 1) c → HasFewTerms (originals p) c
      narrow c ready =
          let none : Weighted = record { coef = 0; lit = record { var = 0; positive = true } } in
          omega (arith, ascending_few c.terms none (originals p + 1) ready.linear.ascending (λ some. (ready.within 0 none some).0) (λ some. (ready.within (length c.terms - 1) none (omega (arith, some))).1) (omega arith))

  pub within_variables : AreTextsWithin (originals p) o p
  within_variables = texts_within (originals p) loaded_narrow (omega (arith, (table_fits p within o).narrow))
