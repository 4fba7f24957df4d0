-- The soft literals of a problem's objective, as those of its text.
use Rattle.std.proofs.Common.{◌≡◌, ◌∙◌, [], ◌∷◌, ℕ, ℤ, List, Option, ap, inl, inr, map, refl, subst, sym}
use Rattle.std.specs.Prelude.{◌⊎◌}
use Rattle.pb_base.specs.declared.literal.Lit.{Lit}
use Rattle.pb_base.specs.declared.literal.Term.{Term}
use Rattle.pb_base.specs.declared.problem.Problem.{Problem}
use Rattle.pb_base.specs.Literals.{negated}
use Rattle.pb_base.specs.Problems.{IsWithinLimits}
use Rattle.pb_encode.proofs.ModelCosts.{models_have_costs}
use Rattle.pb_norm.specs.Constraints.{terms_of, Weighted}
use Rattle.pb_norm.specs.Reduction.{opposite}
use Rattle.pb_suite.specs.declared.outcome.Outcome.{Outcome}
use Rattle.pb_suite.specs.declared.outcome.Outcome.TheVariants as outcome
use Rattle.pb_suite.specs.Denoted.{Denotes}
use Rattle.pb_suite.specs.Refusals.{RefusesOpb}
use Rattle.pbcnf_c.specs.declared.bounds.PbcnfRow.{PbcnfRow}
use Rattle.pbcnf_c.specs.declared.softs.PbcnfCosts.{PbcnfCosts}
use Rattle.pbcnf_c.specs.Bounds.{numbers_of}
use Rattle.pbcnf_c.specs.Put.{IsWanting}
use Rattle.pbcnf_c.specs.Rooms.{Ends}
use Rattle.pbcnf_c.specs.Softs.{no_costs, soft_row, AreSofts, AreSoftsOf, SoftsInto, StopsSofts}
use Rattle.pbcnf_c.specs.Softs.StopsSofts.{no_memory, refused}
use Rattle.pbcnf_c.proofs.Endings.{ends_as}

-- what a term costs where its literal is true
abbrev pub soft_numbers : Term → ℤ × ℤ × ℤ
soft_numbers t = numbers_of (t.coef, negated t.lit)

pub soft_rows : (ws : List Weighted) → map soft_numbers (terms_of ws) ≡ map numbers_of (map soft_row (map opposite ws))
soft_rows [] = refl
soft_rows (w ∷ ws) = ap (λ (rows : List (ℤ × ℤ × ℤ)). numbers_of (soft_row (opposite w)) ∷ rows) (soft_rows ws)

pub softened : (bound b : Option ℤ) (text : List ℕ) (p : Problem) (old new : List PbcnfRow) (told : PbcnfCosts) (answer : Outcome) → b ≡ bound → IsWithinLimits p → Denotes b text p → Ends (AreSoftsOf p) IsWanting no_costs old new told answer → SoftsInto bound text old new told answer
softened bound b text p old new told answer is within denotes puts =
    ends_as (AreSoftsOf p) (AreSofts bound text) IsWanting (StopsSofts bound text) no_costs old new told answer
    (λ items are. record { problem = p; denotes = subst (λ (x : Option ℤ). Denotes x text p) is denotes; softs = are; costs = λ o. models_have_costs o p within })
    (λ a wants. subst (StopsSofts bound text) (sym wants) no_memory) puts

pub not_softened : (bound b : Option ℤ) (text : List ℕ) (answer : Outcome) → b ≡ bound → (answer ≡ outcome.NoMemory) ⊎ RefusesOpb b text answer → StopsSofts bound text answer
not_softened bound b text answer is (inl wants) = subst (StopsSofts bound text) (sym wants) no_memory
not_softened bound b text answer is (inr refuses) = refused answer (subst (λ (x : Option ℤ). RefusesOpb x text answer) is refuses)
