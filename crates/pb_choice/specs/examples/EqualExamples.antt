-- Worked examples: equalities, with how many fresh variables and clauses, and the steps that divide their halves.
use Rattle.std.specs.Prelude.{◌≡◌, ℕ, ◌+◌, ◌-◌, Bool, true, false, pos, List, [], ◌∷◌, map, take, refl}
use Rattle.std.specs.Option.{unwrap_or}
use Rattle.pb_norm.specs.Constraints.{Weighted, Constraint, weight}
use Rattle.pb_norm.specs.Reduction.{opposite}
use Rattle.pb_steps.specs.declared.op.PolOp.TheVariants.{Push, Div}
use Rattle.pb_steps.specs.declared.step.Step.TheVariants.{Pol}
use Rattle.pb_family.specs.Fresh.{positive_of}
use Rattle.pb_tree.specs.Tree.{split_within}
use Rattle.pb_base.specs.declared.options.Amo.TheVariants as amo
use Rattle.pb_base.specs.declared.options.Card.TheVariants as card
use Rattle.pb_base.specs.declared.options.EqualMode.TheVariants as equal
use Rattle.pb_base.specs.declared.options.General.TheVariants as general
use Rattle.pb_base.specs.declared.options.Options.{Options}
use Rattle.pb_base.specs.Budgets.{options_with}
use Rattle.pb_base.specs.Defaults.{default_options}
use Rattle.pb_choice.specs.Equals.{equality_count, equality_fresh, is_joint}
use Rattle.pb_choice.specs.EqualitySteps.{equality_steps}

-- coefficients of the variables from a number on
abbrev weighing : ℕ → List ℕ → List Weighted
weighing v [] = []
weighing v (a ∷ coefs) = record { coef = a; lit = positive_of v } ∷ weighing (v + 1) coefs

-- the halves of an equality with them
abbrev lower : ℕ → List ℕ → Constraint
lower degree coefs = record { terms = weighing 1 coefs; degree = degree }

abbrev upper : ℕ → List ℕ → Constraint
upper degree coefs = record { terms = map opposite (weighing 1 coefs); degree = weight (weighing 1 coefs) - degree }

-- whether it is encoded as one, the fresh variables and the clauses
abbrev planned : Options → ℕ → List ℕ → Bool × ℕ × ℕ
planned o degree coefs = (is_joint o (lower degree coefs), equality_fresh o (lower degree coefs) (upper degree coefs), equality_count o (lower degree coefs) (upper degree coefs))

abbrev joint : ℕ → Options
joint most = unwrap_or (options_with amo.Auto card.Auto general.Diagram equal.Joint false most) default_options

-- x1 + x2 + x3 = 1
pub one_of_three : planned (joint 50000) 1 (1 ∷ 1 ∷ 1 ∷ []) ≡ (true, 4, 15)
unfolding split_within
one_of_three = refl

pub one_of_three_by_default : planned default_options 1 (1 ∷ 1 ∷ 1 ∷ []) ≡ (false, 0, 4)
one_of_three_by_default = refl

-- the budget is that of the one, and where it is passed there are the two
pub within_the_budget : planned (joint 4) 1 (1 ∷ 1 ∷ 1 ∷ []) ≡ (true, 4, 15)
unfolding split_within
within_the_budget = refl

pub past_the_budget : planned (joint 3) 1 (1 ∷ 1 ∷ 1 ∷ []) ≡ (false, 0, 4)
unfolding split_within
past_the_budget = refl

-- two literals are too few
pub one_of_two : planned (joint 50000) 1 (1 ∷ 1 ∷ []) ≡ (false, 0, 2)
one_of_two = refl

-- 2 x1 + 2 x2 + 2 x3 = 4
pub one_coefficient : planned (joint 50000) 4 (2 ∷ 2 ∷ 2 ∷ []) ≡ (true, 5, 18)
unfolding split_within
one_coefficient = refl

-- 2 x1 + 2 x2 + 2 x3 = 3, which nothing satisfies
pub no_number : planned (joint 50000) 3 (2 ∷ 2 ∷ 2 ∷ []) ≡ (false, 0, 6)
no_number = refl

pub none_of_three : planned (joint 50000) 0 (1 ∷ 1 ∷ 1 ∷ []) ≡ (false, 0, 3)
none_of_three = refl

pub all_of_three : planned (joint 50000) 3 (1 ∷ 1 ∷ 1 ∷ []) ≡ (false, 0, 3)
all_of_three = refl

-- x1 + x2 + 2 x3 = 2
pub two_coefficients : is_joint (joint 50000) (lower 2 (1 ∷ 1 ∷ 2 ∷ [])) ≡ false
two_coefficients = refl

-- 2 x1 + 2 x2 + 2 x3 = 4, whose halves have the ids 1 and 2
pub divided_first : take 2 (equality_steps (joint 50000) (lower 4 (2 ∷ 2 ∷ 2 ∷ [])) (upper 4 (2 ∷ 2 ∷ 2 ∷ [])) 4 1 2 3) ≡ Pol (Push 1 ∷ Div (pos 2) ∷ []) ∷ Pol (Push 2 ∷ Div (pos 2) ∷ []) ∷ []
unfolding split_within
divided_first = refl
