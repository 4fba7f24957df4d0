-- Worked examples: how constraints are treated, with how many fresh variables and clauses.
use Rattle.std.specs.Prelude.{◌≡◌, ℕ, ◌+◌, List, [], ◌∷◌, false, replicate, refl}
use Rattle.std.specs.Option.{unwrap_or}
use Rattle.std.proofs.Common.{lit≤}
use Rattle.pb_base.specs.Literals.{negated}
use Rattle.pb_norm.specs.Constraints.{Weighted, Constraint}
use Rattle.pb_norm.specs.Reduction.{rest_of}
use Rattle.pb_family.specs.Fresh.{positive_of}
use Rattle.pb_tree.specs.Tree.{split_within}
use Rattle.pb_adder.specs.Network.{digits_within}
use Rattle.pb_amo.specs.Product.{root_from, columns, rows, fresh_within, count_within}
use Rattle.pb_base.specs.declared.options.Amo.TheVariants as amo
use Rattle.pb_base.specs.declared.options.Card.TheVariants as card
use Rattle.pb_base.specs.declared.options.EqualMode.TheVariants as equal
use Rattle.pb_base.specs.declared.options.General.TheVariants as general
use Rattle.pb_base.specs.declared.options.Options.{Options}
use Rattle.pb_choice.specs.declared.treatment.Treatment.{Treatment}
use Rattle.pb_choice.specs.declared.treatment.Treatment.TheVariants as treatment
use Rattle.pb_choice.specs.Choice.{treatment_of}
use Rattle.pb_choice.specs.Clauses.{constraint_count, constraint_fresh}
use Rattle.pb_base.specs.Budgets.{options_with}
use Rattle.pb_base.specs.Defaults.{default_options}

-- coefficients of the negated variables from a number on
abbrev weighing : ℕ → List ℕ → List Weighted
weighing v [] = []
weighing v (a ∷ coefs) = record { coef = a; lit = negated (positive_of v) } ∷ weighing (v + 1) coefs

-- they are to reach a degree
abbrev reaching : ℕ → List ℕ → Constraint
reaching degree coefs = record { terms = weighing 1 coefs; degree = degree }

-- of so many literals, as many are to be true
abbrev some_of : ℕ → ℕ → Constraint
some_of degree n = reaching degree (replicate n 1)

-- the treatment, the fresh variables and the clauses
abbrev planned : Options → Constraint → Treatment × ℕ × ℕ
planned o c = (treatment_of o (rest_of c), constraint_fresh o c, constraint_count o c)

-- ---- without a family

pub nothing_to_say : planned default_options (some_of 0 2) ≡ (treatment.Nothing, 0, 0)
nothing_to_say = refl

pub out_of_reach : planned default_options (some_of 2 1) ≡ (treatment.Empty, 0, 1)
out_of_reach = refl

-- 5 ~x1 + 3 ~x2 + 2 ~x3 >= 6: the unit ~x1, and one of the others
pub unit_and_clause : planned default_options (reaching 6 (5 ∷ 3 ∷ 2 ∷ [])) ≡ (treatment.Clause, 0, 2)
unit_and_clause = refl

-- 3 ~x1 >= 2: the unit alone
pub unit_alone : planned default_options (reaching 2 (3 ∷ [])) ≡ (treatment.Nothing, 0, 1)
unit_alone = refl

-- ---- at most one, which the budget does not touch

abbrev narrow : ℕ → Options
narrow most = unwrap_or (options_with amo.Auto card.Auto general.Diagram equal.Split false most) default_options

pub one_of_six : planned (narrow 1) (some_of 5 6) ≡ (treatment.Pairwise, 0, 15)
one_of_six = refl

pub one_of_seven : planned (narrow 1) (some_of 6 7) ≡ (treatment.Ladder, 6, 17)
one_of_seven = refl

pub one_of_thirty : planned (narrow 1) (some_of 29 30) ≡ (treatment.Ladder, 29, 86)
one_of_thirty = refl

pub one_of_thirty_one : planned (narrow 1) (some_of 30 31) ≡ (treatment.Product, 22, 94)
unfolding root_from columns rows fresh_within count_within
one_of_thirty_one = refl

pub one_of_nine : planned (record default_options { amo = amo.Product }) (some_of 8 9) ≡ (treatment.Product, 6, 24)
unfolding root_from columns rows fresh_within count_within
one_of_nine = refl

pub one_of_three : planned (record default_options { amo = amo.Ladder }) (some_of 2 3) ≡ (treatment.Ladder, 2, 5)
one_of_three = refl

-- ---- cardinalities

pub eight_of_ten : planned default_options (some_of 2 10) ≡ (treatment.Counter, 72, 145)
eight_of_ten = refl

pub nine_of_eleven : planned default_options (some_of 2 11) ≡ (treatment.Totalizer, 38, 94)
unfolding split_within
nine_of_eleven = refl

-- ~x1 + ~x2 + ~x3 + ~x4 >= 2
pub two_of_four_by_counter : planned (record default_options { card = card.Counter; budget = 6; low = lit≤ tt; high = lit≤ tt }) (some_of 2 4) ≡ (treatment.Counter, 6, 13)
two_of_four_by_counter = refl

pub two_of_four_past_counter : planned (record default_options { card = card.Counter; budget = 5; low = lit≤ tt; high = lit≤ tt }) (some_of 2 4) ≡ (treatment.Adder, 6, 30)
unfolding digits_within
two_of_four_past_counter = refl

pub two_of_four_by_totalizer : planned (record default_options { card = card.Totalizer; budget = 7; low = lit≤ tt; high = lit≤ tt }) (some_of 2 4) ≡ (treatment.Totalizer, 7, 14)
unfolding split_within
two_of_four_by_totalizer = refl

pub two_of_four_past_totalizer : planned (record default_options { card = card.Totalizer; budget = 6; low = lit≤ tt; high = lit≤ tt }) (some_of 2 4) ≡ (treatment.Adder, 6, 30)
unfolding split_within digits_within
two_of_four_past_totalizer = refl

-- ---- weights: 4 ~x1 + 3 ~x2 + 2 ~x3 >= 4

abbrev weighted_three : Constraint
weighted_three = reaching 4 (4 ∷ 3 ∷ 2 ∷ [])

pub three_by_diagram : planned (narrow 3) weighted_three ≡ (treatment.Diagram, 3, 5)
three_by_diagram = refl

pub three_past_diagram : planned (narrow 2) weighted_three ≡ (treatment.Adder, 4, 16)
unfolding digits_within
three_past_diagram = refl

pub three_by_tree : planned (record default_options { general = general.Tree; budget = 8; low = lit≤ tt; high = lit≤ tt }) weighted_three ≡ (treatment.Tree, 8, 11)
unfolding split_within
three_by_tree = refl

pub three_past_tree : planned (record default_options { general = general.Tree; budget = 7; low = lit≤ tt; high = lit≤ tt }) weighted_three ≡ (treatment.Adder, 4, 16)
unfolding split_within digits_within
three_past_tree = refl

-- the adder has no budget
pub three_by_adder : planned (record default_options { general = general.Adder; budget = 1; low = lit≤ tt; high = lit≤ tt }) weighted_three ≡ (treatment.Adder, 4, 16)
unfolding digits_within
three_by_adder = refl
