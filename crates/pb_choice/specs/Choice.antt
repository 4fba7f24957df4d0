-- How a constraint is treated: the family that is chosen for what is left of it once its units are taken. Our own; by size, after common practice.
use Rattle.std.specs.Prelude.{ℕ, ◌≡◌, nat_lt, nat_le, length, if◌then◌else◌}
use Rattle.pb_norm.specs.declared.reduction.Rest.{Rest}
use Rattle.pb_norm.specs.declared.reduction.Rest.TheVariants as rest
use Rattle.pb_norm.specs.Constraints.{Constraint}
use Rattle.pb_norm.specs.BoundedSums.{BoundedSum}
use Rattle.pb_norm.specs.Reduction.{rest_of}
use Rattle.pb_base.specs.declared.options.Amo.{Amo}
use Rattle.pb_base.specs.declared.options.Amo.TheVariants as amo
use Rattle.pb_base.specs.declared.options.Card.{Card}
use Rattle.pb_base.specs.declared.options.Card.TheVariants as card
use Rattle.pb_base.specs.declared.options.General.{General}
use Rattle.pb_base.specs.declared.options.General.TheVariants as general
use Rattle.pb_base.specs.declared.options.Options.{Options}
use Rattle.pb_choice.specs.declared.treatment.Treatment.{Treatment}
use Rattle.pb_choice.specs.declared.treatment.Treatment.TheVariants as treatment
use Rattle.pb_choice.specs.Sums.{sum_fresh}

-- for at most one of so many literals
abbrev pub amo_treatment : Amo → ℕ → Treatment
amo_treatment amo.Auto n = if nat_le n 6 then treatment.Pairwise else (if nat_le n 30 then treatment.Ladder else treatment.Product)
amo_treatment amo.Pairwise n = treatment.Pairwise
amo_treatment amo.Ladder n = treatment.Ladder
amo_treatment amo.Product n = treatment.Product

-- for at most so many literals, before the budget is looked at
abbrev pub card_treatment : Card → ℕ → Treatment
card_treatment card.Auto bound = if nat_le bound 8 then treatment.Counter else treatment.Totalizer
card_treatment card.Counter bound = treatment.Counter
card_treatment card.Totalizer bound = treatment.Totalizer

-- for a sum with weights, before the budget is looked at
abbrev pub general_treatment : General → Treatment
general_treatment general.Diagram = treatment.Diagram
general_treatment general.Tree = treatment.Tree
general_treatment general.Adder = treatment.Adder

-- a family that needs more fresh variables than the budget gives way to the adder, however large that is
abbrev pub within_budget : ℕ → BoundedSum → Treatment → Treatment
within_budget budget m t = if nat_lt budget (sum_fresh t m) then treatment.Adder else t

-- the budget does not touch at most one
abbrev pub treatment_of : Options → Rest → Treatment
treatment_of o rest.Nothing = treatment.Nothing
treatment_of o rest.Empty = treatment.Empty
treatment_of o (rest.Clause ls) = treatment.Clause
treatment_of o (rest.One m) = amo_treatment o.amo (length m.terms)
treatment_of o (rest.Card m) = within_budget o.budget m (card_treatment o.card m.bound)
treatment_of o (rest.General m) = within_budget o.budget m (general_treatment o.general)

-- a constraint of whose clauses unit propagation may miss what it forces
abbrev pub IsSentToAdder : Options → Constraint → Type 0
IsSentToAdder o c = treatment_of o (rest_of c) ≡ treatment.Adder
