-- What numbers choose of an encoding. Our own.
use Rattle.std.specs.Prelude.{ℕ, ℤ, ◌==◌, Bool, true, false, Option, Some, None, option_and_then, if◌then◌else◌}
use Rattle.pb_base.specs.Budgets.{IsBudget, as_budget}
use Rattle.pb_base.specs.declared.options.Amo.{Amo}
use Rattle.pb_base.specs.declared.options.Amo.TheVariants as amo
use Rattle.pb_base.specs.declared.options.Card.{Card}
use Rattle.pb_base.specs.declared.options.Card.TheVariants as card
use Rattle.pb_base.specs.declared.options.EqualMode.{EqualMode}
use Rattle.pb_base.specs.declared.options.EqualMode.TheVariants as equal
use Rattle.pb_base.specs.declared.options.General.{General}
use Rattle.pb_base.specs.declared.options.General.TheVariants as general
use Rattle.pb_base.specs.declared.options.Options.{Options}
use Rattle.pbcnf_c.specs.declared.options.PbcnfBound.{PbcnfBound}
use Rattle.pbcnf_c.specs.declared.options.PbcnfOptions.{PbcnfOptions}
use Rattle.pb_columns.specs.Words.{wide}

abbrev pub amo_of : ℕ → Option Amo
amo_of n = if n == 0 then Some amo.Auto else if n == 1 then Some amo.Pairwise else if n == 2 then Some amo.Ladder else if n == 3 then Some amo.Product else None

abbrev pub card_of : ℕ → Option Card
card_of n = if n == 0 then Some card.Auto else if n == 1 then Some card.Counter else if n == 2 then Some card.Totalizer else None

abbrev pub general_of : ℕ → Option General
general_of n = if n == 0 then Some general.Diagram else if n == 1 then Some general.Tree else if n == 2 then Some general.Adder else None

abbrev pub equal_of : ℕ → Option EqualMode
equal_of n = if n == 0 then Some equal.Split else if n == 1 then Some equal.Joint else None

abbrev pub table_of : ℕ → Option Bool
table_of n = if n == 0 then Some false else if n == 1 then Some true else None

-- the options with this budget, where each other number is in its range
abbrev pub options_at : (chosen : PbcnfOptions) → IsBudget chosen.budget → Option Options
options_at chosen range = option_and_then (λ a. option_and_then (λ c. option_and_then (λ g. option_and_then (λ e. option_and_then (λ t.
    Some (record { amo = a; card = c; general = g; equal = e; budget = chosen.budget; table = t; low = range.0; high = range.1 }))
    (table_of chosen.table)) (equal_of chosen.equal)) (general_of chosen.general)) (card_of chosen.card)) (amo_of chosen.amo)

-- each number is in its range, or nothing is chosen
abbrev pub options_of : PbcnfOptions → Option Options
options_of chosen = option_and_then (options_at chosen) (as_budget chosen.budget)

-- the bound on the objective, if one is set
abbrev pub bound_of : PbcnfBound → Option ℤ
bound_of b = if b.set == 0 then None else Some (wide b.low b.high)
