-- Which numbers are budgets, and options with these. Our own.
use Rattle.std.specs.Prelude.{ℕ, ◌≤◌, Bool, true, false, T, leb, Option, Some, None, option_map}
use Rattle.std.proofs.Common.{lit≤}
use Rattle.pb_base.specs.declared.options.Amo.{Amo}
use Rattle.pb_base.specs.declared.options.Card.{Card}
use Rattle.pb_base.specs.declared.options.EqualMode.{EqualMode}
use Rattle.pb_base.specs.declared.options.General.{General}
use Rattle.pb_base.specs.declared.options.Options.{Options}

-- from 1 to 10,000,000
abbrev pub IsBudget : ℕ → Type 0
IsBudget n = (1 ≤ n) × (n ≤ 10000000)

-- what is made of a test that is passed
abbrev pub where_passed : {X : Type 0} (b : Bool) → (T b → Option X) → Option X
where_passed true make = make tt
where_passed false make = None

-- that a number is a budget, where it is one
abbrev pub as_budget : (n : ℕ) → Option (IsBudget n)
as_budget n = where_passed (leb 1 n) (λ low. where_passed (leb n 10000000) (λ high. Some (lit≤ low, lit≤ high)))

-- the options with these choices, where the number is a budget
abbrev pub options_with : Amo → Card → General → EqualMode → Bool → ℕ → Option Options
options_with a c g e t n =
    option_map (λ (range : IsBudget n). record { amo = a; card = c; general = g; equal = e; budget = n; table = t; low = range.0; high = range.1 }) (as_budget n)
