-- What the code asks of the products whose values it tells.
use Rattle.std.specs.Prelude.{ℕ, ◌≤◌, List, All}
use Rattle.pb_base.specs.declared.literal.Lit.{Lit}

-- the products are over the first variables
abbrev pub AreOver : ℕ → List (List Lit) → Type 0
AreOver vars products = All (λ ls. All (λ l. l.var ≤ vars) ls) products
