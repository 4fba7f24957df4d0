-- Reifications in a row are within the limits of lines.
use Rattle.std.proofs.Common.{◌≤◌, ◌<◌, ◌+◌, ◌^◌, ℕ, List, [], ◌∷◌, length, arith}
use Rattle.std.specs.Prelude.{All}
use Rattle.std.proofs.lemmas.List.Elements.{All-nil, All-cons}
use Rattle.pb_norm.specs.Constraints.{Weighted, weight}
use Rattle.pb_norm.proofs.AdditionSizes.{weight-cons}
use Rattle.pb_steps.specs.Sayable.{IsVariable}
use Rattle.pb_derive.specs.Reifications.{Reification}
use Rattle.pb_derive.proofs.InRow.{AreInRow}
use Rattle.pb_derive.proofs.Justified.{IsReached}
use Rattle.pb_derive.proofs.Sayable.{IsSlimTerm, IsSlimReification}

-- no coefficient is more than all together
light_each : (ts : List Weighted) → weight ts < 2 ^ 126 → All (λ w. w.coef < 2 ^ 126) ts
light_each [] h = All-nil (λ (w : Weighted). w.coef < 2 ^ 126)
light_each (w ∷ ts) h = let sum = weight-cons w ts in All-cons (λ (w : Weighted). w.coef < 2 ^ 126) w ts (omega arith) (light_each ts (omega arith))

pub slim_terms : (ts : List Weighted) → weight ts < 2 ^ 126 → All (λ w. IsVariable w.lit.var) ts → All IsSlimTerm ts
slim_terms ts light variables = let coefs = light_each ts light in λ k d within. (coefs k d within, variables k d within)

row_variables : (first : ℕ) (ms : List Reification) → AreInRow first ms → 1 ≤ first → first + length ms ≤ 2 ^ 31 → All (λ m. IsVariable m.var) ms
row_variables first [] h low high = All-nil (λ (m : Reification). IsVariable m.var)
row_variables first (m ∷ ms) h low high = let is = h.0 in All-cons (λ (m : Reification). IsVariable m.var) m ms (omega arith, omega arith) (row_variables (first + 1) ms h.1 (omega arith) (omega arith))

pub row_slim : (first : ℕ) (ms : List Reification) → AreInRow first ms → 1 ≤ first → first + length ms ≤ 2 ^ 31 → All (IsReached first) ms → All (λ m. All IsSlimTerm m.sum) ms → All IsSlimReification ms
row_slim first ms row low high fit sums =
    let vars = row_variables first ms row low high in
    λ k d within.
    let own = fit k d within in
    let reached = own.reached in
    let light = own.light in
    record { sum = sums k d within; var = vars k d within; light = omega (arith, reached, light) }
