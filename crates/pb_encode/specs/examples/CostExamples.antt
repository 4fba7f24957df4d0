-- Worked examples of objectives as costs.
use Rattle.std.specs.Prelude.{◌≡◌, ℕ, Bool, true, false, ℤ, pos, negsuc, Option, Some, None, List, [], ◌∷◌, refl}
use Rattle.pb_base.specs.declared.literal.Term.{Term}
use Rattle.pb_base.specs.declared.problem.Problem.{Problem}
use Rattle.pb_base.specs.Literals.{assigned_by}
use Rattle.pb_norm.specs.Constraints.{Weighted}
use Rattle.pb_encode.specs.Costs.{cost_under, offset_of, softs_of}

abbrev term : ℤ → ℕ → Bool → Term
term coef v positive = record { coef = coef; lit = record { var = v; positive = positive } }

abbrev soft : ℕ → ℕ → Bool → Weighted
soft coef v positive = record { coef = coef; lit = record { var = v; positive = positive } }

abbrev minimising : Option (List Term) → Problem
minimising o = record { vars = 3; numbered = 3; names = []; products = []; objective = o; statements = [] }

-- 3 for the first, less 1 where the second is false: 1 less in any case, and 1 for the second
abbrev costly : Problem
costly = minimising (Some (term (pos 3) 1 true ∷ term (negsuc 0) 2 false ∷ []))

pub offset_below_zero : offset_of costly ≡ negsuc 0
offset_below_zero = refl

pub a_cost_for_each : softs_of costly ≡ soft 3 1 false ∷ soft 1 2 false ∷ []
a_cost_for_each = refl

pub cost_of_the_first : cost_under (assigned_by (true ∷ false ∷ [])) (softs_of costly) ≡ 3
cost_of_the_first = refl

-- a variable that cancels costs nothing, and one that comes again has one line
abbrev cancelling : Problem
cancelling = minimising (Some (term (pos 2) 3 true ∷ term (pos 2) 1 true ∷ term (pos 2) 3 false ∷ term (pos 3) 1 true ∷ []))

pub what_cancels : offset_of cancelling ≡ pos 2
what_cancels = refl

pub what_is_left : softs_of cancelling ≡ soft 5 1 false ∷ []
what_is_left = refl

-- a variable that is wanted true costs where it is false
pub a_gain : softs_of (minimising (Some (term (negsuc 6) 2 true ∷ []))) ≡ soft 7 2 true ∷ []
a_gain = refl

pub offset_of_a_gain : offset_of (minimising (Some (term (negsuc 6) 2 true ∷ []))) ≡ negsuc 6
offset_of_a_gain = refl

pub no_objective : softs_of (minimising None) ≡ []
no_objective = refl

pub no_offset : offset_of (minimising None) ≡ pos 0
no_offset = refl
