-- Worked examples of operations and denials, which the check computes.
use Rattle.std.specs.Prelude.{◌≡◌, ℕ, pos, Bool, true, false, [], ◌∷◌, Some, None, refl}
use Rattle.pb_base.specs.declared.literal.Lit.{Lit}
use Rattle.pb_base.specs.declared.literal.Term.{Term}
use Rattle.pb_norm.specs.Constraints.{Weighted, Constraint}
use Rattle.pb_norm.specs.ClauseForm.{clause_form}
use Rattle.pb_norm.specs.Halves.{written}
use Rattle.pb_steps.specs.declared.denied.Denied.TheVariants.{UnknownVar, UnknownId, Stack, Width, SetsOriginal, NoClause, NotImplied, OutDeleted}
use Rattle.pb_steps.specs.declared.op.Set.{Set}
use Rattle.pb_steps.specs.declared.op.PolOp.TheVariants.{Push, Add, Mul, Div, Saturate, Weaken}
use Rattle.pb_steps.specs.declared.step.Step.TheVariants.{Pol, Rup, Red, Del, Out}
use Rattle.pb_steps.specs.Operations.{negation, implies}
use Rattle.pb_steps.specs.Database.{Database, loaded_database, marked, reduced}
use Rattle.pb_steps.specs.Stacks.{height_from, is_stacked, after_ops}
use Rattle.pb_steps.specs.Substitutions.{restriction}
use Rattle.pb_steps.specs.Denials.{seen_denial}

-- the literals of a number
abbrev x : ℕ → Lit
x v = record { var = v; positive = true }

abbrev not_x : ℕ → Lit
not_x v = record { var = v; positive = false }

abbrev times : ℕ → Lit → Weighted
times n l = record { coef = n; lit = l }

abbrev term : ℕ → Lit → Term
term n l = record { coef = pos n; lit = l }

abbrev to : ℕ → Bool → Set
to v b = record { var = v; value = b }

-- x1 + x2 = 1, in two halves
abbrev equation : Database
equation = loaded_database 2 2 (
    record { terms = times 1 (x 1) ∷ times 1 (x 2) ∷ []; degree = 1 }
    ∷ record { terms = times 1 (not_x 1) ∷ times 1 (not_x 2) ∷ []; degree = 1 } ∷ [])

-- 5 x1 + 3 x2 + 2 x3 >= 6
abbrev heavy : Constraint
heavy = record { terms = times 5 (x 1) ∷ times 3 (x 2) ∷ times 2 (x 3) ∷ []; degree = 6 }

abbrev one_heavy : Database
one_heavy = loaded_database 3 3 (heavy ∷ [])

-- ---- operations

pub weakened_and_saturated : after_ops one_heavy.live (Push 1 ∷ Weaken 1 ∷ Saturate ∷ []) [] ≡ Some (record { terms = times 1 (x 2) ∷ times 1 (x 3) ∷ []; degree = 1 } ∷ [])
weakened_and_saturated = refl

pub halves_added : after_ops equation.live (Push 1 ∷ Push 2 ∷ Add ∷ []) [] ≡ Some (record { terms = []; degree = 0 } ∷ [])
halves_added = refl

-- a full adder: x4 is the carry, x5 the sum bit; twice the carry's constraint and the sum bit's, divided by 3
pub full_adder : after_ops (loaded_database 5 5 (
    record { terms = times 1 (x 1) ∷ times 1 (x 2) ∷ times 1 (x 3) ∷ times 2 (not_x 4) ∷ []; degree = 2 }
    ∷ record { terms = times 1 (x 1) ∷ times 1 (x 2) ∷ times 1 (x 3) ∷ times 2 (not_x 4) ∷ times 3 (not_x 5) ∷ []; degree = 3 } ∷ [])).live
    (Push 1 ∷ Mul (pos 2) ∷ Push 2 ∷ Add ∷ Div (pos 3) ∷ []) []
    ≡ Some (record { terms = times 1 (x 1) ∷ times 1 (x 2) ∷ times 1 (x 3) ∷ times 2 (not_x 4) ∷ times 1 (not_x 5) ∷ []; degree = 3 } ∷ [])
full_adder = refl

-- ---- how high a stack is

pub as_high_as_can_be : height_from 65535 (Push 1 ∷ []) ≡ Some 65536
as_high_as_can_be = refl

pub too_high : height_from 65536 (Push 1 ∷ []) ≡ None
too_high = refl

pub two_are_left : is_stacked (Push 1 ∷ Push 2 ∷ []) ≡ false
two_are_left = refl

-- ---- negation, substitution, implication

pub negated : negation heavy ≡ record { terms = times 5 (not_x 1) ∷ times 3 (not_x 2) ∷ times 2 (not_x 3) ∷ []; degree = 5 }
negated = refl

pub restricted_both_ways : restriction (to 1 true ∷ to 3 false ∷ []) heavy ≡ record { terms = times 3 (x 2) ∷ []; degree = 1 }
restricted_both_ways = refl

pub a_clause_is_implied : implies (record { terms = times 1 (x 2) ∷ times 1 (x 3) ∷ []; degree = 1 }) (clause_form (x 3 ∷ x 2 ∷ [])) ≡ true
a_clause_is_implied = refl

-- 2 x1 + 2 x2 >= 2 does not imply x1 + x2 >= 1 term by term
pub not_term_by_term : implies (record { terms = times 2 (x 1) ∷ times 2 (x 2) ∷ []; degree = 2 }) (clause_form (x 1 ∷ x 2 ∷ [])) ≡ false
not_term_by_term = refl

-- ---- reification: x4 means x1 + x2 + x3 >= 2

abbrev first : Constraint
first = written (term 2 (not_x 4) ∷ term 1 (x 1) ∷ term 1 (x 2) ∷ term 1 (x 3) ∷ []) (pos 2)

abbrev second : Constraint
second = written (term 2 (x 4) ∷ term 1 (not_x 1) ∷ term 1 (not_x 2) ∷ term 1 (not_x 3) ∷ []) (pos 2)

-- each is met by itself, and the second one on the first
pub first_on_itself : implies (negation first) (restriction (to 4 false ∷ []) first) ≡ true
first_on_itself = refl

pub second_on_itself : implies (negation second) (restriction (to 4 true ∷ []) second) ≡ true
second_on_itself = refl

pub second_on_first : implies (negation second) (restriction (to 4 true ∷ []) first) ≡ true
second_on_first = refl

-- ---- denials

pub nothing_left : seen_denial equation (Pol []) None ≡ Some Stack
nothing_left = refl

pub operand_lacking : seen_denial equation (Pol (Push 1 ∷ Add ∷ [])) None ≡ Some Stack
operand_lacking = refl

-- the id before the stack
pub unknown_before_stack : seen_denial equation (Pol (Push 1 ∷ Push 2 ∷ Add ∷ Push 3 ∷ [])) None ≡ Some (UnknownId 3)
unknown_before_stack = refl

pub too_wide : seen_denial equation (Pol (Push 1 ∷ Mul (pos 42535295865117307932921825928971026432) ∷ [])) None ≡ Some Width
too_wide = refl

pub wide_enough : seen_denial equation (Pol (Push 1 ∷ Mul (pos 42535295865117307932921825928971026431) ∷ [])) None ≡ None
wide_enough = refl

pub no_such_variable : seen_denial equation (Rup (term 1 (x 3) ∷ []) (pos 1) []) None ≡ Some (UnknownVar 3)
no_such_variable = refl

pub sets_an_original : seen_denial equation (Red (term 1 (x 1) ∷ []) (pos 1) (to 1 true ∷ [])) None ≡ Some (SetsOriginal 1)
sets_an_original = refl

pub deleted_twice : seen_denial equation (Del (1 ∷ 1 ∷ [])) None ≡ Some (UnknownId 1)
deleted_twice = refl

pub deletes_an_output : seen_denial (marked equation 2) (Del (1 ∷ 2 ∷ [])) None ≡ Some (OutDeleted 2)
deletes_an_output = refl

-- what was deleted is no longer there
pub deleted_before : seen_denial (reduced equation (1 ∷ [])) (Out 1) (Some (x 1 ∷ x 2 ∷ [])) ≡ Some (UnknownId 1)
deleted_before = refl

pub no_clause_left : seen_denial equation (Out 1) None ≡ Some NoClause
no_clause_left = refl

pub another_clause : seen_denial equation (Out 2) (Some (x 1 ∷ x 2 ∷ [])) ≡ Some (NotImplied 2)
another_clause = refl

pub its_clause : seen_denial equation (Out 1) (Some (x 2 ∷ x 1 ∷ [])) ≡ None
its_clause = refl
