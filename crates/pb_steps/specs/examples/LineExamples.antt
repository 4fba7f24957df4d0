-- Worked examples of lines, which the check computes.
use Rattle.std.specs.Prelude.{◌≡◌, ◌^◌, ℕ, [], ◌∷◌, Result, Ok, Err, pos, negsuc, true, false, codes, refl}
use Rattle.pb_base.specs.declared.literal.Lit.{Lit}
use Rattle.pb_base.specs.declared.expected.Expected.{Expected}
use Rattle.pb_base.specs.declared.expected.Expected.TheVariants as expected
use Rattle.pb_base.specs.declared.limit.LimitKind.TheVariants.{Number, Variables}
use Rattle.pb_steps.specs.declared.fault.StepFault.{StepFault}
use Rattle.pb_steps.specs.declared.fault.StepFault.TheVariants.{Token, Limit}
use Rattle.pb_steps.specs.declared.step.Step.{Step}
use Rattle.pb_steps.specs.declared.step.Step.TheVariants as step
use Rattle.pb_steps.specs.declared.op.PolOp.TheVariants.{Push, Axiom, Add, Mul, Div, Saturate, Weaken}
use Rattle.pb_steps.specs.LineSteps.{step_of}

abbrev plus : ℕ → Lit
plus v = record { var = v; positive = true }

abbrev minus : ℕ → Lit
minus v = record { var = v; positive = false }

-- refused at a column, where this could have stood
abbrev refused_at : ℕ → Expected → Result Step StepFault
refused_at column e = Err (Token column e)

pub no_operation : step_of (codes "pol") ≡ Ok (step.Pol [])
no_operation = refl

pub one_operand : step_of (codes "pol 1 +") ≡ Ok (step.Pol (Push 1 ∷ Add ∷ []))
one_operand = refl

pub unknown_third : step_of (codes "pol 1 2 + 3") ≡ Ok (step.Pol (Push 1 ∷ Push 2 ∷ Add ∷ Push 3 ∷ []))
unknown_third = refl

pub a_factor_of_zero : step_of (codes "pol 1 0 d") ≡ refused_at 7 expected.Factor
a_factor_of_zero = refl

pub a_literal_times : step_of (codes "pol x1 *") ≡ refused_at 8 expected.Operand
a_literal_times = refl

pub a_wide_product : step_of (codes "pol 1 42535295865117307932921825928971026432 *") ≡ Ok (step.Pol (Push 1 ∷ Mul (pos (2 ^ 125)) ∷ []))
a_wide_product = refl

pub a_wide_factor : step_of (codes "pol 1 85070591730234615865843651857942052864 *") ≡ Err (Limit 7 Number)
a_wide_factor = refl

pub every_operation : step_of (codes "pol 1 2 + 3 d 4 * s x2 ~x3 w 007") ≡ Ok (step.Pol (Push 1 ∷ Push 2 ∷ Add ∷ Div (pos 3) ∷ Mul (pos 4) ∷ Saturate ∷ Axiom (plus 2) ∷ Weaken 3 ∷ Push 7 ∷ []))
every_operation = refl

pub a_rup : step_of (codes "rup +1 x3 >= 1 ;") ≡ Ok (step.Rup (record { coef = pos 1; lit = plus 3 } ∷ []) (pos 1) [])
a_rup = refl

pub a_rup_with_ids : step_of (codes "\trup -2  ~x3 0 x1 >= -4 ; 5 6\r") ≡ Ok (step.Rup (record { coef = negsuc 1; lit = minus 3 } ∷ record { coef = pos 0; lit = plus 1 } ∷ []) (negsuc 3) (5 ∷ 6 ∷ []))
a_rup_with_ids = refl

pub no_bit : step_of (codes "red +1 x1 >= 0 ; x2 -> 2") ≡ refused_at 24 expected.Bit
no_bit = refl

pub variables_that_do_not_ascend : step_of (codes "red >= 0 ; x2 -> 1 x2 -> 0") ≡ refused_at 20 expected.SetVar
variables_that_do_not_ascend = refl

pub two_sets : step_of (codes "red >= 0 ; x2 -> 1 x7 -> 0") ≡ Ok (step.Red [] (pos 0) (record { var = 2; value = true } ∷ record { var = 7; value = false } ∷ []))
two_sets = refl

pub the_same_id_twice : step_of (codes "del 1 1") ≡ Ok (step.Del (1 ∷ 1 ∷ []))
the_same_id_twice = refl

pub no_id : step_of (codes "del \r") ≡ refused_at 6 expected.Id
no_id = refl

pub a_great_id : step_of (codes "out 9223372036854775808") ≡ Err (Limit 5 Number)
a_great_id = refl

-- an id that is too great, though a factor may be as great
pub a_great_push : step_of (codes "pol 9223372036854775808 +") ≡ Err (Limit 5 Number)
a_great_push = refl

pub a_great_variable : step_of (codes "pol x2147483648 w") ≡ Err (Limit 5 Variables)
a_great_variable = refl

pub the_head : step_of (codes "pseudo-Boolean derivation profile 1") ≡ Ok step.Head
the_head = refl

pub another_profile : step_of (codes "pseudo-Boolean derivation profile 2") ≡ refused_at 35 expected.Head
another_profile = refl

pub a_word_too_many : step_of (codes "pseudo-Boolean derivation profile 1 2") ≡ refused_at 37 expected.LineEnd
a_word_too_many = refl

pub the_loaded : step_of (codes "f 3") ≡ Ok (step.Loaded 3)
the_loaded = refl

pub no_loaded_count : step_of (codes "f") ≡ refused_at 2 expected.LoadedCount
no_loaded_count = refl

pub a_comment : step_of (codes " *pol") ≡ Ok step.Blank
a_comment = refl

pub an_empty_line : step_of [] ≡ Ok step.Blank
an_empty_line = refl

pub the_end : step_of (codes "end") ≡ Ok step.End
the_end = refl

pub an_unknown_word : step_of (codes "foo") ≡ refused_at 1 expected.StepWord
an_unknown_word = refl

pub a_missing_semicolon : step_of (codes "rup +1 x1 >= 1") ≡ refused_at 15 expected.Semicolon
a_missing_semicolon = refl

pub a_missing_literal : step_of (codes "rup +1 >= 1 ;") ≡ refused_at 8 expected.Literal
a_missing_literal = refl

pub a_set_variable : step_of (codes "red +1 x1 >= 1 ; x1 -> 1") ≡ Ok (step.Red (record { coef = pos 1; lit = plus 1 } ∷ []) (pos 1) (record { var = 1; value = true } ∷ []))
a_set_variable = refl

pub a_weakening : step_of (codes "pol 1 x1 w s") ≡ Ok (step.Pol (Push 1 ∷ Weaken 1 ∷ Saturate ∷ []))
a_weakening = refl

-- ---- a line that ends early is refused behind its last byte

pub a_rup_alone : step_of (codes "rup") ≡ refused_at 4 expected.Term
a_rup_alone = refl

pub half_a_head : step_of (codes "pseudo-Boolean derivation") ≡ refused_at 26 expected.Head
half_a_head = refl

pub no_value : step_of (codes "red >= 0 ; x2 ->\t") ≡ refused_at 18 expected.Bit
no_value = refl

-- ---- words that are numbers, literals and bits

pub another_loaded_count : step_of (codes "f x") ≡ refused_at 3 expected.LoadedCount
another_loaded_count = refl

pub a_push_of_zero : step_of (codes "pol 0") ≡ refused_at 5 expected.Operand
a_push_of_zero = refl

pub a_deleted_zero : step_of (codes "del 1 0") ≡ refused_at 7 expected.Id
a_deleted_zero = refl

pub no_id_for_propagation : step_of (codes "rup >= 0 ; x1") ≡ refused_at 12 expected.Id
no_id_for_propagation = refl

pub a_bit_of_two_digits : step_of (codes "red >= 0 ; x1 -> 01") ≡ refused_at 18 expected.Bit
a_bit_of_two_digits = refl

pub a_negated_set : step_of (codes "red >= 0 ; ~x3 -> 0") ≡ refused_at 12 expected.SetVar
a_negated_set = refl

-- the sign before the limit
pub a_great_negated_set : step_of (codes "red >= 0 ; ~x2147483648 -> 0") ≡ refused_at 12 expected.SetVar
a_great_negated_set = refl

pub a_great_set : step_of (codes "red >= 0 ; x2147483648 -> 0") ≡ Err (Limit 12 Variables)
a_great_set = refl

pub leading_zeros : step_of (codes "red >= 0 ; x007 -> 1") ≡ Ok (step.Red [] (pos 0) (record { var = 7; value = true } ∷ []))
leading_zeros = refl

pub an_output : step_of (codes "out 1") ≡ Ok (step.Out 1)
an_output = refl

pub a_word_behind_the_end : step_of (codes "end 1") ≡ refused_at 5 expected.LineEnd
a_word_behind_the_end = refl
