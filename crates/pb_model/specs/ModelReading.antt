-- What a model text says, and its first fault (our own).
use Rattle.std.specs.Prelude.{ℕ, ◌≡◌, ◌≢◌, ◌+◌, ◌^◌, nat_lt, Bool, true, false, not, ◌&&◌, if◌then◌else◌, List, [], ◌∷◌, ◌++◌, length, map, Option, Some, None, Result, Ok, Err}
use Rattle.std.specs.Option.{option_or}
use Rattle.std.specs.List.{list_any, range_with_len}
use Rattle.pb_base.specs.declared.place.Place.{Place}
use Rattle.pb_base.specs.declared.literal.Lit.{Lit}
use Rattle.pb_base.specs.declared.expected.Expected.TheVariants.{ModelLine, ModelLiteral, Opposite, ModelZero}
use Rattle.pb_base.specs.declared.limit.LimitKind.TheVariants.{Text, Variables}
use Rattle.pb_base.specs.Literals.{negated, is_same}
use Rattle.pb_model.specs.declared.fault.ModelFault.{ModelFault}
use Rattle.pb_model.specs.declared.fault.ModelFault.TheVariants.{Token, Limit, NoMemory}
use Rattle.pb_model.specs.declared.meaning.Meaning.{Meaning}
use Rattle.pb_model.specs.declared.meaning.Meaning.TheVariants as meaning
use Rattle.pb_model.specs.declared.model.Model.{Model}
use Rattle.pb_model.specs.declared.model.Says.{Says}
use Rattle.pb_model.specs.declared.model.Says.TheVariants.{Missing}
use Rattle.pb_model.specs.ModelLines.{Symbol, symbols_of}
use Rattle.pb_model.specs.ModelLines.Symbol.{status, values, word, other, end}

-- the symbol begins a line of values
abbrev pub opens_values : Symbol → Bool
opens_values (values _) = true
opens_values _ = false

-- the symbol is the 0 that ends the values
abbrev pub ends_values : Symbol → Bool
ends_values (word _ meaning.End) = true
ends_values _ = false

-- the symbol lists the literal
abbrev pub lists : Lit → Symbol → Bool
lists l (word _ (meaning.Literal k)) = is_same k l
lists l _ = false

abbrev pub is_listed : List Symbol → Lit → Bool
is_listed ss l = list_any (lists l) ss

-- what is said, or else what is said later
abbrev pub says_or : Says → Says → Says
says_or Missing later = later
says_or says later = says

-- what the first status line says
abbrev pub says_in : List Symbol → Says
says_in [] = Missing
says_in (status _ says ∷ ss) = says_or says (says_in ss)
says_in (_ ∷ ss) = says_in ss

abbrev pub is_said : Says → Bool
is_said Missing = false
is_said _ = true

-- a variable is true where it is listed
abbrev pub values_in : ℕ → List Symbol → List Bool
values_in vars ss = map (λ k. is_listed ss (record { var = k + 1; positive = true })) (range_with_len 0 vars)

abbrev pub model_in : ℕ → List Symbol → Model
model_in vars ss = record { says = says_in ss; values = values_in vars ss }

-- a fault where the test is met
abbrev pub refused_if : Bool → ModelFault → Option ModelFault
refused_if wrong fault = if wrong then Some fault else None

-- the fault of a word among the values, behind these symbols
abbrev pub word_fault : List Symbol → Place → Meaning → Option ModelFault
word_fault before place (meaning.Literal l) = refused_if (is_listed before (negated l)) (Token place Opposite)
word_fault before place meaning.TooGreat = Some (Limit (Some place) Variables)
word_fault before place meaning.Nothing = Some (Token place ModelLiteral)
word_fault before place _ = None

-- The fault of a symbol behind others: at most one status line; nothing of the values behind their 0; no literal whose negation was
-- listed; no other lines; and a 0 where there are values.
abbrev pub fault_at : List Symbol → Symbol → Option ModelFault
fault_at before (status place _) = refused_if (is_said (says_in before)) (Token place ModelLine)
fault_at before (values place) = refused_if (list_any ends_values before) (Token place ModelLine)
fault_at before (word place m) = if list_any ends_values before then Some (Token place ModelLiteral) else word_fault before place m
fault_at before (other place) = Some (Token place ModelLine)
fault_at before (end place) = refused_if (list_any opens_values before && not (list_any ends_values before)) (Token place ModelZero)

-- the first fault of symbols behind others
abbrev pub first_fault : List Symbol → List Symbol → Option ModelFault
first_fault before [] = None
first_fault before (s ∷ ss) = option_or (fault_at before s) (first_fault (before ++ s ∷ []) ss)

abbrev pub told_by : Option ModelFault → Model → Result Model ModelFault
told_by (Some fault) m = Err fault
told_by None m = Ok m

abbrev pub told_in : ℕ → List Symbol → Result Model ModelFault
told_in vars ss = told_by (first_fault [] ss) (model_in vars ss)

-- What a text tells beside so many variables: what a solver says, and their values; or the text's first fault.
abbrev pub told : ℕ → List ℕ → Result Model ModelFault
told vars text = if nat_lt (2 ^ 32) (length text) then Err (Limit None Text) else told_in vars (symbols_of vars text)

-- the fault is the one that is due, or want of memory
abbrev pub IsFaultOf : Result Model ModelFault → ModelFault → Type 0
IsFaultOf due fault = fault ≢ NoMemory → due ≡ Err fault
