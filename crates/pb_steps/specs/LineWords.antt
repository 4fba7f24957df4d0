-- What single words of a derivation's line are read as (our own).
use Rattle.std.specs.Prelude.{ℕ, ◌^◌, nat_lt, Option, Some, None, Result, Ok, Err, ℤ, unsigned_abs, Bool, true, false, if◌then◌else◌, codes}
use Rattle.std.specs.Str.{bytes_eq}
use Rattle.pb_base.specs.declared.literal.Lit.{Lit}
use Rattle.pb_base.specs.declared.expected.Expected.{Expected}
use Rattle.pb_base.specs.declared.expected.Expected.TheVariants.{Bit, SetVar}
use Rattle.pb_base.specs.declared.limit.LimitKind.{LimitKind}
use Rattle.pb_base.specs.declared.limit.LimitKind.TheVariants.{Variables, Number}
use Rattle.pb_base.specs.Numbers.{natural_of, integer_of}
use Rattle.pb_base.specs.Words.{Chunk}
use Rattle.pb_base.specs.LiteralWords.{variable_of, literal_of}
use Rattle.pb_steps.specs.declared.fault.StepFault.{StepFault}
use Rattle.pb_steps.specs.declared.fault.StepFault.TheVariants.{Token, Limit}

-- what is made of a part once it was read; its fault stays
abbrev pub and_then : {A B F : Type 0} → (A → Result B F) → Result A F → Result B F
and_then f (Ok a) = f a
and_then f (Err fault) = Err fault

-- what a word is read as, where that is within a limit
abbrev pub within : {A : Type 0} → (A → Bool) → LimitKind → Expected → ℕ → Option A → Result A StepFault
within fits which e column None = Err (Token column e)
within fits which e column (Some x) = if fits x then Ok x else Err (Limit column which)

-- a number from `least` on and below a bound
abbrev pub number_between : ℕ → ℕ → Expected → ℕ → Option ℕ → Result ℕ StepFault
number_between least bound e column o = and_then (λ n. if nat_lt n least then Err (Token column e) else Ok n) (within (λ n. nat_lt n bound) Number e column o)

abbrev pub id_in : Expected → Chunk → Result ℕ StepFault
id_in e w = number_between 1 (2 ^ 63) e w.column (natural_of w.text)

abbrev pub integer_in : Expected → Chunk → Result ℤ StepFault
integer_in e w = within (λ z. nat_lt (unsigned_abs z) (2 ^ 126)) Number e w.column (integer_of w.text)

abbrev pub literal_by : Expected → ℕ → Option Lit → Result Lit StepFault
literal_by e column o = within (λ l. nat_lt l.var (2 ^ 31)) Variables e column o

abbrev pub literal_in : Expected → Chunk → Result Lit StepFault
literal_in e w = literal_by e w.column (literal_of w.text)

-- a variable that is greater than another one
abbrev pub variable_in : ℕ → Chunk → Result ℕ StepFault
variable_in above w =
    and_then (λ l. if nat_lt above l.var then Ok l.var else Err (Token w.column SetVar)) (literal_by SetVar w.column (variable_of true w.text))

-- `0` or `1`
abbrev pub bit_in : Chunk → Result Bool StepFault
bit_in w =
    if bytes_eq w.text (codes "0") then Ok false
    else (if bytes_eq w.text (codes "1") then Ok true else Err (Token w.column Bit))
