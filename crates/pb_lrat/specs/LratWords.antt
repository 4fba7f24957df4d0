-- What single words of an LRAT line are read as (LRAT: Cruz-Filipe, Heule, Hunt, Kaufmann and Schneider-Kamp 2017).
use Rattle.std.specs.Prelude.{ℕ, ◌^◌, ◌==◌, Option, Some, None, Result, Ok, Err, if◌then◌else◌}
use Rattle.pb_base.specs.declared.literal.Lit.{Lit}
use Rattle.pb_base.specs.declared.expected.Expected.TheVariants.{LratLiteral, LratHint}
use Rattle.pb_base.specs.Numbers.{natural_of, limited_number}
use Rattle.pb_base.specs.Words.{Chunk}
use Rattle.pb_dimacs.specs.declared.meaning.Meaning.{Meaning}
use Rattle.pb_dimacs.specs.declared.meaning.Meaning.TheVariants as meaning
use Rattle.pb_dimacs.specs.CnfSymbols.{meant}
use Rattle.pb_steps.specs.declared.fault.StepFault.{StepFault}
use Rattle.pb_steps.specs.declared.fault.StepFault.TheVariants.{Token}
use Rattle.pb_steps.specs.LineWords.{and_then, number_between}

-- the id of a clause; none where the word is the 0 that ends the ids
abbrev pub hint_in : Chunk → Result (Option ℕ) StepFault
hint_in w = and_then (λ n. Ok (if n == 0 then None else Some n)) (number_between 0 (2 ^ 63) LratHint w.column (natural_of w.text))

-- a literal of the first so many variables; none where the word is the 0 that ends the clause
abbrev pub some_literal : ℕ → Meaning → Result (Option Lit) StepFault
some_literal column meaning.End = Ok None
some_literal column (meaning.Literal l) = Ok (Some l)
some_literal column meaning.Nothing = Err (Token column LratLiteral)

abbrev pub literal_in : ℕ → Chunk → Result (Option Lit) StepFault
literal_in vars w = some_literal w.column (meant vars (limited_number w.text))
