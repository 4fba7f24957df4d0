-- What a line of an LRAT refutation says, or its first fault. Lines with negative hints (RAT) are none of it.
use Rattle.std.specs.Prelude.{ℕ, ◌+◌, List, [], ◌∷◌, length, Option, Some, None, Result, Ok, Err, if◌then◌else◌, codes}
use Rattle.std.specs.Str.{bytes_eq}
use Rattle.pb_base.specs.declared.literal.Lit.{Lit}
use Rattle.pb_base.specs.declared.expected.Expected.TheVariants.{LratId, LratLiteral, LratHint, LratEnd}
use Rattle.pb_base.specs.Words.{Chunk, words_of}
use Rattle.pb_dimacs.specs.CnfReading.{opens_comment}
use Rattle.pb_steps.specs.declared.fault.StepFault.{StepFault}
use Rattle.pb_steps.specs.declared.fault.StepFault.TheVariants.{Token}
use Rattle.pb_steps.specs.LineWords.{and_then, id_in}
use Rattle.pb_steps.specs.LineSteps.{with_item, ends_here}
use Rattle.pb_lrat.specs.declared.said.Said.{Said}
use Rattle.pb_lrat.specs.declared.said.Said.TheVariants.{Nothing, Adds, Deletes}
use Rattle.pb_lrat.specs.LratWords.{hint_in, literal_in}

-- ids, and the 0 that ends the line
abbrev pub with_id : Option ℕ → List Chunk → Result (List ℕ) StepFault → Result (List ℕ) StepFault
with_id None ws more = ends_here LratEnd [] ws
with_id (Some id) ws more = with_item id more

abbrev pub ids_of : ℕ → List Chunk → Result (List ℕ) StepFault
ids_of end [] = Err (Token end LratHint)
ids_of end (w ∷ ws) = and_then (λ id. with_id id ws (ids_of end ws)) (hint_in w)

-- the literals of a clause, and what stands behind their 0
abbrev pub with_literal : Option Lit → List Chunk → Result (List Lit × List Chunk) StepFault → Result (List Lit × List Chunk) StepFault
with_literal None ws more = Ok ([], ws)
with_literal (Some l) ws more = and_then (λ p. Ok (l ∷ p.0, p.1)) more

abbrev pub clause_of : ℕ → ℕ → List Chunk → Result (List Lit × List Chunk) StepFault
clause_of vars end [] = Err (Token end LratLiteral)
clause_of vars end (w ∷ ws) = and_then (λ l. with_literal l ws (clause_of vars end ws)) (literal_in vars w)

-- a clause and its hints
abbrev pub addition_of : ℕ → ℕ → ℕ → List Chunk → Result Said StepFault
addition_of vars end id ws = and_then (λ p. and_then (λ hints. Ok (Adds id p.0 hints)) (ids_of end p.1)) (clause_of vars end ws)

-- what stands behind the line's id
abbrev pub behind_id : ℕ → ℕ → ℕ → List Chunk → Result Said StepFault
behind_id vars end id [] = Err (Token end LratLiteral)
behind_id vars end id (w ∷ ws) = if bytes_eq w.text (codes "d") then and_then (λ ids. Ok (Deletes ids)) (ids_of end ws) else addition_of vars end id (w ∷ ws)

-- the words of a line that ends before a column
abbrev pub said_in : ℕ → ℕ → List Chunk → Result Said StepFault
said_in vars end [] = Ok Nothing
said_in vars end (w ∷ ws) = if opens_comment w.text then Ok Nothing else and_then (λ id. behind_id vars end id ws) (id_in LratId w)

-- what a line says over so many variables, or its first fault
abbrev pub said_of : ℕ → List ℕ → Result Said StepFault
said_of vars line = said_in vars (length line + 1) (words_of line)
