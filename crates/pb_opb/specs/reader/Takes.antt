-- What a reader answers to a token.
use Rattle.std.specs.Prelude.{◌≡◌, ℕ, ◌+◌, ◌<◌, ◌≤◌, ◌^◌, List, [], ◌∷◌, ◌++◌, length, Option, Some, None}
use Rattle.pb_base.specs.declared.place.Place.{Place}
use Rattle.pb_base.specs.declared.limit.LimitKind.{LimitKind}
use Rattle.pb_base.specs.declared.limit.LimitKind.TheVariants.{Statements, Terms, Weight, Variables, Name}
use Rattle.pb_opb.specs.declared.fault.Refusal.{Refusal}
use Rattle.pb_opb.specs.declared.fault.Refusal.TheVariants.{Unexpected, Limit, Memory}
use Rattle.pb_opb.specs.declared.fault.OpbFault.{OpbFault}
use Rattle.pb_opb.specs.declared.fault.OpbFault.TheVariants.{Token, NoMemory, Limit as OverLimit}
use Rattle.pb_opb.specs.declared.reader.Reader.{Reader}
use Rattle.pb_opb.specs.declared.stage.Stage.{Stage}
use Rattle.pb_opb.specs.Grammar.{Kind, text_kinds}
use Rattle.pb_opb.specs.Grammar.Kind.{end}
use Rattle.pb_named.specs.declared.named.NamedLit.{NamedLit}
use Rattle.pb_named.specs.declared.named.NamedProblem.{NamedProblem}
use Rattle.pb_named.specs.NamedProblems.{index_in}
use Rattle.pb_opb.specs.Limits.{Keeps, BeginsWithin, IsWithinEach, name_len, rank}
use Rattle.pb_opb.specs.Faults.{Begins, Expects, IsWrong, IsTooGreat}
use Rattle.pb_opb.specs.reader.Front.{IsRead, read_kinds, begun_statements, begun_literals}

-- The first limit that numbers of statements and literals and a weight pass.
abbrev pub Passes : Option LimitKind → ℕ → ℕ → ℕ → Type 0
Passes None statements literals weight = (statements ≤ 2 ^ 24) × (literals ≤ 2 ^ 20) × (weight < 2 ^ 100)
Passes (Some Statements) statements literals weight = 2 ^ 24 < statements
Passes (Some Terms) statements literals weight = (statements ≤ 2 ^ 24) × (2 ^ 20 < literals)
Passes (Some Weight) statements literals weight = (statements ≤ 2 ^ 24) × (literals ≤ 2 ^ 20) × (2 ^ 100 ≤ weight)
Passes (Some _) statements literals weight = ⊥

-- what the reader has passed at a stage
abbrev pub PassesAt : Option LimitKind → Reader → Stage → ℕ → Type 0
PassesAt o r next weight = Passes o (length r.statements + begun_statements next) (r.literals + begun_literals next) weight

-- the literal passes the limit by itself
abbrev pub PassesBy : LimitKind → NamedLit → Type 0
PassesBy Variables l = 2 ^ 31 ≤ index_in l.name
PassesBy Name l = 255 < name_len l.name
PassesBy _ l = ⊥

-- No text begins so, and this is what could stand there; or it passes a limit.
abbrev pub Refuses : List Kind → Kind → Refusal → Type 0
Refuses before k (Unexpected e) = (Begins (before ++ k ∷ []) → ⊥) × Expects e before × IsWithinEach before
Refuses before k (Limit which) = Begins (before ++ k ∷ []) × (BeginsWithin which (before ++ k ∷ []) → ⊥) × ((w : LimitKind) → rank w < rank which → BeginsWithin w (before ++ k ∷ [])) × IsWithinEach before
Refuses before k Memory = Unit {0}

-- the reader took the token
pub record Took (old new : Reader) (k : Kind) : Type 0 where
  pub read : IsRead new
  pub kinds : read_kinds new ≡ read_kinds old ++ k ∷ []

-- the tokens and the end spell what is written
pub record Finishes (before : List Kind) (w : NamedProblem) : Type 0 where
  pub kinds : text_kinds w ≡ before ++ end ∷ []
  pub keeps : (which : LimitKind) → Keeps which w

abbrev pub fault_at : Place → Refusal → OpbFault
fault_at p (Unexpected e) = Token p e
fault_at p (Limit which) = OverLimit (Some p) which
fault_at p Memory = NoMemory

-- what is found wrong among the tokens
abbrev pub IsTokenFault : List ℕ → OpbFault → Type 0
IsTokenFault text (Token place e) = IsWrong text place e
IsTokenFault text (OverLimit None which) = ⊥
IsTokenFault text (OverLimit (Some place) which) = IsTooGreat text place which
IsTokenFault text NoMemory = Unit {0}
