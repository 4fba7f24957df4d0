-- What a text says, and its first fault (our own).
-- After a term, `TermOrRelation` or `TermOrSemicolon` is expected, as before one; but there a further literal may come too. So these
-- two words say nothing about literals (`tells`), and the other kinds of tokens decide which word it is.
use Rattle.std.specs.Prelude.{◌≡◌, ◌↔◌, ◌⊎◌, IsTrue, ℕ, ◌<◌, ◌≤◌, ◌^◌, List, [], ◌∷◌, ◌++◌, length, map, Option, Some, None, IsSomeAnd, Bool, true, false}
use Rattle.pb_base.specs.declared.place.Place.{Place}
use Rattle.pb_base.specs.declared.problem.Problem.{Problem}
use Rattle.pb_base.specs.Problems.{originals}
use Rattle.pb_named.specs.declared.named.NamedProblem.{NamedProblem}
use Rattle.pb_named.specs.NamedProblems.{problem_of}
use Rattle.pb_base.specs.Places.{end_of}
use Rattle.pb_base.specs.Tokens.{Piece, tokens_of}
use Rattle.pb_base.specs.declared.expected.Expected.{Expected}
use Rattle.pb_base.specs.declared.expected.Expected.TheVariants.{Start, Next, TermOrRelation, TermOrSemicolon, Literal, Integer, Semicolon}
use Rattle.pb_base.specs.declared.limit.LimitKind.{LimitKind}
use Rattle.pb_base.specs.declared.limit.LimitKind.TheVariants.{Text, Variables}
use Rattle.pb_opb.specs.declared.fault.OpbFault.{OpbFault}
use Rattle.pb_opb.specs.declared.fault.OpbFault.TheVariants.{Token, Limit, NoMemory}
use Rattle.pb_opb.specs.FirstLine.{Count, told, told_vars}
use Rattle.pb_opb.specs.Limits.{Keeps, BeginsWithin, IsWithinEach, rank}
use Rattle.pb_opb.specs.Grammar.{Kind, kind_of, text_kinds}
use Rattle.pb_opb.specs.Grammar.Kind.{minimise, integer, literal, relation, semicolon, end}

-- a token, by what it stands for and where
pub record Symbol : Type 0 where
  pub place : Place
  pub kind : Kind

abbrev pub symbol : Piece → Symbol
symbol t = record { place = t.place; kind = kind_of t.text }

-- the tokens of a text and its end
abbrev pub symbols_of : List ℕ → List Symbol
symbols_of text = map symbol (tokens_of text) ++ record { place = end_of text; kind = end } ∷ []

abbrev pub kinds : List Symbol → List Kind
kinds ss = map (λ s. s.kind) ss

-- the tokens of the text spell what is written
abbrev pub Spells : List ℕ → NamedProblem → Type 0
Spells text w = kinds (symbols_of text) ≡ text_kinds w

-- the text says the problem: the problem is that of what its tokens spell
pub record Says (text : List ℕ) (p : Problem) : Type 0 where
  pub written : NamedProblem
  pub spells : Spells text written
  pub means : p ≡ problem_of (told_vars text) written

-- what is tested before the tokens: the text's length, and the number that its first line tells
pub record IsAdmitted (text : List ℕ) : Type 0 where
  pub bytes : length text ≤ 2 ^ 32
  pub few : told_vars text < 2 ^ 31

-- the text says the problem, and passes no limit
pub record Reads (text : List ℕ) (p : Problem) : Type 0 where
  pub admitted : IsAdmitted text
  pub says : Says text p
  pub keeps : (which : LimitKind) → Keeps which says.written
  pub few : originals p < 2 ^ 31

-- too many variables are told, at this place of the first line
abbrev pub IsManyAt : Option Count → Place → Type 0
IsManyAt first place = IsSomeAnd first (λ c. (2 ^ 31 ≤ c.vars) × (place ≡ record { line = 1; column = c.column }))

-- The text is not too long, but its first line tells too many variables.
pub record TellsTooMany (text : List ℕ) (place : Place) : Type 0 where
  pub bytes : length text ≤ 2 ^ 32
  pub many : IsManyAt (told text) place

-- The text says a problem within all other limits, but of too many variables, which is told at its end.
pub record HasTooMany (text : List ℕ) (place : Place) : Type 0 where
  pub admitted : IsAdmitted text
  pub problem : Problem
  pub says : Says text problem
  pub keeps : (which : LimitKind) → Keeps which says.written
  pub many : 2 ^ 31 ≤ originals problem
  pub last : place ≡ end_of text

-- some accepted text begins with these tokens
abbrev pub Begins : List Kind → Type 0
Begins ks = (w : NamedProblem) × (rest : List Kind) × (text_kinds w ≡ ks ++ rest)

-- what could stand at a place
abbrev pub allows : Expected → Kind → Bool
allows Start minimise = true
allows Start (integer _) = true
allows Start (relation _) = true
allows Start end = true
allows Next (integer _) = true
allows Next (relation _) = true
allows Next end = true
allows TermOrRelation (integer _) = true
allows TermOrRelation (relation _) = true
allows TermOrSemicolon (integer _) = true
allows TermOrSemicolon semicolon = true
allows Literal (literal _) = true
allows Integer (integer _) = true
allows Semicolon semicolon = true
allows _ _ = false

-- These words tell nothing of a further literal, which may stand behind a term.
abbrev pub tells : Expected → Kind → Bool
tells TermOrRelation (literal _) = false
tells TermOrSemicolon (literal _) = false
tells _ _ = true

abbrev pub Expects : Expected → List Kind → Type 0
Expects e before = (k : Kind) → IsTrue (tells e k) → (Begins (before ++ k ∷ []) ↔ IsTrue (allows e k))

-- a token of an admitted text, behind others that begin an accepted text within the limits
pub record IsAt (text : List ℕ) (place : Place) : Type 0 where
  pub admitted : IsAdmitted text
  pub before : List Symbol
  pub here : Kind
  pub after : List Symbol
  pub cut : symbols_of text ≡ before ++ record { place = place; kind = here } ∷ after
  pub fine : IsWithinEach (kinds before)

abbrev pub so_far : {text : List ℕ} {place : Place} → IsAt text place → List Kind
so_far at = kinds at.before ++ at.here ∷ []

-- With the token there the tokens begin no accepted text, and this is what could stand there.
pub record IsWrong (text : List ℕ) (place : Place) (e : Expected) : Type 0 where
  pub at : IsAt text place
  pub wrong : ¬ Begins (so_far at)
  pub expects : Expects e (kinds at.before)

-- With the token there the tokens begin an accepted text, but none within this limit; limits that are told earlier are kept.
pub record IsTooGreat (text : List ℕ) (place : Place) (which : LimitKind) : Type 0 where
  pub at : IsAt text place
  pub accepted : Begins (so_far at)
  pub over : ¬ BeginsWithin which (so_far at)
  pub first : (earlier : LimitKind) → rank earlier < rank which → BeginsWithin earlier (so_far at)

abbrev pub IsFirstFault : List ℕ → OpbFault → Type 0
IsFirstFault text (Token place e) = IsWrong text place e
IsFirstFault text (Limit None which) = (which ≡ Text) × (2 ^ 32 < length text)
IsFirstFault text (Limit (Some place) which) = ((which ≡ Variables) × (TellsTooMany text place ⊎ HasTooMany text place)) ⊎ IsTooGreat text place which
IsFirstFault text NoMemory = Unit {0}
