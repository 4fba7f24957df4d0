-- What stands in a model text, line after line: the output format of the SAT Competitions, with choices of our own.
use Rattle.std.specs.Prelude.{ℕ, ◌+◌, ◌≤◌, ◌^◌, ◌==◌, nat_lt, nat_le, unsigned_abs, Bool, if◌then◌else◌, List, [], ◌∷◌, ◌++◌, map, codes}
use Rattle.std.specs.Int.{is_positive}
use Rattle.std.specs.List.{starts_with}
use Rattle.std.specs.Str.{bytes_eq}
use Rattle.pb_base.specs.declared.place.Place.{Place}
use Rattle.pb_base.specs.declared.number.Number.{Number}
use Rattle.pb_base.specs.declared.number.Number.TheVariants.{Value, TooWide, NotANumber}
use Rattle.pb_base.specs.Numbers.{limited_number}
use Rattle.pb_base.specs.Words.{Chunk, words_of}
use Rattle.pb_desk.specs.Lines.{lines_of}
use Rattle.pb_model.specs.declared.meaning.Meaning.{Meaning}
use Rattle.pb_model.specs.declared.meaning.Meaning.TheVariants as meaning
use Rattle.pb_model.specs.declared.model.Says.{Says}
use Rattle.pb_model.specs.declared.model.Says.TheVariants.{Satisfiable, Other}

-- a status line; the first word of a line of values, and each word behind it; a first word that is none of these; the end of the text
pub data Symbol : Type 0 where
  status : Place → Says → Symbol
  values : Place → Symbol
  word : Place → Meaning → Symbol
  other : Place → Symbol
  end : Place → Symbol

-- what an integer of this size means among the values of so many variables
abbrev pub meaning_of : ℕ → Bool → ℕ → Meaning
meaning_of vars positive n =
    if n == 0 then meaning.End
    else (if nat_le n vars then meaning.Literal (record { var = n; positive = positive })
    else (if nat_lt n (2 ^ 31) then meaning.Beyond else meaning.TooGreat))

abbrev pub meant : ℕ → Number → Meaning
meant vars (Value z) = meaning_of vars (is_positive z) (unsigned_abs z)
meant vars TooWide = meaning.TooGreat
meant vars NotANumber = meaning.Nothing

-- a literal that counts is of one of the variables
abbrev pub IsWithin : ℕ → Meaning → Type 0
IsWithin vars (meaning.Literal l) = l.var ≤ vars
IsWithin vars meaning.End = Unit {0}
IsWithin vars meaning.Beyond = Unit {0}
IsWithin vars meaning.TooGreat = Unit {0}
IsWithin vars meaning.Nothing = Unit {0}

-- the word begins with `c`
abbrev pub opens_comment : List ℕ → Bool
opens_comment text = starts_with (λ a b. a == b) text (codes "c")

-- what a status line says behind its first word
abbrev pub said_by : List Chunk → Says
said_by (w ∷ []) = if bytes_eq w.text (codes "SATISFIABLE") then Satisfiable else Other
said_by _ = Other

-- the place of a word of the line of a number
abbrev pub place_in : ℕ → Chunk → Place
place_in number w = record { line = number; column = w.column }

abbrev pub word_symbol : ℕ → ℕ → Chunk → Symbol
word_symbol vars number w = word (place_in number w) (meant vars (limited_number w.text))

-- the words of the line of a number; a comment, and a line without words, say nothing
abbrev pub line_symbols : ℕ → ℕ → List Chunk → List Symbol
line_symbols vars number [] = []
line_symbols vars number (w ∷ ws) =
    if opens_comment w.text then []
    else (if bytes_eq w.text (codes "s") then status (place_in number w) (said_by ws) ∷ []
    else (if bytes_eq w.text (codes "v") then values (place_in number w) ∷ map (word_symbol vars number) ws
    else other (place_in number w) ∷ []))

-- the lines from a number on; the end stands on the line after the last
abbrev pub symbols_from : ℕ → ℕ → List (List ℕ) → List Symbol
symbols_from vars number [] = end (record { line = number; column = 1 }) ∷ []
symbols_from vars number (line ∷ lines) = line_symbols vars number (words_of line) ++ symbols_from vars (number + 1) lines

abbrev pub symbols_of : ℕ → List ℕ → List Symbol
symbols_of vars text = symbols_from vars 1 (lines_of text)
