-- The lines of a text, each ended by LF or by the end of the text (POSIX, but that a last line needs no LF).
use Rattle.std.specs.Prelude.{◌≡◌, ◌<◌, ℕ, ◌==◌, if◌then◌else◌, List, [], ◌∷◌, length, All, false}
use Rattle.pb_base.specs.Lines.{first_line}

-- the lines, with a byte more at the start of the first
abbrev pub with_byte : ℕ → List (List ℕ) → List (List ℕ)
with_byte b [] = (b ∷ []) ∷ []
with_byte b (line ∷ lines) = (b ∷ line) ∷ lines

-- each line ends with LF, but the last may end with the text
abbrev pub lines_of : List ℕ → List (List ℕ)
lines_of [] = []
lines_of (b ∷ bytes) = if b == 10 then [] ∷ lines_of bytes else with_byte b (lines_of bytes)

-- what stands behind the first LF
abbrev pub behind_first : List ℕ → List ℕ
behind_first [] = []
behind_first (b ∷ bytes) = if b == 10 then bytes else behind_first bytes

-- no byte is LF
abbrev pub IsUnbroken : List ℕ → Type 0
IsUnbroken bytes = All (λ b. (b == 10) ≡ false) bytes

-- the text has a first line, and this is what stands behind it
pub record BeginsWith (line text rest : List ℕ) : Type 0 where
  pub some : 0 < length text
  pub first : line ≡ first_line text
  pub behind : rest ≡ behind_first text
  pub lines : lines_of text ≡ line ∷ lines_of rest

-- with a byte more at the start of the first, if there is one
abbrev pub onto_first : ℕ → List (List ℕ) → List (List ℕ)
onto_first b [] = []
onto_first b (line ∷ lines) = (b ∷ line) ∷ lines

-- the lines that LF ends
abbrev pub ended_lines : List ℕ → List (List ℕ)
ended_lines [] = []
ended_lines (b ∷ bytes) = if b == 10 then [] ∷ ended_lines bytes else onto_first b (ended_lines bytes)
