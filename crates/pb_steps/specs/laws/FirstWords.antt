-- Where the fault of a line stands: at the first word behind which no line goes on (our own).
use Rattle.std.specs.Prelude.{◌≡◌, ◌&&◌, ◌||◌, ℕ, Bool, true, false, List, [], ◌∷◌, ◌++◌, Option, Some, None, is_some, codes}
use Rattle.std.specs.Str.{bytes_eq}
use Rattle.pb_base.specs.Numbers.{natural_of}
use Rattle.pb_base.specs.Words.{Chunk}
use Rattle.pb_steps.specs.declared.fault.StepFault.{StepFault}
use Rattle.pb_steps.specs.declared.fault.StepFault.TheVariants.{Token, Limit, NoMemory}
use Rattle.pb_steps.specs.StepGrammar.{texts}

-- want of memory has no column
abbrev pub column_of : StepFault → Option ℕ
column_of (Token column e) = Some column
column_of (Limit column which) = Some column
column_of NoMemory = None

-- where words begin: at the first of them, or at the line's end
abbrev pub begin_at : ℕ → List Chunk → ℕ
begin_at end [] = end
begin_at end (w ∷ ws) = w.column

-- Some line begins with words. What follows them there is like what is left here, where a word is read by the one behind it.
abbrev pub GoesOn : (List (List ℕ) → Type 0) → (List (List ℕ) → List (List ℕ) → List (List ℕ) → Type 0) → List (List ℕ) → List (List ℕ) → Type 0
GoesOn IsLine IsLike front left = (more : List (List ℕ)) × IsLike front more left × IsLine (front ++ more)

-- no word is left, and the line is not whole; or behind the first that is left no line goes on
abbrev pub StopsThere : (List (List ℕ) → Type 0) → (List (List ℕ) → List (List ℕ) → List (List ℕ) → Type 0) → List (List ℕ) → List (List ℕ) → Type 0
StopsThere IsLine IsLike front [] = ¬ (IsLine front)
StopsThere IsLine IsLike front (w ∷ left) = ¬ (GoesOn IsLine IsLike (front ++ w ∷ []) left)

-- The column is that of the first word behind which no line goes on, or that of the line's end.
pub record StandsFirst (IsLine : List (List ℕ) → Type 0) (IsLike : List (List ℕ) → List (List ℕ) → List (List ℕ) → Type 0) (end : ℕ) (ws : List Chunk) (column : Option ℕ) : Type 0 where
  pub front : List Chunk
  pub left : List Chunk
  pub cut : ws ≡ front ++ left
  pub at : column ≡ Some (begin_at end left)
  pub fine : GoesOn IsLine IsLike (texts front) (texts left)
  pub stops : StopsThere IsLine IsLike (texts front) (texts left)

-- ---- `pol` lines: whether a number is a factor or an id is told by the word behind it

abbrev pub is_number : List ℕ → Bool
is_number w = is_some (natural_of w)

abbrev pub is_mark : List ℕ → Bool
is_mark w = bytes_eq w (codes "*") || bytes_eq w (codes "d")

-- the first word is a mark
abbrev pub is_marked : List (List ℕ) → Bool
is_marked [] = false
is_marked (w ∷ ws) = is_mark w

-- whether the last word is a number, by whether one stands before them
abbrev pub ends_in_number : Bool → List (List ℕ) → Bool
ends_in_number before [] = before
ends_in_number before (w ∷ ws) = ends_in_number (is_number w) ws

abbrev pub awaits_mark : List (List ℕ) → Bool
awaits_mark [] = false
awaits_mark (verb ∷ ws) = bytes_eq verb (codes "pol") && ends_in_number false ws

-- behind a number of a `pol` line, a mark follows in both or in neither
abbrev pub IsMarkedLike : List (List ℕ) → List (List ℕ) → List (List ℕ) → Type 0
IsMarkedLike front more left = awaits_mark front ≡ true → is_marked more ≡ is_marked left
