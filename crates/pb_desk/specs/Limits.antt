-- Which limit a line passes first (our own).
use Rattle.std.specs.Prelude.{ℕ, Bool, ◌-◌, ◌==◌, ◌&&◌, ◌||◌, not, nat_lt, if◌then◌else◌, List, [], ◌∷◌, Option, Some, None}
use Rattle.std.specs.Option.{option_or}
use Rattle.pb_base.specs.declared.limit.LimitKind.{LimitKind}
use Rattle.pb_base.specs.declared.limit.LimitKind.TheVariants.{Text, Lines, Line}

-- the limit that a byte passes, where so many bytes of the text and of its line are left, and maybe no line
abbrev pub limit_of_byte : ℕ → Bool → ℕ → ℕ → Option LimitKind
limit_of_byte text is_last line b =
    if text == 0 then Some Text else (if is_last then Some Lines else (if line == 0 && not (b == 10) then Some Line else None))

-- the first limit that a byte of the first line passes
abbrev pub limit_of : ℕ → Bool → ℕ → List ℕ → Option LimitKind
limit_of text is_last line [] = None
limit_of text is_last line (b ∷ bytes) =
    option_or (limit_of_byte text is_last line b) (if b == 10 then None else limit_of (text - 1) is_last (line - 1) bytes)

-- the limit that a piece without LF passes, which may be followed by LF
abbrev pub limit_of_piece : ℕ → Bool → ℕ → ℕ → Bool → Option LimitKind
limit_of_piece text is_last line count is_ended =
    if (nat_lt 0 count || is_ended) && text == 0 then Some Text
    else (if (nat_lt 0 count || is_ended) && is_last then Some Lines
    else (if nat_lt line count && nat_lt line text then Some Line
    else (if nat_lt text count || (is_ended && text == count) then Some Text
    else None)))

-- what a line may pass: the bytes or lines of a text, or the bytes of a line
abbrev pub IsLengthLimit : LimitKind → Type 0
IsLengthLimit Text = Unit {0}
IsLengthLimit Lines = Unit {0}
IsLengthLimit Line = Unit {0}
IsLengthLimit other = ⊥
