-- The token at the front of a text, what stands before it, and what the code keeps of a short one.
use Rattle.std.specs.Prelude.{◌≡◌, ℕ, ◌≤◌, ◌<◌, ◌^◌, ◌==◌, ◌||◌, Bool, true, false, List, ◌∷◌, ◌++◌, take, drop, get_or, pos, neg_ℤ, Some}
use Rattle.std.specs.Char.{is_ascii_digit}
use Rattle.pb_base.specs.declared.place.Place.{Place}
use Rattle.pb_base.specs.Places.{end_from}
use Rattle.pb_base.specs.Numbers.{natural_of}
use Rattle.pb_base.specs.Tokens.{is_white, uncommented, tokens_from}
use Rattle.pb_base.specs.inner.Scans.{run_len}
use Rattle.pb_named.specs.Names.Name.{index}
use Rattle.pb_opb.specs.declared.head.Digits.{Digits}
use Rattle.pb_opb.specs.declared.head.Head.{Head}
use Rattle.pb_opb.specs.declared.head.Short.{Short}
use Rattle.pb_opb.specs.declared.head.Short.TheVariants as short
use Rattle.pb_opb.specs.Grammar.{Kind, kind_of}
use Rattle.pb_opb.specs.Grammar.Kind.{integer, literal, relation, semicolon}

-- what stands between a token and the next: no token begins in it
pub record Skips (text left : List ℕ) : Type 0 where
  pub gap : List ℕ
  pub cut : text ≡ gap ++ left
  pub tokens : (p : Place) → tokens_from (end_from p gap) (uncommented left) ≡ tokens_from p (uncommented text)

-- the token at the front
abbrev pub token_at : List ℕ → List ℕ
token_at text = take (run_len text) text

-- what stands behind it
abbrev pub behind : List ℕ → List ℕ
behind text = drop (run_len text) text

-- whether a byte ends the word before it
abbrev pub ends_word : ℕ → Bool
ends_word b = is_white b || b == 59

-- an `x`, or `~x`, before other bytes
abbrev pub behind_x : Bool → List ℕ → List ℕ
behind_x true bytes = 120 ∷ bytes
behind_x false bytes = 126 ∷ 120 ∷ bytes

-- the token at the front is a word of digits
pub record AreDigits (text : List ℕ) (d : Digits) : Type 0 where
  pub first : is_ascii_digit (get_or text 0 0) ≡ true
  pub value : natural_of (token_at text) ≡ Some d.value
  pub rest : d.rest.now ≡ behind text

abbrev pub short_kind : Short → Kind
short_kind (short.Integer n) = integer (pos n)
short_kind (short.Opposite n) = integer (neg_ℤ (pos n))
short_kind (short.Literal i positive) = literal (record { name = index i; positive = positive })
short_kind (short.Relation r) = relation r
short_kind short.Semicolon = semicolon

-- an index is from 1 to 2 ^ 31 - 1
abbrev pub IsInReach : Short → Type 0
IsInReach (short.Literal i positive) = (1 ≤ i) × (i < 2 ^ 31)
IsInReach _ = Unit {0}

-- the token at the front, and what stands behind it
pub record IsHead (text : List ℕ) (h : Head) : Type 0 where
  pub kind : kind_of (token_at text) ≡ short_kind h.short
  pub rest : h.rest.now ≡ behind text
  pub reach : IsInReach h.short
