-- Words that single blanks part.
use Rattle.std.proofs.Common.{◌≡◌, ◌<◌, ◌+◌, ℕ, Bool, true, false, not, cond, List, [], ◌∷◌, ◌++◌, length, map, refl, ap, ◌∙◌, arith}
use Rattle.std.specs.List.{AllByRecursion}
use Rattle.pb_base.specs.Tokens.{is_white}
use Rattle.pb_base.specs.Words.{Chunk, goes_on, lead, words_from}

-- the words of a line without their columns, one byte after another
abbrev pub join : Bool → ℕ → List (List ℕ) → List (List ℕ)
join true b (w ∷ ws) = (b ∷ w) ∷ ws
join _ b ws = (b ∷ []) ∷ ws

abbrev pub bare_words : List ℕ → List (List ℕ)
bare_words [] = []
bare_words (b ∷ rest) = cond (is_white b) (bare_words rest) (join (goes_on rest) b (bare_words rest))

bare-lead : (more : Bool) (column b : ℕ) (ws : List Chunk) → map (λ w. w.text) (lead more column b ws) ≡ join more b (map (λ w. w.text) ws)
bare-lead true column b [] = refl
bare-lead true column b (w ∷ ws) = refl
bare-lead false column b ws = refl

pub bare_from : (column : ℕ) (line : List ℕ) → map (λ w. w.text) (words_from column line) ≡ bare_words line
bare_from column [] = refl
bare_from column (b ∷ rest) = by_test (is_white b) (bare_from (column + 1) rest)
  where
    by_test : (white : Bool) → map (λ w. w.text) (words_from (column + 1) rest) ≡ bare_words rest → map (λ w. w.text) (cond white (words_from (column + 1) rest) (lead (goes_on rest) column b (words_from (column + 1) rest))) ≡ cond white (bare_words rest) (join (goes_on rest) b (bare_words rest))
    by_test true same = same
    by_test false same = bare-lead (goes_on rest) column b (words_from (column + 1) rest) ∙ ap (join (goes_on rest) b) same

abbrev pub Black : ℕ → Type 0
Black b = is_white b ≡ false

-- no byte is white
abbrev pub IsBlack : List ℕ → Type 0
IsBlack bytes = AllByRecursion Black bytes

-- bytes that are not white are the first word, where nothing goes on behind them
first_word : (b : ℕ) (bytes rest : List ℕ) → IsBlack (b ∷ bytes) → goes_on rest ≡ false → bare_words (b ∷ bytes ++ rest) ≡ (b ∷ bytes) ∷ bare_words rest
first_word b [] rest black ends =
    ap (λ (w : Bool). cond w (bare_words rest) (join (goes_on rest) b (bare_words rest))) black.0
    ∙ ap (λ (g : Bool). join g b (bare_words rest)) ends
first_word b (c ∷ bytes) rest black ends =
    ap (λ (w : Bool). cond w (bare_words (c ∷ bytes ++ rest)) (join (not (is_white c)) b (bare_words (c ∷ bytes ++ rest)))) black.0
    ∙ ap (λ (w : Bool). join (not w) b (bare_words (c ∷ bytes ++ rest))) black.1.0
    ∙ ap (join true b) (first_word c bytes rest black.1 ends)

pub word_ends : (word rest : List ℕ) → 0 < length word → IsBlack word → goes_on rest ≡ false → bare_words (word ++ rest) ≡ word ∷ bare_words rest
word_ends [] rest some black ends = absurd (omega arith)
word_ends (b ∷ bytes) rest some black ends = first_word b bytes rest black ends
