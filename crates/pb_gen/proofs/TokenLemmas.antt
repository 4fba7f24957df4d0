-- The tokens of a text in which blanks part words.
use Rattle.std.proofs.Common.{◌≡◌, ◌==◌, ◌&&◌, ◌||◌, ℕ, Bool, true, false, not, cond, List, [], ◌∷◌, ◌++◌, map, refl, ap, ◌∙◌}
use Rattle.std.proofs.Math.Bool.{or-true}
use Rattle.std.specs.List.{AllByRecursion}
use Rattle.pb_base.specs.declared.place.Place.{Place}
use Rattle.pb_base.specs.Places.{after}
use Rattle.pb_base.specs.Tokens.{blanks, is_white, is_word_byte, joins, joins_next, put, tokens_from, Piece}
use Rattle.pb_base.proofs.WordLemmas.{join}

-- the tokens of a text without their places
abbrev pub bare_tokens : List ℕ → List (List ℕ)
bare_tokens [] = []
bare_tokens (b ∷ rest) = cond (is_white b) (bare_tokens rest) (join (joins_next b rest) b (bare_tokens rest))

bare-put : (more : Bool) (p : Place) (b : ℕ) (ts : List Piece) → map (λ t. t.text) (put more p b ts) ≡ join more b (map (λ t. t.text) ts)
bare-put true p b [] = refl
bare-put true p b (t ∷ ts) = refl
bare-put false p b ts = refl

pub bare_from : (p : Place) (text : List ℕ) → map (λ t. t.text) (tokens_from p text) ≡ bare_tokens text
bare_from p [] = refl
bare_from p (b ∷ rest) = by_test (is_white b) (bare_from (after b p) rest)
  where
    by_test : (white : Bool) → map (λ t. t.text) (tokens_from (after b p) rest) ≡ bare_tokens rest → map (λ t. t.text) (cond white (tokens_from (after b p) rest) (put (joins_next b rest) p b (tokens_from (after b p) rest))) ≡ cond white (bare_tokens rest) (join (joins_next b rest) b (bare_tokens rest))
    by_test true same = same
    by_test false same = bare-put (joins_next b rest) p b (tokens_from (after b p) rest) ∙ ap (join (joins_next b rest) b) same

-- a byte of a word, which neither ends it nor opens a comment
pub record Plain (b : ℕ) : Type 0 where
  pub black : is_white b ≡ false
  pub joined : is_word_byte b ≡ true
  pub no_colon : (b == 58) ≡ false
  pub no_star : (b == 42) ≡ false

abbrev pub IsPlain : List ℕ → Type 0
IsPlain bytes = AllByRecursion Plain bytes

plain-joins : (b c : ℕ) → Plain b → Plain c → joins b c ≡ true
plain-joins b c first second =
    (λ i. ((b == 60 || b == 62) && c == 61) || (first.joined i && second.joined i && not (first.no_colon i))) ∙ or-true ((b == 60 || b == 62) && c == 61)

none : (x y z : Bool) → ((x && false) || (y && false && z)) ≡ false
none true true z = refl
none true false z = refl
none false true z = refl
none false false z = refl

blank-apart : (b : ℕ) → joins b 32 ≡ false
blank-apart b = none (b == 60 || b == 62) (is_word_byte b) (not (b == 58))

-- words behind a byte that opens no comment stay
uncommented-word : (before b : ℕ) (bytes rest : List ℕ) → IsPlain (b ∷ bytes) → blanks false before (b ∷ bytes ++ 32 ∷ rest) ≡ b ∷ bytes ++ 32 ∷ blanks false 32 rest
uncommented-word before b bytes rest plain =
    ap (λ (s : Bool). cond ((s && not (joins before b)) && not (b == 10)) (32 ∷ blanks true 32 (bytes ++ 32 ∷ rest)) (b ∷ blanks false b (bytes ++ 32 ∷ rest))) plain.0.no_star
    ∙ ap (λ (xs : List ℕ). b ∷ xs) (further b bytes plain.1)
  where
    further : (last : ℕ) (cs : List ℕ) → IsPlain cs → blanks false last (cs ++ 32 ∷ rest) ≡ cs ++ 32 ∷ blanks false 32 rest
    further last [] plain = refl
    further last (c ∷ cs) plain =
        ap (λ (s : Bool). cond ((s && not (joins last c)) && not (c == 10)) (32 ∷ blanks true 32 (cs ++ 32 ∷ rest)) (c ∷ blanks false c (cs ++ 32 ∷ rest))) plain.0.no_star
        ∙ ap (λ (xs : List ℕ). c ∷ xs) (further c cs plain.1)

first_token : (b : ℕ) (bytes rest : List ℕ) → IsPlain (b ∷ bytes) → bare_tokens (b ∷ bytes ++ 32 ∷ rest) ≡ (b ∷ bytes) ∷ bare_tokens rest
first_token b [] rest plain =
    ap (λ (w : Bool). cond w (bare_tokens rest) (join (joins b 32) b (bare_tokens rest))) plain.0.black
    ∙ ap (λ (g : Bool). join g b (bare_tokens rest)) (blank-apart b)
first_token b (c ∷ bytes) rest plain =
    ap (λ (w : Bool). cond w (bare_tokens (c ∷ bytes ++ 32 ∷ rest)) (join (joins b c) b (bare_tokens (c ∷ bytes ++ 32 ∷ rest)))) plain.0.black
    ∙ ap (λ (g : Bool). join g b (bare_tokens (c ∷ bytes ++ 32 ∷ rest))) (plain-joins b c plain.0 plain.1.0)
    ∙ ap (join true b) (first_token c bytes rest plain.1)

-- the tokens of what stands behind a blank
abbrev pub tokens_in : List ℕ → List (List ℕ)
tokens_in text = bare_tokens (blanks false 32 text)

-- a word before a blank
pub word_token : (b : ℕ) (bytes rest : List ℕ) → IsPlain (b ∷ bytes) → tokens_in (b ∷ bytes ++ 32 ∷ rest) ≡ (b ∷ bytes) ∷ tokens_in rest
word_token b bytes rest plain = ap bare_tokens (uncommented-word 32 b bytes rest plain) ∙ first_token b bytes (blanks false 32 rest) plain

-- it is the same behind a line's end
pub behind_line : (text : List ℕ) → blanks false 10 text ≡ blanks false 32 text
behind_line [] = refl
behind_line (b ∷ rest) = refl

-- a line that is a comment
pub comment_skipped : (before : ℕ) (line rest : List ℕ) → AllByRecursion (λ b. (b == 10) ≡ false) line → bare_tokens (blanks true before (line ++ 10 ∷ rest)) ≡ tokens_in rest
comment_skipped before [] rest inside = ap bare_tokens (behind_line rest)
comment_skipped before (b ∷ line) rest inside =
    ap (λ (e : Bool). bare_tokens (cond (not e) (32 ∷ blanks true 32 (line ++ 10 ∷ rest)) (b ∷ blanks false b (line ++ 10 ∷ rest)))) inside.0
    ∙ comment_skipped 32 line rest inside.1
