-- What stands between two tokens, and where what stands behind it begins.
use Rattle.std.proofs.Common.{◌≡◌, ℕ, ◌+◌, ◌≤◌, Bool, true, false, not, ◌&&◌, ◌||◌, ◌==◌, cond, List, [], ◌∷◌, ◌++◌, length, get_or, take, drop, ◌-◌, sym, refl, ap, ◌∙◌, subst, arith, add-one, append_assoc}
use Rattle.std.proofs.lemmas.List.{take_rest}
use Rattle.std.proofs.lemmas.Bool.Decides.{nat_tests}
use Rattle.pb_base.specs.declared.place.Place.{Place}
use Rattle.pb_base.specs.Places.{after, along, end_from}
use Rattle.pb_base.specs.Lines.{first_line}
use Rattle.pb_base.specs.Tokens.{is_white, joins, blanks, uncommented, tokens_from}
use Rattle.pb_base.specs.inner.Scans.{run_len}
use Rattle.pb_base.proofs.Cuts.{skipped}
use Rattle.pb_opb.specs.reader.Heads.{Skips, token_at}

pub end_from-append : (p : Place) (xs ys : List ℕ) → end_from p (xs ++ ys) ≡ end_from (end_from p xs) ys
end_from-append p [] ys = refl
end_from-append p (x ∷ xs) ys = end_from-append (after x p) xs ys

pub skips-none : (text : List ℕ) → Skips text text
skips-none text = record { gap = []; cut = refl; tokens = λ p. refl }

pub skips-more : (text left rest : List ℕ) → Skips text left → Skips left rest → Skips text rest
skips-more text left rest s t = record {
  gap = s.gap ++ t.gap;
  cut = s.cut ∙ ap (λ (l : List ℕ). s.gap ++ l) t.cut ∙ sym (append_assoc s.gap t.gap rest);
  tokens = λ p. ap (λ (q : Place). tokens_from q (uncommented rest)) (end_from-append p s.gap t.gap) ∙ t.tokens (end_from p s.gap) ∙ s.tokens p;
}

white-plain : (b : ℕ) → is_white b ≡ true → ((false || b == 42) && not (b == 10)) ≡ false
white-plain b white = grind (arith, nat_tests)

pub skips-white : (b : ℕ) (rest : List ℕ) → is_white b ≡ true → Skips (b ∷ rest) rest
skips-white b rest white = record {
  gap = b ∷ [];
  cut = refl;
  tokens = λ p.
      ap (λ (g : Bool). tokens_from (after b p) (blanks g 10 rest)) (sym (white-plain b white))
      ∙ sym (skipped p false b rest (λ _. white));
}

-- the same of the front of a text
pub skips-white-at : (text : List ℕ) → 1 ≤ length text → is_white (get_or text 0 0) ≡ true → Skips text (take (length text - 1) (drop 1 text))
skips-white-at [] some white = absurd (omega arith)
skips-white-at (b ∷ rest) some white = subst (Skips (b ∷ rest)) (sym (take_rest (b ∷ rest) 1)) (skips-white b rest white)

-- one byte of a comment, or the line's end
comment-step : (p : Place) (b : ℕ) (rest : List ℕ) (t : Bool) → (b == 10) ≡ t →
    tokens_from (after b p) (blanks true 10 rest) ≡ tokens_from (end_from (after b p) (first_line rest)) (uncommented (drop (length (first_line rest)) rest)) →
    tokens_from p (blanks true 10 (b ∷ rest)) ≡ tokens_from (end_from p (cond t [] (b ∷ first_line rest))) (uncommented (drop (length (cond t [] (b ∷ first_line rest))) (b ∷ rest)))
comment-step p b rest true e ahead =
    let at : b ≡ 10 = grind (arith, nat_tests) in
    subst (λ (c : ℕ). tokens_from p (blanks true 10 (c ∷ rest)) ≡ tokens_from p (uncommented (c ∷ rest))) (sym at) refl
comment-step p b rest false e ahead =
    skipped p true b rest (λ none. absurd (let no : true ≡ false = sym (ap not e) ∙ none in cc))
    ∙ ap (λ (t : Bool). tokens_from (after b p) (blanks (not t) 10 rest)) e ∙ ahead

in-comment : (p : Place) (rest : List ℕ) → tokens_from p (blanks true 10 rest) ≡ tokens_from (end_from p (first_line rest)) (uncommented (drop (length (first_line rest)) rest))
in-comment p [] = refl
in-comment p (b ∷ rest) = comment-step p b rest (b == 10) refl (in-comment (after b p) rest)

line-step : (b : ℕ) (rest : List ℕ) (t : Bool) → rest ≡ first_line rest ++ drop (length (first_line rest)) rest → b ∷ rest ≡ cond t [] (b ∷ first_line rest) ++ drop (length (cond t [] (b ∷ first_line rest))) (b ∷ rest)
line-step b rest true ahead = refl
line-step b rest false ahead = ap (λ (l : List ℕ). b ∷ l) ahead

line-cut : (text : List ℕ) → text ≡ first_line text ++ drop (length (first_line text)) text
line-cut [] = refl
line-cut (b ∷ text) = line-step b text (b == 10) (line-cut text)

pub skips-comment : (rest : List ℕ) → Skips (42 ∷ rest) (drop (length (first_line rest)) rest)
skips-comment rest = record {
  gap = 42 ∷ first_line rest;
  cut = ap (λ (l : List ℕ). 42 ∷ l) (line-cut rest);
  tokens = λ p. sym (skipped p false 42 rest (λ none. absurd (let no : true ≡ false = none in cc)) ∙ in-comment (after 42 p) rest);
}

pub skips-comment-at : (text rest line left : List ℕ) → 1 ≤ length text → get_or text 0 0 ≡ 42 → rest ≡ take (length text - 1) (drop 1 text) → line ≡ first_line rest → left ≡ drop (length line) rest → Skips text left
skips-comment-at [] rest line left some star rest_is line_is left_is = absurd (omega arith)
skips-comment-at (b ∷ others) rest line left some star rest_is line_is left_is =
    let same : rest ≡ others = rest_is ∙ take_rest (b ∷ others) 1 in
    let is : left ≡ drop (length (first_line others)) others =
    left_is ∙ ap (λ (l : List ℕ). drop (length l) rest) line_is ∙ ap (λ (l : List ℕ). drop (length (first_line l)) l) same in
    subst (λ (c : ℕ). Skips (c ∷ others) left) (sym star) (subst (Skips (42 ∷ others)) (sym is) (skips-comment others))

pub first_line-le : (text : List ℕ) → length (first_line text) ≤ length text
first_line-le [] = omega arith
first_line-le (b ∷ text) = elim (b == 10) as (λ t. length (cond t [] (b ∷ first_line text)) ≤ length (b ∷ text)) [ true ↦ omega arith | false ↦ omega (arith, first_line-le text) ]

-- no token has an LF: its end is as far along the line as it is long
joins-white : (b c : ℕ) → joins b c ≡ true → is_white c ≡ false
joins-white b c joined = grind (arith, nat_tests)

after-along : (b : ℕ) (p : Place) → is_white b ≡ false → after b p ≡ along 1 p
after-along b p front = grind (arith, nat_tests)

end-step : (j : Bool) (p : Place) (b : ℕ) (rest : List ℕ) → is_white b ≡ false →
    (j ≡ true → end_from (along 1 p) (take (run_len rest) rest) ≡ along (run_len rest) (along 1 p)) →
    end_from p (take (cond j (run_len rest + 1) 1) (b ∷ rest)) ≡ along (cond j (run_len rest + 1) 1) p
end-step false p b rest front ahead = after-along b p front
end-step true p b rest front ahead =
    let n = run_len rest in
    let far : along n (along 1 p) ≡ along (n + 1) p = ap (λ (k : ℕ). record { line = p.line; column = k }) (omega arith) in
    ap (λ (m : ℕ). end_from p (take m (b ∷ rest))) (add-one n)
    ∙ ap (λ (q : Place). end_from q (take n rest)) (after-along b p front)
    ∙ ahead refl ∙ far

pub end_of-token : (p : Place) (b : ℕ) (rest : List ℕ) → is_white b ≡ false → end_from p (token_at (b ∷ rest)) ≡ along (run_len (b ∷ rest)) p
end_of-token p b [] front = after-along b p front
end_of-token p b (c ∷ rest) front = end-step (joins b c) p b (c ∷ rest) front (λ joined. end_of-token (along 1 p) c rest (joins-white b c joined))
