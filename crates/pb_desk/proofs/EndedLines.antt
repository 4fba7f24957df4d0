-- Lines that LF ends, of the bytes that were taken up to now.
use Rattle.std.proofs.Common.{◌≡◌, ◌⊎◌, inl, inr, ℕ, Bool, true, false, cond, List, [], ◌∷◌, ◌++◌, arith, length, refl, ap, sym, ◌∙◌, subst, eqb, append_assoc}
use Rattle.std.proofs.lemmas.List.{append-nil, append_cancel_right}
use Rattle.std.proofs.lemmas.List.Elements.{All-head, All-tail, All-nil, All-cons}
use Rattle.std.proofs.lemmas.Bool.{eqb-true}
use Rattle.pb_base.specs.Lines.{first_line}
use Rattle.pb_desk.specs.Lines.{behind_first, BeginsWith, IsUnbroken, ended_lines, onto_first}

-- bytes without LF end no line
pub ended_none : (xs : List ℕ) → IsUnbroken xs → ended_lines xs ≡ []
ended_none [] h = refl
ended_none (x ∷ xs) h =
    let first : eqb x 10 ≡ false = All-head (λ b. eqb b 10 ≡ false) x xs h in
    rw first (ap (onto_first x) (ended_none xs (All-tail (λ b. eqb b 10 ≡ false) x xs h)))

-- bytes up to an LF are one
pub ended_break : (xs ys : List ℕ) → IsUnbroken xs → ended_lines (xs ++ 10 ∷ ys) ≡ xs ∷ ended_lines ys
ended_break [] ys h = refl
ended_break (x ∷ xs) ys h =
    let first : eqb x 10 ≡ false = All-head (λ b. eqb b 10 ≡ false) x xs h in
    rw first (ap (onto_first x) (ended_break xs ys (All-tail (λ b. eqb b 10 ≡ false) x xs h)))

unbroken-first : (text : List ℕ) → IsUnbroken (first_line text)
unbroken-first [] = All-nil (λ b. eqb b 10 ≡ false)
unbroken-first (b ∷ bytes) = by_test (eqb b 10) refl (unbroken-first bytes)
  where
    by_test : (e : Bool) → eqb b 10 ≡ e → IsUnbroken (first_line bytes) → IsUnbroken (cond e [] (b ∷ first_line bytes))
    by_test true is later = All-nil (λ b. eqb b 10 ≡ false)
    by_test false is later = All-cons (λ b. eqb b 10 ≡ false) b (first_line bytes) is later

abbrev Splits : List ℕ → List ℕ → List ℕ → Type 0
Splits line text rest = (text ≡ line ++ 10 ∷ rest) ⊎ ((text ≡ line) × (rest ≡ []))

splits-first : (text : List ℕ) → Splits (first_line text) text (behind_first text)
splits-first [] = inr (refl, refl)
splits-first (b ∷ bytes) = by_test (eqb b 10) refl (splits-first bytes)
  where
    by_test : (e : Bool) → eqb b 10 ≡ e → Splits (first_line bytes) bytes (behind_first bytes) → Splits (cond e [] (b ∷ first_line bytes)) (b ∷ bytes) (cond e bytes (behind_first bytes))
    by_test true is later = inl (ap (λ (x : ℕ). x ∷ bytes) (eqb-true b 10 is))
    by_test false is (inl whole) = inl (ap (λ (xs : List ℕ). b ∷ xs) whole)
    by_test false is (inr last) = inr (ap (λ (xs : List ℕ). b ∷ xs) last.0, last.1)

line_splits : (line text rest : List ℕ) → BeginsWith line text rest → Splits line text rest
line_splits line text rest h = subst (λ (r : List ℕ). Splits line text r) (sym h.behind) (subst (λ (l : List ℕ). Splits l text (behind_first text)) (sym h.first) (splits-first text))

-- What is asked of the lines that end from the start of the text on, where that is asked of those from here on: bytes passed by, and
-- whatever part of what is left is added to them.
abbrev pub Passes : (List (List ℕ) → Type 0) → (List (List ℕ) → Type 0) → List ℕ → List ℕ → Type 0
Passes A B text rest = (passed : List ℕ) × (text ≡ passed ++ rest) × ((part : List ℕ) → (rest ≡ [] → part ≡ []) → B (ended_lines part) → A (ended_lines (passed ++ part)))

pub passes_begin : (A : List (List ℕ) → Type 0) (text : List ℕ) → Passes A A text text
passes_begin A text = ([], refl, λ part none h. h)

-- a line more
pub passes_line : (A B C : List (List ℕ) → Type 0) (line text middle rest : List ℕ) → BeginsWith line middle rest → ((lines : List (List ℕ)) → C lines → B (line ∷ lines)) → B [] → Passes A B text middle → Passes A C text rest
passes_line A B C line text middle rest begins goes_on none (passed, whole, holds) = by_end (line_splits line middle rest begins)
  where
    unbroken : IsUnbroken line
    unbroken = subst IsUnbroken (sym begins.first) (unbroken-first middle)

    some : middle ≡ [] → (part : List ℕ) → part ≡ []
    some e part = absurd (omega (arith, begins.some, ap length e))

    by_end : Splits line middle rest → Passes A C text rest
    by_end (inl ended) =
        let joins : (more : List ℕ) → (passed ++ (line ++ 10 ∷ [])) ++ more ≡ passed ++ (line ++ 10 ∷ more) =
        λ more. append_assoc passed (line ++ 10 ∷ []) more ∙ ap (λ (xs : List ℕ). passed ++ xs) (append_assoc line (10 ∷ []) more) in (
          passed ++ (line ++ 10 ∷ []),
          whole ∙ (ap (λ (xs : List ℕ). passed ++ xs) ended ∙ sym (joins rest)),
          λ part empty h. subst (λ (xs : List ℕ). A (ended_lines xs)) (sym (joins part))
              (holds (line ++ 10 ∷ part) (λ e. some e (line ++ 10 ∷ part)) (subst B (sym (ended_break line part unbroken)) (goes_on (ended_lines part) h))),
        )
    by_end (inr last) = (
      passed ++ line,
      whole ∙ (ap (λ (xs : List ℕ). passed ++ xs) last.0 ∙ (sym (append-nil (passed ++ line)) ∙ ap (λ (xs : List ℕ). (passed ++ line) ++ xs) (sym last.1))),
      λ part empty h. subst (λ (xs : List ℕ). A (ended_lines xs)) (sym (append-nil (passed ++ line)) ∙ ap (λ (xs : List ℕ). (passed ++ line) ++ xs) (sym (empty last.1)))
          (holds line (λ e. some e line) (subst B (sym (ended_none line unbroken)) none)),
    )

-- the bytes up to here, and a part of a line behind them
pub passes_part : (A B : List (List ℕ) → Type 0) (bytes part behind : List ℕ) → IsUnbroken part → B [] → Passes A B (bytes ++ behind) (part ++ behind) → A (ended_lines bytes)
passes_part A B bytes part behind unbroken none (passed, whole, holds) =
    let is : bytes ≡ passed ++ part = append_cancel_right bytes (passed ++ part) behind (whole ∙ sym (append_assoc passed part behind)) in
    subst (λ (xs : List ℕ). A (ended_lines xs)) (sym is) (holds part (empty part) (subst B (sym (ended_none part unbroken)) none))
  where
    empty : (xs : List ℕ) → xs ++ behind ≡ [] → xs ≡ []
    empty [] e = refl
    empty (x ∷ xs) e = absurd (omega (arith, ap length e))
