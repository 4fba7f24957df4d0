-- What the marks say of a list, as numbers are pushed.
use Rattle.std.proofs.Common.{◌≡◌, ◌<◌, ◌≤◌, ◌+◌, ◌++◌, ◌⊎◌, ℕ, List, [], ◌∷◌, length, get_or, take, sym, ap, ◌∙◌, subst, inl, inr, append_assoc}
use Rattle.std.specs.Prelude.{Contains, map}
use Rattle.std.proofs.lemmas.List.{take_more, take_all, map-append}
use Rattle.std.proofs.lemmas.List.Elements.{Contains-get_or, Contains-append_left, Contains-append_cases}
use Rattle.pb_base.proofs.Members.{Contains-nil, Contains-cons_cases}
use Rattle.pb_gentot.specs.declared.seen.Seen.{Seen}
use Rattle.pb_gentot.specs.inner.Marks.{HasMark, MarksOnly}
use Rattle.pb_gentot.specs.inner.Members.{SameMembers}
use Rattle.pb_gentot.proofs.Joining.{same_then, same_joined}

-- lists with the same members suit the same marks
pub marks_kept : (seen : Seen) (xs ys : List ℕ) → MarksOnly seen xs → SameMembers xs ys → MarksOnly seen ys
marks_kept seen xs ys only same = record { stands = λ n h. same.to n (only.stands n h) }

-- one more number of the list may be marked
pub marks_one : (old new : Seen) (xs : List ℕ) (i : ℕ) → i < length xs → MarksOnly old xs → ((n : ℕ) → HasMark new n → (n ≡ get_or xs i 0) ⊎ HasMark old n) → MarksOnly new xs
marks_one old new xs i within only marked = record {
  stands = λ n h. elim (marked n h) as (λ _. Contains xs n) [
    | inl same ↦ subst (λ (k : ℕ). Contains xs k) (sym same) (Contains-get_or xs i 0 within)
    | inr before ↦ only.stands n before
  ];
}

-- a number that stands there already adds nothing
pub same_again : (xs : List ℕ) (n : ℕ) → Contains xs n → SameMembers (xs ++ n ∷ []) xs
same_again xs n there = record {
  to = λ m h. elim (Contains-append_cases xs (n ∷ []) m h) as (λ _. Contains xs m) [
    | inl before ↦ before
    | inr last ↦ elim (Contains-cons_cases n [] m last) as (λ _. Contains xs m) [
      | inl same ↦ subst (λ (k : ℕ). Contains xs k) same there
      | inr none ↦ absurd (Contains-nil m none)
    ]
  ];
  from = λ m h. Contains-append_left xs (n ∷ []) m h;
}

-- a row, one number longer
pub row_more : (old others made after : List ℕ) (f : ℕ → ℕ) (value i : ℕ) → i < length others
    → SameMembers (old ++ value ∷ map f (take i others)) made → SameMembers (made ++ f (get_or others i 0) ∷ []) after
    → SameMembers (old ++ value ∷ map f (take (i + 1) others)) after
row_more old others made after f value i within before pushed =
    let y = f (get_or others i 0) in
    let longer : map f (take (i + 1) others) ≡ map f (take i others) ++ y ∷ [] = ap (map f) (take_more others i 0 within) ∙ map-append f (take i others) (get_or others i 0 ∷ []) in
    let is : old ++ value ∷ map f (take (i + 1) others) ≡ (old ++ value ∷ map f (take i others)) ++ y ∷ [] =
    ap (λ (xs : List ℕ). old ++ value ∷ xs) longer ∙ sym (append_assoc old (value ∷ map f (take i others)) (y ∷ [])) in
    subst (λ (xs : List ℕ). SameMembers xs after) (sym is)
    (same_then ((old ++ value ∷ map f (take i others)) ++ y ∷ []) (made ++ y ∷ []) after (same_joined (old ++ value ∷ map f (take i others)) made (y ∷ []) before) pushed)

-- the whole row
pub row_whole : (old others made : List ℕ) (f : ℕ → ℕ) (value i : ℕ) → length others ≤ i → SameMembers (old ++ value ∷ map f (take i others)) made → SameMembers (old ++ value ∷ map f others) made
row_whole old others made f value i passed = subst (λ (xs : List ℕ). SameMembers (old ++ value ∷ map f xs) made) (take_all i others passed)
