-- Text that is appended piece by piece.
use Rattle.std.proofs.Common.{◌≡◌, ◌≤◌, ◌<◌, ◌+◌, ℕ, List, [], ◌∷◌, ◌++◌, length, take, get_or, map, refl, sym, ap, ◌∙◌, arith, append_assoc, append-nil, length-append}
use Rattle.std.specs.Prelude.{ℤ, Result, Ok, Err, OnErr, codes}
use Rattle.std.specs.List.{flat_map}
use Rattle.std.proofs.lemmas.List.{take-take, take_at, take_more, take_all}
use Rattle.std.proofs.lemmas.List.Concat.{flat_map_single}
use Rattle.std.proofs.lemmas.Grind.{flat_map-append}
use Rattle.pb_base.specs.declared.literal.Term.{Term}
use Rattle.pb_steps.specs.StepText.{with_blanks, word_of}
use Rattle.pb_steps.specs.StepGrammar.{StepSymbol, term_symbols, constraint_symbols}
use Rattle.pb_steps.specs.StepGrammar.StepSymbol.{key, number, integer}
use Rattle.pb_steps.specs.inner.Appending.{KeepsFront}

pub on_err : {T E P : Type 0} (r : Result T E) → P → OnErr r P
on_err (Ok x) p = tt
on_err (Err e) p = p

-- what is kept of more is kept
pub kept_further : (xs ys zs ws : List ℕ) → zs ≡ xs ++ ys → KeepsFront zs ws → KeepsFront xs ws
kept_further xs ys zs ws is kept =
    let long : length xs ≤ length zs = omega (arith, ap length is, length-append xs ys) in
    sym (take-take (length xs) (length zs) ws long) ∙ ap (take (length xs)) (kept ∙ is) ∙ take_at xs ys (length xs) refl

-- words of pieces, each behind a blank
pub behind_flat : {X : Type 0} (f : X → List StepSymbol) (xs : List X) → with_blanks (flat_map f xs) ≡ flat_map (λ x. with_blanks (f x)) xs
behind_flat f [] = refl
behind_flat {X} f (x ∷ xs) = flat_map-append (λ k. 32 ∷ word_of k) (f x) (flat_map f xs) ∙ ap (λ (ys : List ℕ). with_blanks (f x) ++ ys) (behind_flat f xs)

-- a constraint, part by part
pub constraint_text : (ts : List Term) (right : ℤ) → with_blanks (constraint_symbols ts right []) ≡ with_blanks (flat_map term_symbols ts) ++ with_blanks (key (codes ">=") ∷ integer right ∷ key (codes ";") ∷ [])
constraint_text ts right = flat_map-append (λ k. 32 ∷ word_of k) (flat_map term_symbols ts) (key (codes ">=") ∷ integer right ∷ key (codes ";") ∷ [])

-- what follows its `;` comes behind it
pub constraint_then : (ts : List Term) (right : ℤ) (rest : List StepSymbol) → with_blanks (constraint_symbols ts right rest) ≡ with_blanks (constraint_symbols ts right []) ++ with_blanks rest
constraint_then ts right rest =
    ap with_blanks (sym (append_assoc (flat_map term_symbols ts) (key (codes ">=") ∷ integer right ∷ key (codes ";") ∷ []) rest))
    ∙ flat_map-append (λ k. 32 ∷ word_of k) (constraint_symbols ts right []) rest

-- one more piece
pub grown : {X : Type 0} (f : X → List ℕ) (xs : List X) (i : ℕ) (x : X) (start before after : List ℕ) → i < length xs → x ≡ get_or xs i x → before ≡ start ++ flat_map f (take i xs) → after ≡ before ++ f x → after ≡ start ++ flat_map f (take (i + 1) xs)
grown {X} f xs i x start before after within is so_far pushed =
    pushed ∙ ap (λ (y : X). before ++ f y) is ∙ ap (λ (ys : List ℕ). ys ++ f (get_or xs i x)) so_far ∙ append_assoc start (flat_map f (take i xs)) (f (get_or xs i x))
    ∙ ap (λ (ys : List ℕ). start ++ ys) (sym (ap (flat_map f) (take_more xs i x within) ∙ flat_map-append f (take i xs) (get_or xs i x ∷ []) ∙ ap (λ (zs : List ℕ). flat_map f (take i xs) ++ zs) (append-nil (f (get_or xs i x)))))

-- all pieces
pub whole : {X : Type 0} (f : X → List StepSymbol) (xs : List X) (i : ℕ) (start now : List ℕ) → length xs ≤ i → now ≡ start ++ flat_map (λ x. with_blanks (f x)) (take i xs) → now ≡ start ++ with_blanks (flat_map f xs)
whole {X} f xs i start now past so_far =
    so_far ∙ ap (λ (ys : List X). start ++ flat_map (λ x. with_blanks (f x)) ys) (take_all i xs past) ∙ ap (λ (ys : List ℕ). start ++ ys) (sym (behind_flat f xs))

-- ids, a word each
pub ids_text : (ids : List ℕ) → with_blanks (flat_map (λ id. number id ∷ []) ids) ≡ with_blanks (map number ids)
ids_text ids = ap with_blanks (flat_map_single number ids)
