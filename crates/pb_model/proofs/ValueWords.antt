-- Values of variables, one after another.
use Rattle.std.proofs.Common.{◌≡◌, ℕ, ◌+◌, ◌<◌, ◌≤◌, Bool, List, [], ◌∷◌, ◌++◌, length, take, get_or, ap, sym, ◌∙◌, arith, append_assoc, append-nil, length-append, length-take-le}
use Rattle.std.proofs.lemmas.List.{take_more, take-take}
use Rattle.std.proofs.Math.Seq.{take-append_seam}
use Rattle.pb_base.specs.declared.problem.Problem.{Problem}
use Rattle.pb_model.specs.SolutionText.{value_word, value_words}

value_words-append : (p : Problem) (v : ℕ) (xs ys : List Bool) → value_words p v (xs ++ ys) ≡ value_words p v xs ++ value_words p (v + length xs) ys
value_words-append p v [] ys = let same : v ≡ v + 0 = omega arith in ap (λ (n : ℕ). value_words p n ys) same
value_words-append p v (x ∷ xs) ys =
    let far : v + 1 + length xs ≡ v + length (x ∷ xs) = omega arith in
    ap (λ (zs : List ℕ). value_word p v x ++ zs) (value_words-append p (v + 1) xs ys ∙ ap (λ (n : ℕ). value_words p (v + 1) xs ++ value_words p n ys) far)
    ∙ sym (append_assoc (value_word p v x) (value_words p (v + 1) xs) (value_words p (v + length (x ∷ xs)) ys))

-- one more
pub value_words_more : (p : Problem) (xs : List Bool) (i : ℕ) (d : Bool) → i < length xs
    → value_words p 1 (take (i + 1) xs) ≡ value_words p 1 (take i xs) ++ value_word p (i + 1) (get_or xs i d)
value_words_more p xs i d h =
    let long : length (take i xs) ≡ i = length-take-le i xs (omega arith) in
    let far : 1 + length (take i xs) ≡ i + 1 = omega (arith, long) in
    ap (value_words p 1) (take_more xs i d h)
    ∙ value_words-append p 1 (take i xs) (get_or xs i d ∷ [])
    ∙ ap (λ (n : ℕ). value_words p 1 (take i xs) ++ (value_word p n (get_or xs i d) ++ [])) far
    ∙ ap (λ (zs : List ℕ). value_words p 1 (take i xs) ++ zs) (append-nil (value_word p (i + 1) (get_or xs i d)))

-- what stands before more stays
pub kept_before : (start more mid new : List ℕ) → mid ≡ start ++ more → take (length mid) new ≡ mid → take (length start) new ≡ start
kept_before start more mid new is kept =
    let long : length start ≤ length mid = omega (arith, ap length is, length-append start more) in
    sym (take-take (length start) (length mid) new long) ∙ ap (take (length start)) (kept ∙ is) ∙ take-append_seam start more
