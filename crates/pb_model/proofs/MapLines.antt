-- Lines of free names, one after another.
use Rattle.std.proofs.Common.{◌≡◌, ℕ, zero, suc, ◌+◌, List, [], ◌∷◌, ◌++◌, ap, ◌∙◌, arith}
use Rattle.std.specs.List.{flat_map, range_with_len}
use Rattle.std.proofs.lemmas.List.{flat_map_more}

range_more : (a n : ℕ) → range_with_len a n ++ (a + n) ∷ [] ≡ range_with_len a (suc n)
range_more a zero = let same : a + 0 ≡ a = omega arith in ap (λ (k : ℕ). k ∷ []) same
range_more a (suc n) =
    let far : a + suc n ≡ a + 1 + n = omega arith in
    ap (λ (ks : List ℕ). a ∷ ks) (ap (λ (k : ℕ). range_with_len (a + 1) n ++ k ∷ []) far ∙ range_more (a + 1) n)

-- one more
pub line_more : (line : ℕ → List ℕ) (start : List ℕ) (a n : ℕ)
    → (start ++ flat_map line (range_with_len a n)) ++ line (a + n) ≡ start ++ flat_map line (range_with_len a (n + 1))
line_more line start a n =
    let next : suc n ≡ n + 1 = omega arith in
    flat_map_more line start (range_with_len a n) (a + n)
    ∙ ap (λ (ks : List ℕ). start ++ flat_map line ks) (range_more a n ∙ ap (range_with_len a) next)
