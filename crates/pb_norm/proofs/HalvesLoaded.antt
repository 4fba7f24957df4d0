-- The halves of a statement are loaded one after the other.
use Rattle.std.proofs.Common.{◌≡◌, ◌<◌, ◌≤◌, ◌+◌, ℕ, List, [], ◌∷◌, ◌++◌, length, take, get_or, map, append_assoc, subst, sym, ap, ◌∙◌}
use Rattle.std.proofs.lemmas.List.{take_more, take_all, map-append}
use Rattle.pb_base.specs.declared.problem.Raw.{Raw}
use Rattle.pb_norm.specs.Constraints.{Constraint}
use Rattle.pb_norm.specs.declared.halves.Half.{Half}
use Rattle.pb_norm.specs.Halves.{half_of}

pub half_more : (s : Raw) (items halves : List Half) (i : ℕ) (d : Half) (start before after : List Constraint) (made : Constraint) →
    items ≡ halves → i < length items → made ≡ half_of (get_or items i d) s → before ≡ start ++ map (λ half. half_of half s) (take i halves) → after ≡ before ++ made ∷ [] →
    after ≡ start ++ map (λ half. half_of half s) (take (i + 1) halves)
half_more s items halves i d start before after made same below made_is so_far pushed =
    let within : i < length halves = subst (λ (n : ℕ). i < n) (ap length same) below in
    let last = half_of (get_or halves i d) s in
    pushed ∙ ap (λ (x : Constraint). before ++ x ∷ []) (made_is ∙ ap (λ (hs : List Half). half_of (get_or hs i d) s) same) ∙ ap (λ (ys : List Constraint). ys ++ last ∷ []) so_far
    ∙ append_assoc start (map (λ half. half_of half s) (take i halves)) (last ∷ [])
    ∙ ap (λ (ys : List Constraint). start ++ ys) (sym (ap (map (λ half. half_of half s)) (take_more halves i d within) ∙ map-append (λ half. half_of half s) (take i halves) (get_or halves i d ∷ [])))

pub halves_done : (s : Raw) (items halves : List Half) (i : ℕ) (start now : List Constraint) → items ≡ halves → length items ≤ i → now ≡ start ++ map (λ half. half_of half s) (take i halves) → now ≡ start ++ map (λ half. half_of half s) halves
halves_done s items halves i start now same past so_far =
    so_far ∙ ap (λ (hs : List Half). start ++ map (λ half. half_of half s) hs) (take_all i halves (subst (λ (n : ℕ). n ≤ i) (ap length same) past))
