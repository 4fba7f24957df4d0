-- Lists in which one item after another is replaced by what is made of it.
use Rattle.std.proofs.Common.{◌≡◌, ◌<◌, ◌+◌, ℕ, suc, List, [], ◌∷◌, ◌++◌, map, take, drop, set, length, get_or, length-drop, arith, ap, sym, subst, ◌∙◌}
use Rattle.std.proofs.Math.Seq.{drop-cons}
use Rattle.std.proofs.lemmas.List.{map_more, take_more_set, drop-set-lt}

-- the items before the place are replaced, and the others are as they were
pub record IsMapped {X : Type 0} (f : X → X) (old now : List X) (i : ℕ) : Type 0 where
  pub done : take i now ≡ map f (take i old)
  pub left : drop i now ≡ drop i old

pub within : {X : Type 0} (f : X → X) (old now : List X) (i : ℕ) → IsMapped f old now i → i < length now → i < length old
within f old now i h below = omega (arith, below, ap length h.left, length-drop i now, length-drop i old)

cut : {X : Type 0} (f : X → X) (old now : List X) (i : ℕ) (x : X) → IsMapped f old now i → i < length now → get_or now i x ∷ drop (i + 1) now ≡ get_or old i x ∷ drop (i + 1) old
cut {X} f old now i x h below =
    let next : suc i ≡ i + 1 = omega arith in
    subst (λ (n : ℕ). get_or now i x ∷ drop n now ≡ get_or old i x ∷ drop n old) next (sym (drop-cons now i x below) ∙ h.left ∙ drop-cons old i x (within f old now i h below))

-- the next one is as it was
pub mapped_next : {X : Type 0} (f : X → X) (old now : List X) (i : ℕ) (x : X) → IsMapped f old now i → i < length now → get_or now i x ≡ get_or old i x
mapped_next {X} f old now i x h below = ap (λ (xs : List X). get_or xs 0 x) (cut f old now i x h below)

-- and is replaced
pub mapped_more : {X : Type 0} (f : X → X) (old now : List X) (i : ℕ) (x y : X) → IsMapped f old now i → i < length now → x ≡ get_or now i x → y ≡ f x → IsMapped f old (set now i y) (i + 1)
mapped_more {X} f old now i x y h below here made =
    let first : x ≡ get_or old i x = here ∙ mapped_next f old now i x h below in
    let rest : drop (i + 1) now ≡ drop (i + 1) old = ap (λ (xs : List X). drop 1 xs) (cut f old now i x h below) in
    record {
      done = take_more_set now i y below ∙ ap (λ (ys : List X). ys ++ y ∷ []) h.done ∙ ap (λ (z : X). map f (take i old) ++ z ∷ []) (made ∙ ap f first) ∙ sym (map_more f old i x (within f old now i h below));
      left = drop-set-lt (i + 1) now i y (omega arith) ∙ rest;
    }
