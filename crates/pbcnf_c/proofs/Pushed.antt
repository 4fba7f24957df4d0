-- Integers that are appended for a clause, one literal after another.
use Rattle.std.proofs.Common.{◌≡◌, ◌≤◌, ◌<◌, ◌+◌, ◌∙◌, ◌++◌, [], ◌∷◌, zero, suc, List, ℕ, ℤ, pos, neg_ℤ, ap, append_assoc, append-nil, arith, get_or, length, refl, subst, sym, take, FitsSigned}
use mir.Syntax.{w32}
use Rattle.std.proofs.Common.{negsuc}
use Rattle.std.proofs.Math.Seq.{take-append_seam}
use Rattle.std.proofs.lemmas.Grind.{flat_map-append}
use Rattle.std.specs.Prelude.{codes, decimal, All}
use Rattle.std.proofs.lemmas.List.Elements.{All-nil, All-cons, All-append}
use Rattle.std.specs.List.{flat_map}
use Rattle.pb_base.specs.declared.literal.Lit.{Lit}
use Rattle.pb_family.specs.ClauseText.{clause_text, literal_text}
use Rattle.pb_family.proofs.Gathered.{flat_next, flat_last}
use Rattle.pbcnf_c.specs.Integers.{integer_text, integers_text, IsSmall}

abbrev pub word : Lit → List ℕ
word l = literal_text l ++ codes " "

-- behind the start stand integers whose text is that of the first so many literals
abbrev pub Stands : List Lit → List ℤ → List ℤ → ℕ → Type 0
Stands ls start out i = (more : List ℤ) × (out ≡ start ++ more) × (integers_text more ≡ flat_map word (take i ls)) × All IsSmall more

small_of : (z : ℤ) → FitsSigned w32 z → IsSmall z
small_of (pos n) fits = omega (arith, fits)
small_of (negsuc n) fits = omega (arith, fits)

pub next : (ls : List Lit) (i : ℕ) (l : Lit) (start out new : List ℤ) (z : ℤ) → i < length ls → l ≡ get_or ls i l → Stands ls start out i → integer_text z ≡ word l → FitsSigned w32 z → new ≡ out ++ z ∷ [] → Stands ls start new (i + 1)
next ls i l start out new z within is m same fits pushed = (
  m.0 ++ z ∷ [],
  pushed ∙ ap (λ (xs : List ℤ). xs ++ z ∷ []) m.1 ∙ append_assoc start m.0 (z ∷ []),
  flat_next word ls i l l [] (integers_text m.0) (integers_text (m.0 ++ z ∷ [])) within is m.2
      (flat_map-append integer_text m.0 (z ∷ []) ∙ ap (λ (ys : List ℕ). integers_text m.0 ++ ys) (append-nil (integer_text z) ∙ same)),
  All-append IsSmall m.0 (z ∷ []) m.3 (All-cons IsSmall z [] (small_of z fits) (All-nil IsSmall)),
)

-- what was small is small still
pub still : (ls : List Lit) (i : ℕ) (start out new : List ℤ) → Stands ls start out i → new ≡ out → All IsSmall start → All IsSmall new
still ls i start out new m stays small = subst (All IsSmall) (sym (stays ∙ m.1)) (All-append IsSmall start m.0 small m.3)

pub still_more : (ls : List Lit) (i : ℕ) (start out new : List ℤ) → Stands ls start out i → new ≡ out ++ pos 0 ∷ [] → All IsSmall start → All IsSmall new
still_more ls i start out new m pushed small =
    subst (All IsSmall) (sym (pushed ∙ ap (λ (xs : List ℤ). xs ++ pos 0 ∷ []) m.1)) (All-append IsSmall (start ++ m.0) (pos 0 ∷ []) (All-append IsSmall start m.0 small m.3) (All-cons IsSmall (pos 0) [] (omega arith) (All-nil IsSmall)))

pub front : (ls : List Lit) (i : ℕ) (start out new : List ℤ) → Stands ls start out i → new ≡ out → take (length start) new ≡ start
front ls i start out new m stays = ap (take (length start)) (stays ∙ m.1) ∙ take-append_seam start m.0

pub front_more : (ls : List Lit) (i : ℕ) (start out new : List ℤ) (z : ℤ) → Stands ls start out i → new ≡ out ++ z ∷ [] → take (length start) new ≡ start
front_more ls i start out new z m pushed = ap (take (length start)) (pushed ∙ ap (λ (xs : List ℤ). xs ++ z ∷ []) m.1 ∙ append_assoc start m.0 (z ∷ [])) ∙ take-append_seam start (m.0 ++ z ∷ [])

pub last : (ls : List Lit) (i : ℕ) (start out new : List ℤ) → length ls ≤ i → Stands ls start out i → new ≡ out ++ pos 0 ∷ [] → integers_text new ≡ integers_text start ++ clause_text ls
last ls i start out new all m pushed =
    ap integers_text (pushed ∙ ap (λ (xs : List ℤ). xs ++ pos 0 ∷ []) m.1 ∙ append_assoc start m.0 (pos 0 ∷ [])) ∙ flat_map-append integer_text start (m.0 ++ pos 0 ∷ [])
    ∙ ap (λ (ys : List ℕ). integers_text start ++ ys) (flat_map-append integer_text m.0 (pos 0 ∷ []) ∙ ap (λ (ys : List ℕ). ys ++ codes "0\n") (flat_last word ls i [] (integers_text m.0) all m.2))

-- a positive number, and its opposite
pub positive : (n : ℕ) → 1 ≤ n → integer_text (pos n) ≡ decimal n ++ codes " "
positive zero low = absurd (omega (arith, low))
positive (suc n) low = refl

pub negative : (n : ℕ) → 1 ≤ n → integer_text (neg_ℤ (pos n)) ≡ (45 ∷ decimal n) ++ codes " "
negative zero low = absurd (omega (arith, low))
negative (suc n) low = refl
