-- Terms as steps have them, and slices of terms.
use Rattle.std.proofs.Common.{◌≡◌, ◌≤◌, ◌<◌, ◌-◌, ◌^◌, ℕ, Bool, true, false, if◌then◌else◌, List, [], ◌∷◌, length, length-drop, take, drop, refl, sym, ap, ◌∙◌, arith}
use Rattle.std.specs.Prelude.{All, map, slice_index_or}
use Rattle.std.proofs.lemmas.List.{take-map, drop-map, get_or-map, length-map, take_all}
use Rattle.std.proofs.lemmas.List.Elements.{All-nil, All-cons}
use Rattle.std.proofs.lemmas.List.Sums.{sum_by-take-drop}
use Rattle.pb_base.specs.declared.literal.Term.{Term}
use Rattle.pb_norm.specs.Constraints.{Weighted, weight, weighted, weights, term_of, terms_of}
use Rattle.pb_norm.specs.inner.Kept.{on_term}
use Rattle.pb_norm.specs.Reduction.{lits_of, opposite}
use Rattle.pb_norm.proofs.AdditionSizes.{weight-cons}
use Rattle.pb_family.specs.Fresh.{positive_of, literal_at}
use Rattle.pb_family.specs.inner.Parts.{turned}

pub light_terms : (ts : List Term) → weight (weights ts) < 2 ^ 124 → All (λ t. (weighted t).coef < 2 ^ 127) ts
light_terms [] light = All-nil (λ (t : Term). (weighted t).coef < 2 ^ 127)
light_terms (t ∷ ts) light =
    let sum = weight-cons (weighted t) (weights ts) in
    All-cons (λ (t : Term). (weighted t).coef < 2 ^ 127) t ts (omega arith) (light_terms ts (omega arith))

pub turned_terms : (flip : Bool) (ts : List Term) → map (on_term (turned flip)) ts ≡ terms_of (if flip then map opposite (weights ts) else weights ts)
turned_terms true [] = refl
turned_terms true (t ∷ ts) = ap (λ (us : List Term). term_of (opposite (weighted t)) ∷ us) (turned_terms true ts)
turned_terms false [] = refl
turned_terms false (t ∷ ts) = ap (λ (us : List Term). term_of (weighted t) ∷ us) (turned_terms false ts)

-- ---- slices

pub weights_from : (ts : List Term) (k j : ℕ) → j ≡ k → weights (take (length ts - k) (drop k ts)) ≡ drop j (weights ts)
weights_from ts k j same =
    ap weights (take_all (length ts - k) (drop k ts) (let size = length-drop k ts in omega arith)) ∙ sym (drop-map weighted k ts) ∙ ap (λ (n : ℕ). drop n (weights ts)) (sym same)

pub weights_until : (ts : List Term) (k : ℕ) → weights (take k ts) ≡ take k (weights ts)
weights_until ts k = sym (take-map weighted k ts)

pub light_from : (ts : List Term) (k : ℕ) → weight (weights (take (length ts - k) (drop k ts))) ≤ weight (weights ts)
light_from ts k = omega (arith, ap weight (weights_from ts k k refl), sum_by-take-drop (λ (t : Weighted). t.coef) (weights ts) k)

-- ---- literals

-- a literal for each term
pub literal_count : (ts : List Term) → length (lits_of (weights ts)) ≡ length ts
literal_count ts = length-map (weights ts) (λ (t : Weighted). t.lit) ∙ length-map ts weighted

pub literal_of_term : (ts : List Term) (k : ℕ) (d : Term) → k < length ts → literal_at (lits_of (weights ts)) k ≡ (slice_index_or ts k d).lit
literal_of_term ts k d within =
    let same : length (weights ts) ≡ length ts = length-map ts weighted in
    get_or-map (λ (t : Weighted). t.lit) (weights ts) k (weighted d) (positive_of 0) (omega arith)
    ∙ ap (λ (t : Weighted). t.lit) (get_or-map weighted ts k d (weighted d) within)
