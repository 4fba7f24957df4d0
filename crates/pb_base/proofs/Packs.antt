-- Things whose numbers stand for others by codes, while wide ones are added.
use Rattle.std.proofs.Common.{◌≡◌, ℕ, ◌-◌, ◌<◌, ◌≤◌, ◌^◌, ℤ, pos, ◌-ℤ◌, Bool, true, false, cond, List, [], ◌∷◌, ◌++◌, map, take, length, get_or, arith, refl, ap, sym, ◌∙◌}
use Rattle.std.specs.Prelude.{All, nat_lt}
use Rattle.std.proofs.lemmas.List.{length-take, get_or-take, map_push}
use Rattle.std.proofs.lemmas.List.Elements.{All-head, All-tail, All-weaker}
use Rattle.std.proofs.lemmas.Bool.{ltb-false}
use Rattle.pb_base.specs.declared.packed.PackedTerm.{PackedTerm}
use Rattle.pb_base.specs.declared.heads.PackedHead.{PackedHead}
use Rattle.pb_base.specs.inner.Packing.{number_in, IsKept, term_in, head_in, AreTermsKept, AreHeadsKept}

pub wider : (wide more : List ℤ) → take (length wide) more ≡ wide → length wide ≤ length more
wider wide more longer = omega (arith, ap (λ (ns : List ℤ). length ns) longer, length-take (length wide) more)

pub kept-wider : (wide more : List ℤ) (code : ℕ) → take (length wide) more ≡ wide → IsKept (length wide) code → IsKept (length more) code
kept-wider wide more code longer kept = omega (arith, wider wide more longer, kept)

pub number-stays : (wide more : List ℤ) (code : ℕ) → take (length wide) more ≡ wide → IsKept (length wide) code → number_in more code ≡ number_in wide code
number-stays wide more code longer kept = by_test (nat_lt code (2 ^ 31)) refl
  where
    at : ℕ → List ℤ → ℤ
    at k ns = get_or ns k (pos 0)

    by_test : (small : Bool) → nat_lt code (2 ^ 31) ≡ small → cond small (pos code -ℤ pos (2 ^ 30)) (at (code - 2 ^ 31) more) ≡ cond small (pos code -ℤ pos (2 ^ 30)) (at (code - 2 ^ 31) wide)
    by_test true is = refl
    by_test false is =
        let near : code - 2 ^ 31 < length wide = omega (arith, kept, ltb-false code (2 ^ 31) is) in
        sym (get_or-take (length wide) more (code - 2 ^ 31) (pos 0) near) ∙ ap (at (code - 2 ^ 31)) longer

-- a list of them, each read as what it stands for
module _ {P X : Type 0} (code : P → ℕ) (read : List ℤ → P → X) (by_number : (wide more : List ℤ) (p : P) → number_in more (code p) ≡ number_in wide (code p) → read more p ≡ read wide p) where
  pub all-kept : (wide more : List ℤ) (ps : List P) → take (length wide) more ≡ wide → All (λ p. IsKept (length wide) (code p)) ps → All (λ p. IsKept (length more) (code p)) ps
  all-kept wide more ps longer kept = All-weaker (λ p. IsKept (length wide) (code p)) (λ p. IsKept (length more) (code p)) (λ p k. kept-wider wide more (code p) longer k) ps kept

  pub all-stay : (wide more : List ℤ) (ps : List P) → take (length wide) more ≡ wide → All (λ p. IsKept (length wide) (code p)) ps → map (read more) ps ≡ map (read wide) ps
  all-stay wide more [] longer kept = refl
  all-stay wide more (p ∷ ps) longer kept =
      let first = by_number wide more p (number-stays wide more (code p) longer (All-head (λ q. IsKept (length wide) (code q)) p ps kept)) in
      let others = all-stay wide more ps longer (All-tail (λ q. IsKept (length wide) (code q)) p ps kept) in
      λ i. first i ∷ others i

  pub all-pushed : (wide more : List ℤ) (ps : List P) (p : P) (x : X) → take (length wide) more ≡ wide → All (λ q. IsKept (length wide) (code q)) ps → read more p ≡ x → map (read more) (ps ++ p ∷ []) ≡ map (read wide) ps ++ x ∷ []
  all-pushed wide more ps p x longer kept is =
      let old = all-stay wide more ps longer kept in
      map_push (read more) ps p ∙ (λ i. old i ++ is i ∷ [])

pub term-by_number : (wide more : List ℤ) (t : PackedTerm) → number_in more t.coef ≡ number_in wide t.coef → term_in more t ≡ term_in wide t
term-by_number wide more t same = λ i. record { coef = same i; lit = t.lit }

pub terms-stay : (wide more : List ℤ) (ts : List PackedTerm) → take (length wide) more ≡ wide → AreTermsKept wide ts → map (term_in more) ts ≡ map (term_in wide) ts
terms-stay = all-stay (λ (t : PackedTerm). t.coef) term_in term-by_number

pub head-by_number : (wide more : List ℤ) (h : PackedHead) → number_in more h.right ≡ number_in wide h.right → head_in more h ≡ head_in wide h
head-by_number wide more h same = λ i. record { terms = h.terms; relation = h.relation; right = same i }

pub heads-stay : (wide more : List ℤ) (hs : List PackedHead) → take (length wide) more ≡ wide → AreHeadsKept wide hs → map (head_in more) hs ≡ map (head_in wide) hs
heads-stay = all-stay (λ (h : PackedHead). h.right) head_in head-by_number
