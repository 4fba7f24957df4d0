-- The greatest variable, one item after another.
use Rattle.std.proofs.Common.{◌≡◌, ◌≤◌, ◌<◌, ◌+◌, ◌^◌, ◌∙◌, ◌∷◌, ◌++◌, [], ℕ, List, ap, arith, get_or, length, subst, sym, take}
use Rattle.std.specs.Prelude.{All}
use Rattle.std.proofs.lemmas.List.{take_all, take_more}
use Rattle.std.proofs.lemmas.List.Elements.{All-map, All-push, All-weaker}
use Rattle.pb_base.specs.declared.literal.Term.{Term}
use Rattle.pb_norm.specs.Constraints.{Weighted, weighted, weights}
use Rattle.pb_unit.specs.Reaching.{IsUpTo, OfTerm}

pub up_to : (m n : ℕ) → m ≤ n → (v : ℕ) → IsUpTo m v → IsUpTo n v
up_to m n le v is = record { low = is.low; high = omega (arith, is.high, le) }

-- a number below 2^31 that is no less than a least one and than what items have
pub record IsMost {X : Type 0} (P : ℕ → X → Type 0) (least : ℕ) (xs : List X) (most : ℕ) : Type 0 where
  pub within : All (P most) xs
  pub no_less : least ≤ most
  pub few : most < 2 ^ 31

-- one item more, under a number that is no less
pub most_next : {X : Type 0} (P : ℕ → X → Type 0) → ((m n : ℕ) → m ≤ n → (x : X) → P m x → P n x) → {least : ℕ} (xs : List X) (i : ℕ) (x : X) {most next : ℕ} → i < length xs → x ≡ get_or xs i x → IsMost P least (take i xs) most → most ≤ next → next < 2 ^ 31 → P next x → IsMost P least (take (i + 1) xs) next
most_next {X} P rises xs i x {most} {next} below is so_far le few here = record {
  within =
      let more = take_more xs i x below ∙ ap (λ (y : X). take i xs ++ y ∷ []) (sym is) in
      subst (All (P next)) (sym more) (All-push (P next) (take i xs) x (All-weaker (P most) (P next) (rises most next le) (take i xs) so_far.within) here);
  no_less = omega (arith, so_far.no_less, le);
  few = few;
}

pub most_all : {X : Type 0} (P : ℕ → X → Type 0) {least : ℕ} (xs : List X) (i : ℕ) {most : ℕ} → length xs ≤ i → IsMost P least (take i xs) most → All (P most) xs
most_all P xs i {most} all so_far = subst (All (P most)) (take_all i xs all) so_far.within

pub of_terms : (K : ℕ → Type 0) (ts : List Term) (ws : List Weighted) → weights ts ≡ ws → All (λ (t : Term). K t.lit.var) ts → All (OfTerm K) ws
of_terms K ts ws is h = subst (All (OfTerm K)) is (All-map (OfTerm K) weighted ts h)
