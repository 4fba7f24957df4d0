-- Constraints of a few terms: their values, and that no variable stands twice.
use Rattle.std.proofs.Common.{◌≡◌, ◌≢◌, ◌<◌, ◌+◌, ◌*◌, ℕ, [], ◌∷◌, arith}
use Rattle.std.proofs.lemmas.List.Elements.{All-nil, All-cons}
use Rattle.std.proofs.lemmas.List.Kept.{AllPairs-cons}
use Rattle.pb_base.specs.declared.literal.Lit.{Lit}
use Rattle.pb_base.specs.Literals.{Assignment}
use Rattle.pb_base.proofs.Pairs.{AllPairs-nil}
use Rattle.pb_norm.specs.Constraints.{Weighted, AllPositive, value}
use Rattle.pb_norm.proofs.AdditionValues.{value-cons}
use Rattle.pb_derive.specs.Forms.{AreApartTerms}
use Rattle.pb_diagram.specs.Guards.{weighing}
use Rattle.pb_diagram.specs.laws.WorthSums.{holds, term-holds}

module _ (a : Assignment) where
  pub value-one : (n : ℕ) (l : Lit) → value a (weighing n l ∷ []) ≡ n * holds a l
  value-one n l = omega (arith, value-cons a (weighing n l) [], term-holds a n l)

  pub value-two : (n : ℕ) (l : Lit) (m : ℕ) (k : Lit) → value a (weighing n l ∷ weighing m k ∷ []) ≡ n * holds a l + m * holds a k
  value-two n l m k = omega (arith, value-cons a (weighing n l) (weighing m k ∷ []), term-holds a n l, value-one m k)

  pub value-three : (n : ℕ) (l : Lit) (m : ℕ) (k : Lit) (o : ℕ) (j : Lit) → value a (weighing n l ∷ weighing m k ∷ weighing o j ∷ []) ≡ n * holds a l + m * holds a k + o * holds a j
  value-three n l m k o j = omega (arith, value-cons a (weighing n l) (weighing m k ∷ weighing o j ∷ []), term-holds a n l, value-two m k o j)

  pub value-four : (n : ℕ) (l : Lit) (m : ℕ) (k : Lit) (o : ℕ) (j : Lit) (p : ℕ) (i : Lit) → value a (weighing n l ∷ weighing m k ∷ weighing o j ∷ weighing p i ∷ []) ≡ n * holds a l + m * holds a k + o * holds a j + p * holds a i
  value-four n l m k o j p i = omega (arith, value-cons a (weighing n l) (weighing m k ∷ weighing o j ∷ weighing p i ∷ []), term-holds a n l, value-three m k o j p i)

abbrev Other : Weighted → Weighted → Type 0
Other s t = s.lit.var ≢ t.lit.var

abbrev Positive : Weighted → Type 0
Positive t = 0 < t.coef

pub apart_one : (s : Weighted) → AreApartTerms (s ∷ [])
apart_one s = AllPairs-cons Other s [] (All-nil (Other s)) (AllPairs-nil Other)

pub apart_two : (s t : Weighted) → Other s t → AreApartTerms (s ∷ t ∷ [])
apart_two s t h = AllPairs-cons Other s (t ∷ []) (All-cons (Other s) t [] h (All-nil (Other s))) (apart_one t)

pub apart_three : (s t u : Weighted) → Other s t → Other s u → Other t u → AreApartTerms (s ∷ t ∷ u ∷ [])
apart_three s t u h k l = AllPairs-cons Other s (t ∷ u ∷ []) (All-cons (Other s) t (u ∷ []) h (All-cons (Other s) u [] k (All-nil (Other s)))) (apart_two t u l)

pub positive_one : (s : Weighted) → Positive s → AllPositive (s ∷ [])
positive_one s h = All-cons Positive s [] h (All-nil Positive)

pub positive_two : (s t : Weighted) → Positive s → Positive t → AllPositive (s ∷ t ∷ [])
positive_two s t h k = All-cons Positive s (t ∷ []) h (positive_one t k)

pub positive_three : (s t u : Weighted) → Positive s → Positive t → Positive u → AllPositive (s ∷ t ∷ u ∷ [])
positive_three s t u h k l = All-cons Positive s (t ∷ u ∷ []) h (positive_two t u k l)

pub apart_four : (s t u w : Weighted) → Other s t → Other s u → Other s w → Other t u → Other t w → Other u w → AreApartTerms (s ∷ t ∷ u ∷ w ∷ [])
apart_four s t u w h k l i j m = AllPairs-cons Other s (t ∷ u ∷ w ∷ []) (All-cons (Other s) t (u ∷ w ∷ []) h (All-cons (Other s) u (w ∷ []) k (All-cons (Other s) w [] l (All-nil (Other s))))) (apart_three t u w i j m)

pub positive_four : (s t u w : Weighted) → Positive s → Positive t → Positive u → Positive w → AllPositive (s ∷ t ∷ u ∷ w ∷ [])
positive_four s t u w h k l m = All-cons Positive s (t ∷ u ∷ w ∷ []) h (positive_three t u w k l m)
