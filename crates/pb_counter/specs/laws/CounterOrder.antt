-- The places of a counter's clauses, one number after another.
use Rattle.std.proofs.Common.{◌≡◌, ◌<◌, ◌≤◌, ◌+◌, ◌-◌, ◌*◌, ◌/◌, ◌%◌, ◌++◌, ℕ, suc, cond, List, [], ◌∷◌, length, refl, sym, ap, subst, ◌∙◌, arith}
use Rattle.std.specs.Prelude.{map, All, ◌==◌, nat_lt}
use Rattle.std.specs.List.{range_with_len}
use Rattle.std.proofs.lemmas.Bool.{cond-true, cond-false, eq-eqb, ne_eqb, lt-ltb, le-ltb}
use Rattle.std.proofs.lemmas.Simd.{map-map}
use Rattle.std.proofs.lemmas.Nat.{div-mul-add, mod-mul-add}
use Rattle.std.proofs.lemmas.List.FromFn.{length-map-range_with_len}
use Rattle.pb_family.proofs.Ranges.{at_range, map_split, range_same, flat_as_map}
use Rattle.pb_counter.specs.declared.place.Place.{Place}
use Rattle.pb_counter.specs.declared.place.Place.TheVariants.{Start, Below, One, Keep, More, Stop}
use Rattle.pb_counter.specs.Counter.{row_places, places, counter_size}
use Rattle.pb_counter.specs.inner.Order.{IsPlace, turn_at, place_at}
use Rattle.pb_counter.specs.laws.CounterPlaces.{each_place}

-- ---- each number

if_not : {A : Type 0} (a b : ℕ) (x y : A) → (a ≡ b → ⊥) → cond (a == b) x y ≡ y
if_not a b x y h = cond-false (a == b) x y (ne_eqb a b h)

below_at : (n width j : ℕ) → 1 ≤ j → j < width → place_at n width j ≡ Below j
below_at n width j low high = if_not j 0 Start _ (λ e. omega (arith, e)) ∙ cond-true (nat_lt j width) (Below j) _ (lt-ltb j width high)

row_at : (n width i k : ℕ) → 1 ≤ width → k < 2 * width + 1 → place_at n width (width + i * (2 * width + 1) + k) ≡ turn_at n width i k
row_at n width i k some within =
    let number : ℕ = width + i * (2 * width + 1) + k in
    let turn : number - width ≡ i * (2 * width + 1) + k = omega arith in
    if_not number 0 Start _ (λ e. omega (arith, e, some))
    ∙ cond-false (nat_lt number width) (Below number) _ (le-ltb number width (omega arith))
    ∙ ap (λ (m : ℕ). turn_at n width (m / (2 * width + 1)) (m % (2 * width + 1))) turn
    ∙ (λ x. turn_at n width (div-mul-add i (2 * width + 1) k within x) (mod-mul-add i (2 * width + 1) k within x))

module _ (n width i : ℕ) (within : i + 2 < n) where
  no_end : i ≡ n - 2 → ⊥
  no_end e = omega (arith, e, within)

  one_at : 1 ≤ width → turn_at n width i 0 ≡ One i
  one_at some = if_not i (n - 2) (Stop i) _ no_end ∙ if_not 0 (2 * width) (Stop i) _ (λ e. omega (arith, e, some))

  keep_at : (j : ℕ) → j < width → turn_at n width i (1 + j * 2) ≡ Keep i j
  keep_at j low =
      let turn : ℕ = 1 + j * 2 in
      let same : turn ≡ j * 2 + 1 = omega arith in
      let half : turn / 2 ≡ j = ap (λ (m : ℕ). m / 2) same ∙ div-mul-add j 2 1 (omega arith) in
      let odd : turn % 2 ≡ 1 = ap (λ (m : ℕ). m % 2) same ∙ mod-mul-add j 2 1 (omega arith) in
      if_not i (n - 2) (Stop i) _ no_end
      ∙ if_not turn (2 * width) (Stop i) _ (λ e. omega (arith, e, odd))
      ∙ if_not turn 0 (One i) _ (λ e. omega (arith, e))
      ∙ if_not (turn % 2) 0 (More i (turn / 2 - 1)) (Keep i (turn / 2)) (λ e. omega (arith, e, odd))
      ∙ ap (Keep i) half

  more_at : (j : ℕ) → j + 1 < width → turn_at n width i (2 + j * 2) ≡ More i j
  more_at j low =
      let turn : ℕ = 2 + j * 2 in
      let same : turn ≡ (j + 1) * 2 + 0 = omega arith in
      let half : turn / 2 ≡ j + 1 = ap (λ (m : ℕ). m / 2) same ∙ div-mul-add (j + 1) 2 0 (omega arith) in
      let even : turn % 2 ≡ 0 = ap (λ (m : ℕ). m % 2) same ∙ mod-mul-add (j + 1) 2 0 (omega arith) in
      if_not i (n - 2) (Stop i) _ no_end
      ∙ if_not turn (2 * width) (Stop i) _ (λ e. omega (arith, e, low))
      ∙ if_not turn 0 (One i) _ (λ e. omega (arith, e))
      ∙ cond-true (turn % 2 == 0) (More i (turn / 2 - 1)) (Keep i (turn / 2)) (eq-eqb (turn % 2) 0 even)
      ∙ ap (More i) (let e : turn / 2 - 1 ≡ j = omega (arith, half) in e)

  stop_at : turn_at n width i (2 * width) ≡ Stop i
  stop_at = if_not i (n - 2) (Stop i) _ no_end ∙ cond-true (2 * width == 2 * width) (Stop i) _ (eq-eqb (2 * width) (2 * width) refl)

  -- the places of a row
  row_turns : 1 ≤ width → row_places width i ≡ map (turn_at n width i) (range_with_len 0 (2 * width + 1))
  row_turns some =
      let pair : ℕ → List Place = λ j. More i j ∷ Keep i (j + 1) ∷ [] in
      let turned : (j : ℕ) → j + 1 < width → pair j ≡ map (turn_at n width i) (range_with_len (2 + j * 2) 2) = λ j h.
      (λ x. sym (more_at j h) x ∷ sym (keep_at (j + 1) h) x ∷ []) ∙ ap (λ (k : ℕ). turn_at n width i (2 + j * 2) ∷ turn_at n width i k ∷ []) (let e : 1 + (j + 1) * 2 ≡ 2 + j * 2 + 1 = omega arith in e) in
      let pairs = flat_as_map pair (turn_at n width i) 2 0 2 (width - 1) (λ j h. ap pair (let e : 0 + j ≡ j = omega arith in e) ∙ turned j (omega (arith, h))) in
      (λ x. sym (one_at some) x ∷ sym (keep_at 0 (omega arith)) x ∷ (pairs x ++ sym stop_at x ∷ []))
      ∙ ap (λ ps. turn_at n width i 0 ∷ turn_at n width i 1 ∷ ps)
      (ap (λ (k : ℕ). map (turn_at n width i) (range_with_len 2 ((width - 1) * 2)) ++ turn_at n width i k ∷ []) (let e : 2 * width ≡ 2 + (width - 1) * 2 = omega (arith, some) in e)
      ∙ sym (map_split (turn_at n width i) 2 ((width - 1) * 2) 1))
      ∙ ap (λ (k : ℕ). map (turn_at n width i) (range_with_len 0 k)) (let e : suc (suc ((width - 1) * 2 + 1)) ≡ 2 * width + 1 = omega (arith, some) in e)

-- ---- all numbers

pub sizes : (n m k : ℕ) → n ≡ m + 2 → 1 ≤ k → k + (m * (2 * k + 1) + 1) ≡ counter_size n k
sizes n m k more some = rw more (omega arith)

pub place_order : (n width : ℕ) → 2 ≤ n → 1 ≤ width → places n width ≡ map (place_at n width) (range_with_len 0 (counter_size n width))
place_order n width two some =
    let m : ℕ = n - 2 in
    let row : ℕ = 2 * width + 1 in
    let lows = range_same Below (place_at n width) 1 1 (width - 1) (λ i h. sym (below_at n width (1 + i) (omega arith) (omega (arith, h)))) in
    let rows = flat_as_map (row_places width) (place_at n width) row 0 width m (λ i h.
    ap (row_places width) (let e : 0 + i ≡ i = omega arith in e) ∙ row_turns n width i (omega (arith, h)) some
    ∙ range_same (turn_at n width i) (place_at n width) 0 (width + i * row) row (λ k within. ap (turn_at n width i) (let e : 0 + k ≡ k = omega arith in e) ∙ sym (row_at n width i k some within))) in
    let last : Stop m ≡ place_at n width (width + m * row) =
    sym (ap (place_at n width) (let e : width + m * row ≡ width + m * row + 0 = omega arith in e) ∙ row_at n width m 0 some (omega arith) ∙ cond-true (m == n - 2) (Stop m) _ (eq-eqb m (n - 2) refl)) in
    (λ x. Start ∷ (lows x ++ (rows x ++ last x ∷ [])))
    ∙ ap (λ ps. Start ∷ (map (place_at n width) (range_with_len 1 (width - 1)) ++ ps)) (sym (map_split (place_at n width) width (m * row) 1))
    ∙ ap (λ (k : ℕ). Start ∷ (map (place_at n width) (range_with_len 1 (width - 1)) ++ map (place_at n width) (range_with_len k (m * row + 1)))) (let e : width ≡ 1 + (width - 1) = omega (arith, some) in e)
    ∙ ap (λ ps. Start ∷ ps) (sym (map_split (place_at n width) 1 (width - 1) (m * row + 1)))
    ∙ ap (λ (k : ℕ). map (place_at n width) (range_with_len 0 k)) (let e : suc (width - 1 + (m * row + 1)) ≡ counter_size n width = omega (arith, sizes n m width (omega arith) some, some) in e)

pub count_places : (n width : ℕ) → 2 ≤ n → 1 ≤ width → length (places n width) ≡ counter_size n width
count_places n width two some = ap (λ ps. length ps) (place_order n width two some) ∙ length-map-range_with_len (place_at n width) 0 (counter_size n width)

-- each number has a proper place
pub place_within : (n width k : ℕ) → 2 ≤ n → 1 ≤ width → k < counter_size n width → IsPlace n width (place_at n width k)
place_within n width k two some within =
    at_range (IsPlace n width) (place_at n width) 0 (counter_size n width) (subst (All (IsPlace n width)) (place_order n width two some) (each_place (IsPlace n width) n width some two (λ p h. h))) k (omega arith) (omega (arith, within))

-- what is done at each place is done for each number
pub order_map : {X : Type 0} (f : Place → X) (n width : ℕ) → 2 ≤ n → 1 ≤ width → map f (places n width) ≡ map (λ (k : ℕ). f (place_at n width k)) (range_with_len 0 (counter_size n width))
order_map f n width two some = ap (map f) (place_order n width two some) ∙ map-map f (place_at n width) (range_with_len 0 (counter_size n width))
