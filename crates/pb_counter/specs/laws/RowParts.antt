-- What the lines of a row leave that are about the sum of its places: the literal and the first places of the row before are no fewer.
use Rattle.std.proofs.Common.{◌≡◌, ◌≤◌, ◌<◌, ◌+◌, ◌*◌, ℕ, zero, suc, Bool, true, false, List, [], ◌∷◌, ◌++◌, refl, ap, sym, ◌∙◌, arith, inl, inr}
use Rattle.std.specs.Prelude.{All, map, sum_by}
use Rattle.std.proofs.Math.Nat.{mul-add, mul_comm, mul-le-mul_left}
use Rattle.std.proofs.lemmas.Bool.{cases_lt}
use Rattle.std.proofs.lemmas.List.Elements.{All-nil, All-cons, All-append}
use Rattle.std.proofs.lemmas.List.Kept.{AllPairs-cons}
use Rattle.std.proofs.lemmas.List.Sums.{sum_by-append, sum_by-cons}
use Rattle.pb_base.specs.declared.literal.Lit.{Lit}
use Rattle.pb_base.specs.Literals.{Assignment}
use Rattle.pb_norm.specs.Constraints.{Weighted, Constraint, value, term_value}
use Rattle.pb_norm.specs.Addition.{sum_of}
use Rattle.pb_norm.specs.Reduction.{quotient_up}
use Rattle.pb_norm.proofs.AdditionValues.{value-cons}
use Rattle.pb_norm.proofs.Opened.{quotient_up-enough, quotient_up-least}
use Rattle.pb_steps.specs.Operations.{multiple, shrunk, division, weakening}
use Rattle.pb_derive.specs.Forms.{AreSameTerms, IsFormOf}
use Rattle.pb_derive.specs.Reifications.{forward_of}
use Rattle.pb_derive.proofs.FormOperations.{quotient-positive, form_sum, form_multiple, form_division, form_weakening, form_as}
use Rattle.pb_derive.proofs.UnaryRows.{Other, weighing, reached, missed, places_of, front_of, bit, reached-value, count, places-true, places-false, scaled-value, front-value, weighing-value, more-times, below_all, above_all, rows_apart, rows_positive}
use Rattle.pb_counter.specs.CounterRows.{next_count}
use Rattle.pb_counter.specs.laws.RowLines.{fall_of, next_of}

abbrev Some : Weighted → Type 0
Some t = 0 < t.coef

-- the literal and the first places of a row are no fewer than those of the next
abbrev pub part_of : Lit → ℕ → ℕ → ℕ → Constraint
part_of l p q j = record { terms = weighing 1 l ∷ (places_of true 1 p (suc j) ++ places_of false 1 q (suc j)); degree = suc j }

-- ---- the literal and the places of a row up to one, beside those of the next row

part-value : (a : Assignment) (l : Lit) (p q j : ℕ) → value a (part_of l p q j).terms + count a q (suc j) ≡ term_value a (weighing 1 l) + count a p (suc j) + suc j
part-value a l p q j =
    let ps = places_of true 1 p (suc j) in
    let qs = places_of false 1 q (suc j) in
    omega (arith, value-cons a (weighing 1 l) (ps ++ qs), sum_by-append (term_value a) ps qs, places-true a 1 p (suc j), places-false a 1 q (suc j))

module _ (l : Lit) (p q j : ℕ) (low : l.var < p) (apart : p + suc j < q) where
  abbrev m : ℕ
  m = suc (suc j)

  abbrev rows : List Weighted
  rows = places_of true m p j ++ places_of false (suc j) q (suc j)

  abbrev next_rows : List Weighted
  next_rows = places_of true m p (suc j) ++ places_of false (suc j) q (suc j)

  -- with the fronts of the row
  abbrev with_low : Constraint
  with_low = record { terms = weighing (suc j) l ∷ reached 1 (p + j) ∷ rows; degree = suc j * suc j }

  -- and with what the next place asks of them
  abbrev with_falls : Constraint
  with_falls = record { terms = weighing (suc j) l ∷ missed (suc j) (q + suc j) ∷ next_rows; degree = suc j * suc j + suc j }

  -- and with the next place itself
  abbrev with_next : Constraint
  with_next = record { terms = weighing m l ∷ missed m (q + suc j) ∷ reached 1 (p + suc j) ∷ next_rows; degree = suc j * suc j + suc j + 1 }

  own_rows : (n r s i : ℕ) → i ≤ suc (suc j) → All (Other (weighing n l)) (places_of true r p i ++ places_of false s q (suc j))
  own_rows n r s i le =
      All-append (Other (weighing n l)) (places_of true r p i) (places_of false s q (suc j)) (below_all (weighing n l) true r p i low) (below_all (weighing n l) false s q (suc j) (omega (arith, low, apart)))

  new_rows : (n r s i : ℕ) → i ≤ suc (suc j) → All (Other (missed n (q + suc j))) (places_of true r p i ++ places_of false s q (suc j))
  new_rows n r s i le =
      All-append (Other (missed n (q + suc j))) (places_of true r p i) (places_of false s q (suc j)) (above_all (missed n (q + suc j)) true r p i (omega (arith, le, apart))) (above_all (missed n (q + suc j)) false s q (suc j) (omega arith))

  old_rows : (n k r s i : ℕ) → i ≤ k → k ≤ suc j → All (Other (reached n (p + k))) (places_of true r p i ++ places_of false s q (suc j))
  old_rows n k r s i le within =
      All-append (Other (reached n (p + k))) (places_of true r p i) (places_of false s q (suc j)) (above_all (reached n (p + k)) true r p i (omega (arith, le))) (below_all (reached n (p + k)) false s q (suc j) (omega (arith, within, apart)))

  low_added : (c d : Constraint) → IsFormOf (part_of l p q j) c → IsFormOf (front_of p j) d → IsFormOf with_low (sum_of (multiple (suc j) c) d)
  low_added c d hc hd =
      form_sum (multiple (suc j) (part_of l p q j)) (front_of p j) with_low (multiple (suc j) c) d j (form_multiple (suc j) (part_of l p q j) c (omega arith) hc) hd
      (AllPairs-cons Other (weighing (suc j) l) (reached 1 (p + j) ∷ rows) (All-cons (Other (weighing (suc j) l)) (reached 1 (p + j)) rows (λ e. omega (arith, low, e)) (own_rows (suc j) m (suc j) j (omega arith)))
      (AllPairs-cons Other (reached 1 (p + j)) rows (old_rows 1 j m (suc j) j (omega arith) (omega arith)) (rows_apart m (suc j) p q j (suc j) (omega (arith, apart)))))
      (All-cons Some (weighing (suc j) l) (reached 1 (p + j) ∷ rows) (omega arith) (All-cons Some (reached 1 (p + j)) rows (omega arith) (rows_positive m (suc j) p q j (suc j) (omega arith) (omega arith))))
      (λ a.
      let x : ℕ = term_value a (weighing 1 l) in
      let v : ℕ = value a (part_of l p q j).terms in
      let bit_j : ℕ = bit a (p + j) in
      let before : ℕ = count a p j in
      let after : ℕ = count a q (suc j) in
      let whole : suc j * v + suc j * after ≡ suc j * x + (suc j * bit_j + suc j * before) + suc j * suc j =
      sym (mul-add (suc j) v after) ∙ ap (λ (k : ℕ). suc j * k) (part-value a l p q j) ∙ mul-add (suc j) (x + (bit_j + before)) (suc j) ∙ ap (λ (k : ℕ). k + suc j * suc j) (mul-add (suc j) x (bit_j + before) ∙ ap (λ (k : ℕ). suc j * x + k) (mul-add (suc j) bit_j before)) in
      omega (
        arith,
        scaled-value a (suc j) (part_of l p q j).terms,
        whole,
        front-value a p j,
        value-cons a (weighing (suc j) l) (reached 1 (p + j) ∷ rows),
        weighing-value a (suc j) l,
        value-cons a (reached 1 (p + j)) rows,
        reached-value a 1 (p + j),
        sum_by-append (term_value a) (places_of true m p j) (places_of false (suc j) q (suc j)),
        places-true a m p j,
        places-false a (suc j) q (suc j),
        more-times (suc j) before,
        more-times j bit_j,
      ))
      (by_degree j)
    where
      by_degree : (k : ℕ) → suc k * suc k + (front_of p k).degree ≡ suc k * suc k + k
      by_degree zero = refl
      by_degree (suc k) = refl

  falls_added : (c d : Constraint) → IsFormOf with_low c → IsFormOf (fall_of p q j) d → IsFormOf with_falls (sum_of c (multiple (suc j) d))
  falls_added c d hc hd =
      form_sum with_low (multiple (suc j) (fall_of p q j)) with_falls c (multiple (suc j) d) 0 hc (form_multiple (suc j) (fall_of p q j) d (omega arith) hd)
      (AllPairs-cons Other (weighing (suc j) l) (missed (suc j) (q + suc j) ∷ next_rows) (All-cons (Other (weighing (suc j) l)) (missed (suc j) (q + suc j)) next_rows (λ e. omega (arith, low, apart, e)) (own_rows (suc j) m (suc j) (suc j) (omega arith)))
      (AllPairs-cons Other (missed (suc j) (q + suc j)) next_rows (new_rows (suc j) m (suc j) (suc j) (omega arith)) (rows_apart m (suc j) p q (suc j) (suc j) (omega (arith, apart)))))
      (All-cons Some (weighing (suc j) l) (missed (suc j) (q + suc j) ∷ next_rows) (omega arith) (All-cons Some (missed (suc j) (q + suc j)) next_rows (omega arith) (rows_positive m (suc j) p q (suc j) (suc j) (omega arith) (omega arith))))
      (λ a.
      let bit_j : ℕ = bit a (p + j) in
      let before : ℕ = count a p j in
      omega (
        arith,
        scaled-value a (suc j) (fall_of p q j).terms,
        ap (λ (k : ℕ). suc j * k) (let e : value a (fall_of p q j).terms ≡ term_value a (missed 1 (q + suc j)) + bit_j = omega (arith, value-cons a (missed 1 (q + suc j)) (reached 1 (p + j) ∷ []), value-cons a (reached 1 (p + j)) [], reached-value a 1 (p + j)) in e),
        mul-add (suc j) (term_value a (missed 1 (q + suc j))) bit_j,
        value-cons a (weighing (suc j) l) (reached 1 (p + j) ∷ rows),
        value-cons a (reached 1 (p + j)) rows,
        reached-value a 1 (p + j),
        sum_by-append (term_value a) (places_of true m p j) (places_of false (suc j) q (suc j)),
        value-cons a (weighing (suc j) l) (missed (suc j) (q + suc j) ∷ next_rows),
        value-cons a (missed (suc j) (q + suc j)) next_rows,
        weighing-value a (suc j) (missed 1 (q + suc j)).lit,
        sum_by-append (term_value a) (places_of true m p (suc j)) (places_of false (suc j) q (suc j)),
        places-true a m p j,
        places-true a m p (suc j),
        mul-add m bit_j before,
        more-times (suc j) bit_j,
      ))
      (omega arith)

  -- the next place's own constraint without the place before
  abbrev pub next_alone : Constraint
  next_alone = record { terms = missed 1 (q + suc j) ∷ weighing 1 l ∷ reached 1 (p + suc j) ∷ []; degree = 1 }

  pub next_alone_form : (c : Constraint) → IsFormOf (next_of l p q j) c → IsFormOf next_alone (division 2 (weakening (p + j) c))
  next_alone_form c h =
      let rest : List Weighted = missed 2 (q + suc j) ∷ weighing 1 l ∷ reached 2 (p + suc j) ∷ [] in
      let same : AreSameTerms (next_of l p q j).terms (reached 1 (p + j) ∷ rest) = λ f.
      omega (
        arith,
        sum_by-cons f (missed 2 (q + suc j)) (weighing 1 l ∷ reached 1 (p + j) ∷ reached 2 (p + suc j) ∷ []),
        sum_by-cons f (weighing 1 l) (reached 1 (p + j) ∷ reached 2 (p + suc j) ∷ []),
        sum_by-cons f (reached 1 (p + j)) (reached 2 (p + suc j) ∷ []),
        sum_by-cons f (reached 1 (p + j)) rest,
        sum_by-cons f (missed 2 (q + suc j)) (weighing 1 l ∷ reached 2 (p + suc j) ∷ []),
        sum_by-cons f (weighing 1 l) (reached 2 (p + suc j) ∷ []),
      ) in
      form_division 2 (record { terms = rest; degree = 1 }) (weakening (p + j) c) (omega arith)
      (form_weakening (reached 1 (p + j)) rest 2 c
      (All-cons (Other (reached 1 (p + j))) (missed 2 (q + suc j)) (weighing 1 l ∷ reached 2 (p + suc j) ∷ []) (λ e. omega (arith, apart, e))
      (All-cons (Other (reached 1 (p + j))) (weighing 1 l) (reached 2 (p + suc j) ∷ []) (λ e. omega (arith, low, e)) (All-cons (Other (reached 1 (p + j))) (reached 2 (p + suc j)) [] (λ e. omega (arith, e)) (All-nil (Other (reached 1 (p + j)))))))
      (form_as (next_of l p q j) (record { terms = reached 1 (p + j) ∷ rest; degree = 2 }) c same refl h))

  next_added : (c d : Constraint) → IsFormOf with_falls c → IsFormOf next_alone d → IsFormOf with_next (sum_of c d)
  next_added c d hc hd =
      let tail : List Weighted = reached 1 (p + suc j) ∷ next_rows in
      form_sum with_falls next_alone with_next c d 0 hc hd
      (AllPairs-cons Other (weighing m l) (missed m (q + suc j) ∷ tail)
      (All-cons (Other (weighing m l)) (missed m (q + suc j)) tail (λ e. omega (arith, low, apart, e)) (All-cons (Other (weighing m l)) (reached 1 (p + suc j)) next_rows (λ e. omega (arith, low, e)) (own_rows m m (suc j) (suc j) (omega arith))))
      (AllPairs-cons Other (missed m (q + suc j)) tail (All-cons (Other (missed m (q + suc j))) (reached 1 (p + suc j)) next_rows (λ e. omega (arith, apart, e)) (new_rows m m (suc j) (suc j) (omega arith)))
      (AllPairs-cons Other (reached 1 (p + suc j)) next_rows (old_rows 1 (suc j) m (suc j) (suc j) (omega arith) (omega arith)) (rows_apart m (suc j) p q (suc j) (suc j) (omega (arith, apart))))))
      (All-cons Some (weighing m l) (missed m (q + suc j) ∷ tail) (omega arith) (All-cons Some (missed m (q + suc j)) tail (omega arith) (All-cons Some (reached 1 (p + suc j)) next_rows (omega arith) (rows_positive m (suc j) p q (suc j) (suc j) (omega arith) (omega arith)))))
      (λ a.
      let x : ℕ = term_value a (weighing 1 l) in
      let y : ℕ = term_value a (missed 1 (q + suc j)) in
      omega (
        arith,
        value-cons a (weighing (suc j) l) (missed (suc j) (q + suc j) ∷ next_rows),
        value-cons a (missed (suc j) (q + suc j)) next_rows,
        value-cons a (missed 1 (q + suc j)) (weighing 1 l ∷ reached 1 (p + suc j) ∷ []),
        value-cons a (weighing 1 l) (reached 1 (p + suc j) ∷ []),
        value-cons a (reached 1 (p + suc j)) [],
        value-cons a (weighing m l) (missed m (q + suc j) ∷ tail),
        value-cons a (missed m (q + suc j)) tail,
        value-cons a (reached 1 (p + suc j)) next_rows,
        weighing-value a (suc j) l,
        weighing-value a m l,
        weighing-value a (suc j) (missed 1 (q + suc j)).lit,
        weighing-value a m (missed 1 (q + suc j)).lit,
        more-times (suc j) x,
        more-times (suc j) y,
      ))
      (omega arith)

-- ---- divided, all of them are ones

pub one-quotient : (n k : ℕ) → 0 < k → k ≤ n → quotient_up n k ≡ 1
one-quotient n k some le =
    let up = quotient_up-least n k 1 (omega (arith, some, le)) (omega (arith, le)) in
    omega (arith, up, quotient-positive n k (omega (arith, some, le)) some)

shrunk-places : (sign : Bool) (n k p j : ℕ) → 0 < k → k ≤ n → map (shrunk n) (places_of sign k p j) ≡ places_of sign 1 p j
shrunk-places sign n k p zero some le = refl
shrunk-places sign n k p (suc j) some le = λ i. record { coef = one-quotient n k some le i; lit = record { var = p + j; positive = sign } } ∷ shrunk-places sign n k p j some le i

map-both : (f : Weighted → Weighted) (ts us : List Weighted) → map f (ts ++ us) ≡ map f ts ++ map f us
map-both f [] us = refl
map-both f (t ∷ ts) us = ap (λ (ws : List Weighted). f t ∷ ws) (map-both f ts us)

degree-quotient : (j : ℕ) → quotient_up (suc (suc j)) (suc j * suc j + suc j + 1) ≡ suc (suc j)
degree-quotient j =
    let m : ℕ = suc (suc j) in
    let k : ℕ = suc j * suc j + suc j + 1 in
    let square : suc j * m ≡ suc j * suc j + suc j = ap (λ (i : ℕ). suc j * i) (let e : m ≡ 1 + suc j = omega arith in e) ∙ mul-add (suc j) 1 (suc j) ∙ (let e : suc j * 1 + suc j * suc j ≡ suc j * suc j + suc j = omega arith in e) in
    let whole : m * m ≡ m + suc j * m = more-times (suc j) m in
    let up : quotient_up m k ≤ m = quotient_up-least m k m (omega arith) (omega (arith, square, whole)) in
    let enough : k ≤ m * quotient_up m k = quotient_up-enough m k (omega arith) in
    by_quotient (quotient_up m k) up enough square
  where
    by_quotient : (n : ℕ) → n ≤ suc (suc j) → suc j * suc j + suc j + 1 ≤ suc (suc j) * n → suc j * suc (suc j) ≡ suc j * suc j + suc j → n ≡ suc (suc j)
    by_quotient n up enough square =
        elim (cases_lt n (suc (suc j))) as (λ _. n ≡ suc (suc j)) [
          | inl less ↦
              let most : suc (suc j) * n ≤ suc (suc j) * suc j = mul-le-mul_left (suc (suc j)) (omega (arith, less)) in
              let turn : suc (suc j) * suc j ≡ suc j * suc (suc j) = mul_comm (suc (suc j)) (suc j) in
              absurd (omega (arith, most, turn, enough, square))
          | inr same ↦ omega (arith, same, up)
        ]

module _ (l : Lit) (p q j : ℕ) (low : l.var < p) (apart : p + suc j < q) where
  divided_terms : map (shrunk (suc (suc j))) (with_next l p q j low apart).terms ≡ weighing 1 l ∷ missed 1 (q + suc j) ∷ reached 1 (p + suc j) ∷ (places_of true 1 p (suc j) ++ places_of false 1 q (suc j))
  divided_terms =
      let m : ℕ = suc (suc j) in
      let whole : quotient_up m m ≡ 1 = one-quotient m m (omega arith) (omega arith) in
      let one : quotient_up m 1 ≡ 1 = one-quotient m 1 (omega arith) (omega arith) in
      let both = map-both (shrunk m) (places_of true m p (suc j)) (places_of false (suc j) q (suc j))
      ∙ (λ i. shrunk-places true m m p (suc j) (omega arith) (omega arith) i ++ shrunk-places false m (suc j) q (suc j) (omega arith) (omega arith) i) in
      λ i. weighing (whole i) l ∷ missed (whole i) (q + suc j) ∷ reached (one i) (p + suc j) ∷ both i

  -- the sum of one more place
  pub part_step_form : (part front fall next : Constraint) → IsFormOf (part_of l p q j) part → IsFormOf (front_of p j) front → IsFormOf (fall_of p q j) fall → IsFormOf (next_of l p q j) next
      → IsFormOf (part_of l p q (suc j)) (division (suc (suc j)) (sum_of (sum_of (sum_of (multiple (suc j) part) front) (multiple (suc j) fall)) (division 2 (weakening (p + j) next))))
  part_step_form part front fall next hpart hfront hfall hnext =
      let m : ℕ = suc (suc j) in
      let first = sum_of (multiple (suc j) part) front in
      let second = sum_of first (multiple (suc j) fall) in
      let third = sum_of second (division 2 (weakening (p + j) next)) in
      let form = next_added l p q j low apart second (division 2 (weakening (p + j) next))
      (falls_added l p q j low apart first fall (low_added l p q j low apart part front hpart hfront) hfall) (next_alone_form l p q j low apart next hnext) in
      let ps = places_of true 1 p (suc j) in
      let qs = places_of false 1 q (suc j) in
      let same : AreSameTerms (map (shrunk m) (with_next l p q j low apart).terms) (part_of l p q (suc j)).terms = λ f.
      omega (
        arith,
        ap (λ (ts : List Weighted). sum_by f ts) divided_terms,
        sum_by-cons f (weighing 1 l) (missed 1 (q + suc j) ∷ reached 1 (p + suc j) ∷ (ps ++ qs)),
        sum_by-cons f (missed 1 (q + suc j)) (reached 1 (p + suc j) ∷ (ps ++ qs)),
        sum_by-cons f (reached 1 (p + suc j)) (ps ++ qs),
        sum_by-append f ps qs,
        sum_by-cons f (weighing 1 l) ((reached 1 (p + suc j) ∷ ps) ++ missed 1 (q + suc j) ∷ qs),
        sum_by-append f (reached 1 (p + suc j) ∷ ps) (missed 1 (q + suc j) ∷ qs),
        sum_by-cons f (reached 1 (p + suc j)) ps,
        sum_by-cons f (missed 1 (q + suc j)) qs,
      ) in
      form_as (division m (with_next l p q j low apart)) (part_of l p q (suc j)) (division m third) same (degree-quotient j) (form_division m (with_next l p q j low apart) third (omega arith) form)

-- ---- the first place

pub part_first : (l : Lit) (p q : ℕ) (c : Constraint) → IsFormOf (forward_of (next_count l p q 0)) c → IsFormOf (part_of l p q 0) c
part_first l p q c h =
    form_as (forward_of (next_count l p q 0)) (part_of l p q 0) c (λ f. omega (
      arith,
      sum_by-cons f (missed 1 (q + 0)) (weighing 1 l ∷ reached 1 (p + 0) ∷ []),
      sum_by-cons f (weighing 1 l) (reached 1 (p + 0) ∷ []),
      sum_by-cons f (reached 1 (p + 0)) [],
      sum_by-cons f (weighing 1 l) (reached 1 (p + 0) ∷ missed 1 (q + 0) ∷ []),
      sum_by-cons f (reached 1 (p + 0)) (missed 1 (q + 0) ∷ []),
      sum_by-cons f (missed 1 (q + 0)) [],
    )) refl h
