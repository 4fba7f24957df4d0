-- The places of a ladder's clauses, one number after another.
use Rattle.std.proofs.Common.{◌≡◌, ◌+◌, ◌-◌, ◌*◌, ◌++◌, ℕ, List, length, sym, ap, ◌∙◌, arith}
use Rattle.std.specs.Prelude.{map, All, nat_lt}
use Rattle.std.specs.List.{range_with_len}
use Rattle.std.proofs.lemmas.Bool.{cond-true, cond-false, lt-ltb, le-ltb}
use Rattle.std.proofs.lemmas.List.{map-append}
use Rattle.std.proofs.lemmas.Simd.{map-map}
use Rattle.std.proofs.lemmas.List.FromFn.{length-map-range_with_len}
use Rattle.std.proofs.lemmas.List.Elements.{All-append}
use Rattle.pb_base.specs.declared.literal.Lit.{Lit}
use Rattle.pb_base.proofs.Members.{All-append_both}
use Rattle.pb_family.proofs.Ranges.{range_each, at_range, map_split, range_same}
use Rattle.pb_amo.specs.declared.rung.Place.{Place}
use Rattle.pb_amo.specs.declared.rung.Place.TheVariants.{Link, NoneAfter, SomeAfter}
use Rattle.pb_amo.specs.Ladder.{link, ladder_clauses}
use Rattle.pb_amo.specs.LadderSteps.{clause_at, places}
use Rattle.pb_amo.specs.inner.LadderOrder.{IsPlace, place_at}

abbrev somes : ℕ → List Place
somes n = map SomeAfter (range_with_len 0 (n - 1))

abbrev nones : ℕ → List Place
nones n = map NoneAfter (range_with_len 0 (n - 1))

abbrev links : ℕ → List Place
links n = map Link (range_with_len 0 (n - 2))

-- what holds of all proper places holds of those of a ladder
pub each_place : (P : Place → Type 0) (n : ℕ) → ((p : Place) → IsPlace n p → P p) → All P (places n)
each_place P n each =
    All-append P (links n) (nones n ++ somes n) (range_each P Link 0 (n - 2) (λ k low high. each (Link k) (omega arith)))
    (All-append P (nones n) (somes n) (range_each P NoneAfter 0 (n - 1) (λ k low high. each (NoneAfter k) (omega arith))) (range_each P SomeAfter 0 (n - 1) (λ k low high. each (SomeAfter k) (omega arith))))

-- and the other way round
pub at_place : (P : Place → Type 0) (n : ℕ) → All P (places n) → (p : Place) → IsPlace n p → P p
at_place P n all (Link k) h = at_range P Link 0 (n - 2) (All-append_both P (links n) (nones n ++ somes n) all).0 k (omega arith) (omega (arith, h))
at_place P n all (NoneAfter k) h = at_range P NoneAfter 0 (n - 1) (All-append_both P (nones n) (somes n) (All-append_both P (links n) (nones n ++ somes n) all).1).0 k (omega arith) (omega (arith, h))
at_place P n all (SomeAfter k) h = at_range P SomeAfter 0 (n - 1) (All-append_both P (nones n) (somes n) (All-append_both P (links n) (nones n ++ somes n) all).1).1 k (omega arith) (omega (arith, h))

-- a ladder's clauses are those at its places
pub ladder_by_places : (ms : List Lit) (first : ℕ) → map (clause_at ms first) (places (length ms)) ≡ ladder_clauses ms first
ladder_by_places ms first =
    let n : ℕ = length ms in
    let each = clause_at ms first in
    map-append each (links n) (nones n ++ somes n)
    ∙ (λ x. map-map each Link (range_with_len 0 (n - 2)) x ++ map-append each (nones n) (somes n) x)
    ∙ (λ x. map (link first) (range_with_len 0 (n - 2)) ++ (map-map each NoneAfter (range_with_len 0 (n - 1)) x ++ map-map each SomeAfter (range_with_len 0 (n - 1)) x))

-- ---- each number

pub place_order : (n : ℕ) → places n ≡ map (place_at n) (range_with_len 0 (3 * n - 4))
place_order n =
    let a : ℕ = n - 2 in
    let b : ℕ = n - 1 in
    let one = range_same Link (place_at n) 0 0 a (λ i h. sym (cond-true (nat_lt (0 + i) a) (Link (0 + i)) _ (lt-ltb (0 + i) a (omega (arith, h))))) in
    let two = range_same NoneAfter (place_at n) 0 (0 + a) b (λ i h. sym (
    cond-false (nat_lt (0 + a + i) a) (Link (0 + a + i)) _ (le-ltb (0 + a + i) a (omega arith))
    ∙ cond-true (nat_lt (0 + a + i) (2 * n - 3)) (NoneAfter (0 + a + i - a)) _ (lt-ltb (0 + a + i) (2 * n - 3) (omega (arith, h)))
    ∙ ap NoneAfter (let e : 0 + a + i - a ≡ 0 + i = omega arith in e))) in
    let three = range_same SomeAfter (place_at n) 0 (0 + a + b) b (λ i h. sym (
    cond-false (nat_lt (0 + a + b + i) a) (Link (0 + a + b + i)) _ (le-ltb (0 + a + b + i) a (omega arith))
    ∙ cond-false (nat_lt (0 + a + b + i) (2 * n - 3)) (NoneAfter (0 + a + b + i - a)) _ (le-ltb (0 + a + b + i) (2 * n - 3) (omega arith))
    ∙ ap SomeAfter (let e : 0 + a + b + i - (2 * n - 3) ≡ 0 + i = omega (arith, h) in e))) in
    (λ x. one x ++ (two x ++ three x))
    ∙ ap (λ ps. map (place_at n) (range_with_len 0 a) ++ ps) (sym (map_split (place_at n) (0 + a) b b))
    ∙ sym (map_split (place_at n) 0 a (b + b))
    ∙ ap (λ (k : ℕ). map (place_at n) (range_with_len 0 k)) (let e : a + (b + b) ≡ 3 * n - 4 = omega arith in e)

pub count_places : (n : ℕ) → length (places n) ≡ 3 * n - 4
count_places n = ap (λ ps. length ps) (place_order n) ∙ length-map-range_with_len (place_at n) 0 (3 * n - 4)

-- what is done at each place is done for each number
pub order_map : {X : Type 0} (f : Place → X) (n : ℕ) → map f (places n) ≡ map (λ (k : ℕ). f (place_at n k)) (range_with_len 0 (3 * n - 4))
order_map f n = ap (map f) (place_order n) ∙ map-map f (place_at n) (range_with_len 0 (3 * n - 4))
