-- The clauses that rows put out, one row after the other, are those of the counter in their order.
use Rattle.std.proofs.Common.{◌≡◌, ◌<◌, ◌≤◌, ◌+◌, ◌-◌, ◌*◌, ◌++◌, ℕ, zero, suc, List, [], ◌∷◌, length, refl, sym, ap, subst, ◌∙◌, arith, length-append}
use Rattle.std.specs.Prelude.{map}
use Rattle.std.specs.List.{range_with_len, flat_map}
use Rattle.std.proofs.lemmas.List.{map-append, get_or_append_left, get_or-append-add}
use Rattle.std.proofs.lemmas.Simd.{map-map}
use Rattle.pb_base.specs.declared.literal.Lit.{Lit}
use Rattle.pb_base.specs.Literals.{negated}
use Rattle.pb_family.specs.Fresh.{positive_of, literal_at}
use Rattle.pb_counter.specs.declared.place.Place.{Place}
use Rattle.pb_counter.specs.declared.place.Place.TheVariants.{Start, Below, One, Keep, More, Stop}
use Rattle.pb_counter.specs.Counter.{clause_at, row_places, counter_clauses}
use Rattle.pb_counter.specs.CounterRows.{more_clause, keep_clause, stop_clause}
use Rattle.pb_counter.specs.CounterHalves.{first_clause}
use Rattle.pb_counter.specs.laws.RowsRun.{place_clauses, row_clauses, rows_clauses}

-- ---- lists by their places, shifted by one

map-shifted : {X : Type 0} (f g : ℕ → X) (a n : ℕ) → ((j : ℕ) → f (j + 1) ≡ g j) → map f (range_with_len (a + 1) n) ≡ map g (range_with_len a n)
map-shifted f g a zero same = refl
map-shifted f g a (suc n) same = λ i. same a i ∷ map-shifted f g (a + 1) n same i

flat-shifted : {X : Type 0} (f g : ℕ → List X) (a n : ℕ) → ((j : ℕ) → f (j + 1) ≡ g j) → flat_map f (range_with_len (a + 1) n) ≡ flat_map g (range_with_len a n)
flat-shifted f g a zero same = refl
flat-shifted f g a (suc n) same = λ i. same a i ++ flat-shifted f g (a + 1) n same i

map-same : {X : Type 0} (f g : ℕ → X) (a n : ℕ) → ((j : ℕ) → a ≤ j → f j ≡ g j) → map f (range_with_len a n) ≡ map g (range_with_len a n)
map-same f g a zero same = refl
map-same f g a (suc n) same = λ i. same a (omega arith) i ∷ map-same f g (a + 1) n (λ j from. same j (omega (arith, from))) i

map-flat : {X Y : Type 0} (f : X → Y) (g : ℕ → List X) (js : List ℕ) → map f (flat_map g js) ≡ flat_map (λ j. map f (g j)) js
map-flat f g [] = refl
map-flat f g (j ∷ js) = map-append f (g j) (flat_map g js) ∙ ap (λ ys. map f (g j) ++ ys) (map-flat f g js)

module _ (ms : List Lit) (last first : ℕ) where
  abbrev width : ℕ
  width = suc last

  abbrev clause : Place → List Lit
  clause p = clause_at ms width first p

  -- ---- one row

  module _ (i : ℕ) where
    abbrev p : ℕ
    p = first + i * width

    abbrev l : Lit
    l = literal_at ms (i + 1)

    keep-same : (j : ℕ) → keep_clause p (p + width) j ≡ clause (Keep i j)
    keep-same j =
        let e : p + j ≡ first + (i * width + j) = omega arith in
        let f : p + width + j ≡ first + ((i + 1) * width + j) = omega arith in
        λ x. negated (positive_of (e x)) ∷ positive_of (f x) ∷ []

    one-same : more_clause l p (p + width) 0 ≡ clause (One i)
    one-same =
        let f : p + width + 0 ≡ first + ((i + 1) * width + 0) = omega arith in
        λ x. negated l ∷ positive_of (f x) ∷ []

    more-same : (j : ℕ) → more_clause l p (p + width) (suc j) ≡ clause (More i j)
    more-same j =
        let e : p + j ≡ first + (i * width + j) = omega arith in
        let f : p + width + suc j ≡ first + ((i + 1) * width + (j + 1)) = omega arith in
        λ x. negated l ∷ negated (positive_of (e x)) ∷ positive_of (f x) ∷ []

    stop-same : stop_clause l p last ≡ clause (Stop i)
    stop-same =
        let e : p + last ≡ first + (i * width + (width - 1)) = omega arith in
        λ x. negated l ∷ negated (positive_of (e x)) ∷ []

    place-same : (j : ℕ) → place_clauses l p (p + width) (j + 1) ≡ map clause (More i j ∷ Keep i (j + 1) ∷ [])
    place-same j =
        let e : j + 1 ≡ suc j = omega arith in
        ap (λ (k : ℕ). more_clause l p (p + width) k ∷ keep_clause p (p + width) (j + 1) ∷ []) e ∙ (λ x. more-same j x ∷ keep-same (j + 1) x ∷ [])

    row-same : row_clauses l p last ≡ map clause (row_places width i)
    row-same =
        let later = flat_map (λ j. More i j ∷ Keep i (j + 1) ∷ []) (range_with_len 0 last) in
        let inner = flat-shifted (place_clauses l p (p + width)) (λ j. map clause (More i j ∷ Keep i (j + 1) ∷ [])) 0 last place-same ∙ sym (map-flat clause (λ j. More i j ∷ Keep i (j + 1) ∷ []) (range_with_len 0 last)) in
        subst (λ (k : ℕ). row_clauses l p last ≡ map clause (One i ∷ Keep i 0 ∷ (flat_map (λ j. More i j ∷ Keep i (j + 1) ∷ []) (range_with_len 0 k) ++ Stop i ∷ []))) (let e : last ≡ suc last - 1 = omega arith in e)
        ((λ x. one-same x ∷ keep-same 0 x ∷ (inner x ++ stop-same x ∷ []))
        ∙ ap (λ (cs : List (List Lit)). clause (One i) ∷ clause (Keep i 0) ∷ cs) (sym (map-append clause later (Stop i ∷ []))))

  -- ---- all rows

  rows-same : (ls : List Lit) (i : ℕ) → ((j : ℕ) → j < length ls → literal_at ls j ≡ literal_at ms (i + j + 1)) → rows_clauses ls (first + i * width) last ≡ map clause (flat_map (row_places width) (range_with_len i (length ls)))
  rows-same [] i same = refl
  rows-same (l ∷ ls) i same =
      let head : l ≡ literal_at ms (i + 1) = same 0 (omega arith) ∙ ap (literal_at ms) (let e : i + 0 + 1 ≡ i + 1 = omega arith in e) in
      let q : first + i * width + width ≡ first + (i + 1) * width = omega arith in
      let rest = rows-same ls (i + 1) (λ j within. same (suc j) (omega (arith, within)) ∙ ap (literal_at ms) (let e : i + suc j + 1 ≡ i + 1 + j + 1 = omega arith in e)) in
      (λ x. row_clauses (head x) (first + i * width) last ++ rows_clauses ls (q x) last)
      ∙ (λ x. row-same i x ++ rest x)
      ∙ sym (map-append clause (row_places width i) (flat_map (row_places width) (range_with_len (i + 1) (length ls))))

  -- ---- the first row

  first-same : map (first_clause (literal_at ms 0) first) (range_with_len 0 (suc last)) ≡ map clause (Start ∷ map Below (range_with_len 1 last))
  first-same =
      let start : first_clause (literal_at ms 0) first 0 ≡ clause Start =
      (let e : first + 0 ≡ first + (0 * width + 0) = omega arith in λ x. negated (literal_at ms 0) ∷ positive_of (e x) ∷ []) in
      let below : (j : ℕ) → first_clause (literal_at ms 0) first (j + 1) ≡ clause (Below (j + 1)) = λ j.
      let e : j + 1 ≡ suc j = omega arith in
      let f : first + suc j ≡ first + (0 * width + (j + 1)) = omega arith in
      ap (first_clause (literal_at ms 0) first) e ∙ (λ x. negated (positive_of (f x)) ∷ []) in
      let others : map (first_clause (literal_at ms 0) first) (range_with_len (0 + 1) last) ≡ map (λ j. clause (Below j)) (range_with_len (0 + 1) last) =
      map-shifted (first_clause (literal_at ms 0) first) (λ j. clause (Below (j + 1))) 0 last below ∙ sym (map-shifted (λ j. clause (Below j)) (λ j. clause (Below (j + 1))) 0 last (λ j. refl)) in
      (λ x. start x ∷ others x) ∙ ap (λ (cs : List (List Lit)). clause Start ∷ cs) (sym (map-map clause Below (range_with_len 1 last)))

-- the first row, further ones, and the clause that stops the counting
pub counter-clauses-by_rows : (l k : Lit) (ls : List Lit) (last first : ℕ)
    → map (first_clause l first) (range_with_len 0 (suc last)) ++ (rows_clauses ls first last ++ stop_clause k (first + length ls * suc last) last ∷ []) ≡ counter_clauses (l ∷ (ls ++ k ∷ [])) (suc last) first
counter-clauses-by_rows l k ls last first =
    let ms : List Lit = l ∷ (ls ++ k ∷ []) in
    let clause : Place → List Lit = clause_at ms (suc last) first in
    let front : List Place = Start ∷ map Below (range_with_len 1 last) in
    let middle : List Place = flat_map (row_places (suc last)) (range_with_len 0 (length ls)) in
    let at : (j : ℕ) → j < length ls → literal_at ls j ≡ literal_at ms (0 + j + 1) = λ j within.
    sym (get_or_append_left ls (k ∷ []) (positive_of 0) j within) ∙ ap (literal_at ms) (let e : suc j ≡ 0 + j + 1 = omega arith in e) in
    let last_lit : k ≡ literal_at ms (length ls + 1) =
    sym (get_or-append-add ls (k ∷ []) 0 (positive_of 0)) ∙ ap (literal_at ms) (let e : suc (length ls + 0) ≡ length ls + 1 = omega arith in e) in
    let rows : rows_clauses ls first last ≡ map clause middle =
    ap (λ (p : ℕ). rows_clauses ls p last) (let e : first ≡ first + 0 * suc last = omega arith in e) ∙ rows-same ms last first ls 0 at in
    let stop : stop_clause k (first + length ls * suc last) last ≡ clause (Stop (length ls)) = ap (λ (x : Lit). stop_clause x (first + length ls * suc last) last) last_lit ∙ stop-same ms last first (length ls) in
    let size : length ls ≡ length ms - 2 = omega (arith, length-append ls (k ∷ [])) in
    let whole : map clause (front ++ (middle ++ Stop (length ls) ∷ [])) ≡ counter_clauses ms (suc last) first =
    (λ x. map clause ((Start ∷ map Below (range_with_len 1 ((let e : last ≡ suc last - 1 = omega arith in e) x))) ++ (flat_map (row_places (suc last)) (range_with_len 0 (size x)) ++ Stop (size x) ∷ []))) in
    (λ x. first-same ms last first x ++ (rows x ++ stop x ∷ []))
    ∙ ap (λ (cs : List (List Lit)). map clause front ++ cs) (sym (map-append clause middle (Stop (length ls) ∷ [])))
    ∙ sym (map-append clause front (middle ++ Stop (length ls) ∷ []))
    ∙ whole
