-- Clauses by their ids, as the code keeps them.
use Rattle.std.proofs.Common.{◌≡◌, ◌≢◌, ◌≤◌, ◌<◌, ◌+◌, ◌-◌, ℕ, zero, suc, Bool, true, false, not, List, [], ◌∷◌, ◌++◌, Option, Some, None, Err, arith, length, get_or, set, eqb, refl, ap, sym, ◌∙◌, subst, take, drop, inl, inr, ◌&&◌, ◌||◌, length-drop, length-append, append-nil}
use Rattle.std.specs.Prelude.{filter, slice_range}
use Rattle.std.specs.List.{list_any}
use Rattle.std.proofs.lemmas.Bool.{eq-eqb, ne_eqb, cases_Bool, cases_lt}
use Rattle.std.specs.Ordering.{nat_cmp}
use Rattle.std.specs.List.Sorted.{IsBinarySearchResult}
use Rattle.std.proofs.lemmas.List.Sorted.{searched}
use Rattle.std.proofs.lemmas.List.{take-append-le, drop-append-le, take_more, length-take-le}
use Rattle.std.proofs.lemmas.List.Elements.{filter_agree}
use Rattle.std.proofs.lemmas.List.Folds.{list_any_more}
use Rattle.std.proofs.Math.Seq.{drop-append_seam, take-length}
use Rattle.pb_base.specs.declared.literal.Lit.{Lit}
use Rattle.pb_lrat.specs.declared.store.Span.{Span}
use Rattle.pb_lrat.specs.Hints.{Kept, clause_at}
use Rattle.pb_lrat.specs.inner.Stores.{Library, clause_in, kept_by, kept_in, IsSpan, IsStore}

-- an id that is none of them
pub kept_none : (lits : List Lit) (ids : List ℕ) (spans : List (Option Span)) (id : ℕ) → ((k : ℕ) → k < length ids → get_or ids k 0 ≢ id) → clause_at (kept_in lits ids spans) id ≡ None
kept_none lits [] spans id other = refl
kept_none lits (j ∷ ids) [] id other = refl
kept_none lits (j ∷ ids) (None ∷ spans) id other = kept_none lits ids spans id (λ k below. other (suc k) (omega arith))
kept_none lits (j ∷ ids) (Some s ∷ spans) id other =
    let first : eqb j id ≡ false = ne_eqb j id (other 0 (omega arith)) in
    rw first (kept_none lits ids spans id (λ k below. other (suc k) (omega arith)))

-- the id at a place
pub kept_at : (lits : List Lit) (ids : List ℕ) (spans : List (Option Span)) (id i : ℕ) → length spans ≡ length ids → ((j k : ℕ) → j < k → k < length ids → get_or ids j 0 < get_or ids k 0) → i < length ids → get_or ids i 0 ≡ id → clause_at (kept_in lits ids spans) id ≡ clause_in lits (get_or spans i None)
kept_at lits [] spans id i even ascending below is = absurd (omega arith)
kept_at lits (j ∷ ids) [] id i even ascending below is = absurd (omega arith)
kept_at lits (j ∷ ids) (None ∷ spans) id zero even ascending below is =
    kept_none lits ids spans id (λ k within e. let less = ascending 0 (suc k) (omega arith) (omega arith) in omega (arith, less, e, is))
kept_at lits (j ∷ ids) (Some s ∷ spans) id zero even ascending below is =
    let first : eqb j id ≡ true = eq-eqb j id is in
    rw first refl
kept_at lits (j ∷ ids) (None ∷ spans) id (suc i) even ascending below is =
    kept_at lits ids spans id i (omega arith) (λ m n less within. ascending (suc m) (suc n) (omega arith) (omega arith)) (omega arith) is
kept_at lits (j ∷ ids) (Some s ∷ spans) id (suc i) even ascending below is =
    let less : j < get_or ids i 0 = ascending 0 (suc i) (omega arith) (omega arith) in
    let first : eqb j id ≡ false = ne_eqb j id (λ e. omega (arith, less, e, is)) in
    rw first (kept_at lits ids spans id i (omega arith) (λ m n less within. ascending (suc m) (suc n) (omega arith) (omega arith)) (omega arith) is)

-- ---- a clause is deleted

abbrev pub is_other : ℕ → Kept → Bool
is_other id k = not (eqb k.id id)

pub kept_others : (lits : List Lit) (ids : List ℕ) (spans : List (Option Span)) (id : ℕ) → ((k : ℕ) → k < length ids → get_or ids k 0 ≢ id) → filter (is_other id) (kept_in lits ids spans) ≡ kept_in lits ids spans
kept_others lits [] spans id other = refl
kept_others lits (j ∷ ids) [] id other = refl
kept_others lits (j ∷ ids) (None ∷ spans) id other = kept_others lits ids spans id (λ k below. other (suc k) (omega arith))
kept_others lits (j ∷ ids) (Some s ∷ spans) id other =
    let first : eqb j id ≡ false = ne_eqb j id (other 0 (omega arith)) in
    rw first (ap (λ (ks : List Kept). record { id = j; clause = slice_range lits s.start s.end } ∷ ks) (kept_others lits ids spans id (λ k below. other (suc k) (omega arith))))

pub kept_less : (lits : List Lit) (ids : List ℕ) (spans : List (Option Span)) (id i : ℕ) → length spans ≡ length ids → ((j k : ℕ) → j < k → k < length ids → get_or ids j 0 < get_or ids k 0) → i < length ids → get_or ids i 0 ≡ id → kept_in lits ids (set spans i None) ≡ filter (is_other id) (kept_in lits ids spans)
kept_less lits [] spans id i even ascending below is = absurd (omega arith)
kept_less lits (j ∷ ids) [] id i even ascending below is = absurd (omega arith)
kept_less lits (j ∷ ids) (None ∷ spans) id zero even ascending below is =
    sym (kept_others lits ids spans id (λ k within e. let less = ascending 0 (suc k) (omega arith) (omega arith) in omega (arith, less, e, is)))
kept_less lits (j ∷ ids) (Some s ∷ spans) id zero even ascending below is =
    let first : eqb j id ≡ true = eq-eqb j id is in
    rw first (sym (kept_others lits ids spans id (λ k within e. let less = ascending 0 (suc k) (omega arith) (omega arith) in omega (arith, less, e, is))))
kept_less lits (j ∷ ids) (None ∷ spans) id (suc i) even ascending below is =
    kept_less lits ids spans id i (omega arith) (λ m n less within. ascending (suc m) (suc n) (omega arith) (omega arith)) (omega arith) is
kept_less lits (j ∷ ids) (Some s ∷ spans) id (suc i) even ascending below is =
    let less : j < get_or ids i 0 = ascending 0 (suc i) (omega arith) (omega arith) in
    let first : eqb j id ≡ false = ne_eqb j id (λ e. omega (arith, less, e, is)) in
    rw first (ap (λ (ks : List Kept). record { id = j; clause = slice_range lits s.start s.end } ∷ ks) (kept_less lits ids spans id i (omega arith) (λ m n less within. ascending (suc m) (suc n) (omega arith) (omega arith)) (omega arith) is))

-- ---- a clause is added

pub range_same : (lits more : List Lit) (i j : ℕ) → i ≤ j → j ≤ length lits → slice_range (lits ++ more) i j ≡ slice_range lits i j
range_same lits more i j low high =
    ap (λ (ls : List Lit). take (j - i) ls) (drop-append-le i lits more (omega arith)) ∙
    take-append-le (j - i) (drop i lits) more (omega (arith, length-drop i lits))

pub range_more : (lits more : List Lit) (i j : ℕ) → i ≡ length lits → j ≡ length (lits ++ more) → slice_range (lits ++ more) i j ≡ more
range_more lits more i j low high =
    let count : j - i ≡ length more = omega (arith, length-append lits more) in
    ap (λ (n : ℕ). take (j - i) (drop n (lits ++ more))) low ∙
    (ap (λ (ls : List Lit). take (j - i) ls) (drop-append_seam lits more) ∙
    (ap (λ (n : ℕ). take n more) count ∙ take-length more))

pub kept_same : (lits more : List Lit) (ids : List ℕ) (spans : List (Option Span)) → ((i : ℕ) → IsSpan (length lits) (get_or spans i None)) → kept_in (lits ++ more) ids spans ≡ kept_in lits ids spans
kept_same lits more [] spans within = refl
kept_same lits more (j ∷ ids) [] within = refl
kept_same lits more (j ∷ ids) (None ∷ spans) within = kept_same lits more ids spans (λ i. within (suc i))
kept_same lits more (j ∷ ids) (Some s ∷ spans) within =
    let h : (s.start ≤ s.end) × (s.end ≤ length lits) = within 0 in
    ap (λ (ls : List Lit). record { id = j; clause = ls } ∷ kept_in (lits ++ more) ids spans) (range_same lits more s.start s.end h.0 h.1) ∙
    ap (λ (ks : List Kept). record { id = j; clause = slice_range lits s.start s.end } ∷ ks) (kept_same lits more ids spans (λ i. within (suc i)))

pub kept_append : (lits : List Lit) (ids more_ids : List ℕ) (spans more_spans : List (Option Span)) → length spans ≡ length ids → kept_in lits (ids ++ more_ids) (spans ++ more_spans) ≡ kept_in lits ids spans ++ kept_in lits more_ids more_spans
kept_append lits [] more_ids [] more_spans even = refl
kept_append lits [] more_ids (t ∷ spans) more_spans even = absurd (omega (arith, even))
kept_append lits (j ∷ ids) more_ids [] more_spans even = absurd (omega (arith, even))
kept_append lits (j ∷ ids) more_ids (None ∷ spans) more_spans even = kept_append lits ids more_ids spans more_spans (omega (arith, even))
kept_append lits (j ∷ ids) more_ids (Some t ∷ spans) more_spans even =
    ap (λ (ks : List Kept). record { id = j; clause = slice_range lits t.start t.end } ∷ ks) (kept_append lits ids more_ids spans more_spans (omega (arith, even)))

pub kept_more : (lits more : List Lit) (ids : List ℕ) (spans : List (Option Span)) (id : ℕ) (s : Span) → length spans ≡ length ids → ((i : ℕ) → IsSpan (length lits) (get_or spans i None)) → s.start ≡ length lits → s.end ≡ length (lits ++ more) →
    kept_in (lits ++ more) (ids ++ id ∷ []) (spans ++ Some s ∷ []) ≡ kept_in lits ids spans ++ record { id = id; clause = more } ∷ []
kept_more lits more ids spans id s even within low high =
    kept_append (lits ++ more) ids (id ∷ []) spans (Some s ∷ []) even ∙
    (ap (λ (ls : List Lit). kept_in (lits ++ more) ids spans ++ record { id = id; clause = ls } ∷ []) (range_more lits more s.start s.end low high) ∙
    ap (λ (ks : List Kept). ks ++ record { id = id; clause = more } ∷ []) (kept_same lits more ids spans within))

-- the clauses of one more place
pub kept_next : (lits : List Lit) (ids : List ℕ) (spans : List (Option Span)) (i : ℕ) → length spans ≡ length ids → i < length ids →
    kept_in lits (take (i + 1) ids) (take (i + 1) spans) ≡ kept_in lits (take i ids) (take i spans) ++ kept_by (get_or ids i 0) (clause_in lits (get_or spans i None)) []
kept_next lits ids spans i even below =
    let size : length (take i spans) ≡ length (take i ids) = length-take-le i spans (omega (arith, even)) ∙ sym (length-take-le i ids (omega arith)) in
    ap (λ (xs : List ℕ). kept_in lits xs (take (i + 1) spans)) (take_more ids i 0 below) ∙
    (ap (λ (ss : List (Option Span)). kept_in lits (take i ids ++ get_or ids i 0 ∷ []) ss) (take_more spans i None (omega (arith, even))) ∙
    kept_append lits (take i ids) (get_or ids i 0 ∷ []) (take i spans) (get_or spans i None ∷ []) size)

-- what stands at a place, whatever stands past the end
pub at_place : {A : Type 0} → (xs : List A) (i : ℕ) (x d : A) → i < length xs → x ≡ get_or xs i x → get_or xs i d ≡ x
at_place [] i x d below is = absurd (omega arith)
at_place (y ∷ xs) zero x d below is = sym is
at_place (y ∷ xs) (suc i) x d below is = at_place xs i x d (omega arith) is

-- so far, and one more place that has a clause
pub packed_some : (lits : List Lit) (ids : List ℕ) (spans : List (Option Span)) (i id : ℕ) (o : Option Span) (s : Span) (clause : List Lit) (old new : Library) → length spans ≡ length ids → i < length ids → old.live ≡ kept_in lits (take i ids) (take i spans) →
    o ≡ get_or spans i o → o ≡ Some s → id ≡ get_or ids i 0 → clause ≡ slice_range lits s.start s.end → new ≡ record { last = id; live = old.live ++ record { id = id; clause = clause } ∷ [] } → new.live ≡ kept_in lits (take (i + 1) ids) (take (i + 1) spans)
packed_some lits ids spans i id o s clause old new even below so_far at some is part e =
    let span : get_or spans i None ≡ Some s = at_place spans i o None (omega (arith, even)) at ∙ some in
    ap (λ (x : Library). x.live) e ∙
    (ap (λ (ks : List Kept). ks ++ record { id = id; clause = clause } ∷ []) so_far ∙
    (ap (λ (n : ℕ). kept_in lits (take i ids) (take i spans) ++ record { id = n; clause = clause } ∷ []) is ∙
    (ap (λ (ls : List Lit). kept_in lits (take i ids) (take i spans) ++ record { id = get_or ids i 0; clause = ls } ∷ []) part ∙
    (ap (λ (p : Option Span). kept_in lits (take i ids) (take i spans) ++ kept_by (get_or ids i 0) (clause_in lits p) []) (sym span) ∙ sym (kept_next lits ids spans i even below)))))

-- and one that has none
pub packed_none : (lits : List Lit) (ids : List ℕ) (spans : List (Option Span)) (i : ℕ) (o : Option Span) (old : Library) → length spans ≡ length ids → i < length ids → old.live ≡ kept_in lits (take i ids) (take i spans) → o ≡ get_or spans i o → o ≡ None → old.live ≡ kept_in lits (take (i + 1) ids) (take (i + 1) spans)
packed_none lits ids spans i o old even below so_far at none =
    let span : get_or spans i None ≡ None = at_place spans i o None (omega (arith, even)) at ∙ none in
    so_far ∙
    (sym (append-nil (kept_in lits (take i ids) (take i spans))) ∙
    (ap (λ (p : Option Span). kept_in lits (take i ids) (take i spans) ++ kept_by (get_or ids i 0) (clause_in lits p) []) (sym span) ∙ sym (kept_next lits ids spans i even below)))

-- ---- filters one after another

pub filter_both : (p q : Kept → Bool) (ks : List Kept) → filter p (filter q ks) ≡ filter (λ k. q k && p k) ks
filter_both p q [] = refl
filter_both p q (k ∷ ks) =
    elim (cases_Bool (q k)) as (λ _. filter p (filter q (k ∷ ks)) ≡ filter (λ k. q k && p k) (k ∷ ks)) [
      | inl keeps ↦ elim (cases_Bool (p k)) as (λ _. filter p (filter q (k ∷ ks)) ≡ filter (λ k. q k && p k) (k ∷ ks)) [
        | inl both ↦ rw (keeps, both) (ap (λ (js : List Kept). k ∷ js) (filter_both p q ks))
        | inr drops ↦ rw (keeps, drops) (filter_both p q ks)
      ]
      | inr drops ↦ rw drops (filter_both p q ks)
    ]

abbrev pub is_left : List ℕ → Kept → Bool
is_left ids k = not (list_any (λ id. eqb k.id id) ids)

both_left : (a b : Bool) → (not a && not b) ≡ not (a || b)
both_left true b = refl
both_left false b = refl

pub filter_next : (ids : List ℕ) (i : ℕ) (ks : List Kept) → i < length ids → filter (is_other (get_or ids i 0)) (filter (is_left (take i ids)) ks) ≡ filter (is_left (take (i + 1) ids)) ks
filter_next ids i ks below =
    filter_both (is_other (get_or ids i 0)) (is_left (take i ids)) ks ∙
    filter_agree (λ k. is_left (take i ids) k && is_other (get_or ids i 0) k) (is_left (take (i + 1) ids))
    (λ k. both_left (list_any (λ id. eqb k.id id) (take i ids)) (eqb k.id (get_or ids i 0)) ∙ ap not (sym (list_any_more (λ id. eqb k.id id) ids i 0 below))) ks

pub filter_none : (ks : List Kept) → filter (is_left []) ks ≡ ks
filter_none [] = refl
filter_none (k ∷ ks) = ap (λ (js : List Kept). k ∷ js) (filter_none ks)

-- ---- searches

pub not_found : (ids : List ℕ) (id i : ℕ) → ((j k : ℕ) → j < k → k < length ids → get_or ids j 0 < get_or ids k 0) → IsBinarySearchResult (λ y. nat_cmp y id) ids (Err i) → (k : ℕ) → k < length ids → get_or ids k 0 ≢ id
not_found ids id i ascending found k below e =
    let h = searched ids id (Err i) found rising in
    elim (cases_lt k i) [
      | inl before ↦ let less = h.1 k before in omega (arith, less, e)
      | inr behind ↦ let more = h.2 k behind below in omega (arith, more, e)
    ]
  where
    rising : (j m : ℕ) → j ≤ m → m < length ids → get_or ids j 0 ≤ get_or ids m 0
    rising j m order within =
        elim (cases_lt j m) [
          | inl less ↦ let h = ascending j m less within in omega (arith, h)
          | inr more ↦ let same : j ≡ m = omega arith in let e : get_or ids j 0 ≡ get_or ids m 0 = ap (λ (n : ℕ). get_or ids n 0) same in omega (arith, e)
        ]

-- ---- what a search tells of the clauses

pub none_kept : (lits : List Lit) (ids : List ℕ) (spans : List (Option Span)) (id : ℕ) (xs : List ℕ) → xs ≡ ids → ((k : ℕ) → k < length xs → get_or xs k 0 ≢ id) → clause_at (kept_in lits ids spans) id ≡ None
none_kept lits ids spans id xs e h = kept_none lits ids spans id (subst (λ (ys : List ℕ). (k : ℕ) → k < length ys → get_or ys k 0 ≢ id) e h)

pub some_kept : (lits : List Lit) (ids : List ℕ) (spans : List (Option Span)) (last id : ℕ) (xs : List ℕ) (i : ℕ) (o : Option Span) → xs ≡ ids → IsStore lits ids spans last → i < length xs → get_or xs i 0 ≡ id → o ≡ get_or spans i o →
    clause_at (kept_in lits ids spans) id ≡ clause_in lits o
some_kept lits ids spans last id xs i o e h below is at =
    let size : length xs ≡ length ids = ap (λ (ys : List ℕ). length ys) e in
    kept_at lits ids spans id i h.even h.ascending (omega (arith, size)) (ap (λ (ys : List ℕ). get_or ys i 0) (sym e) ∙ is) ∙
    ap (clause_in lits) (at_place spans i o None (omega (arith, size, h.even)) at)

pub span_within : (lits : List Lit) (ids : List ℕ) (spans : List (Option Span)) (last : ℕ) (xs : List ℕ) (i : ℕ) (o : Option Span) (s : Span) → xs ≡ ids → IsStore lits ids spans last → i < length xs → o ≡ get_or spans i o → o ≡ Some s →
    (s.start ≤ s.end) × (s.end ≤ length lits)
span_within lits ids spans last xs i o s e h below at some =
    let size : length xs ≡ length ids = ap (λ (ys : List ℕ). length ys) e in
    subst (IsSpan (length lits)) (at_place spans i o None (omega (arith, size, h.even)) at ∙ some) (h.within i)

pub less_kept : (lits : List Lit) (ids : List ℕ) (spans : List (Option Span)) (last id : ℕ) (xs : List ℕ) (i : ℕ) → xs ≡ ids → IsStore lits ids spans last → i < length xs → get_or xs i 0 ≡ id →
    kept_in lits ids (set spans i None) ≡ filter (is_other id) (kept_in lits ids spans)
less_kept lits ids spans last id xs i e h below is =
    let size : length xs ≡ length ids = ap (λ (ys : List ℕ). length ys) e in
    kept_less lits ids spans id i h.even h.ascending (omega (arith, size)) (ap (λ (ys : List ℕ). get_or ys i 0) (sym e) ∙ is)

pub others_kept : (lits : List Lit) (ids : List ℕ) (spans : List (Option Span)) (id : ℕ) (xs : List ℕ) → xs ≡ ids → ((k : ℕ) → k < length xs → get_or xs k 0 ≢ id) → filter (is_other id) (kept_in lits ids spans) ≡ kept_in lits ids spans
others_kept lits ids spans id xs e h = kept_others lits ids spans id (subst (λ (ys : List ℕ). (k : ℕ) → k < length ys → get_or ys k 0 ≢ id) e h)
