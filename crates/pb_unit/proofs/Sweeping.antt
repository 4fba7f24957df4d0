-- The index without what is left of constraints that do not stand.
use Rattle.std.proofs.Common.{◌≡◌, ◌≤◌, ◌<◌, ◌+◌, ◌^◌, inl, inr, ℕ, zero, suc, Bool, true, false, cond, List, [], ◌∷◌, ◌++◌, Option, Some, None, arith, length, get_or, take, refl, ap, sym, ◌∙◌, subst}
use Rattle.std.specs.Prelude.{All, Contains, ◌==◌, filter, is_some, map}
use Rattle.std.proofs.lemmas.Bool.{cases_lt, cases_eq, ne_eqb}
use Rattle.std.proofs.lemmas.List.{length-map, get_or_past, get_or-take}
use Rattle.std.proofs.lemmas.List.Sums.{sum_by-cons}
use Rattle.std.proofs.lemmas.List.Elements.{All-nil, All-cons}
use Rattle.pb_base.specs.declared.literal.Lit.{Lit}
use Rattle.pb_norm.specs.Constraints.{Weighted, Constraint, weight}
use Rattle.pb_norm.specs.Propagation.{room}
use Rattle.pb_unit.specs.declared.index.Occurrence.{Occurrence}
use Rattle.pb_unit.specs.declared.kept.Counters.{Counters}
use Rattle.pb_unit.specs.inner.Filling.{terms_in}
use Rattle.pb_unit.specs.States.{Stands, at_place}
use Rattle.pb_unit.specs.Steps.{IsAlert}
use Rattle.pb_unit.proofs.Standing.{contains_head, contains_tail, contains_cases}
use Rattle.pb_unit.specs.Index.{Lists, size_of, unit_at, coef_of, sum_at, list_at, terms_at, room_at, alert_at, IsCounted}

abbrev stand_at : List (Option Constraint) → Occurrence → Bool
stand_at ps o = is_some (at_place ps o.place)

pub terms_all : (ps : List (Option Constraint)) (p : ℕ) → terms_at (map terms_in ps) p ≡ terms_in (at_place ps p)
terms_all [] zero = refl
terms_all [] (suc p) = refl
terms_all (o ∷ ps) zero = refl
terms_all (o ∷ ps) (suc p) = terms_all ps p

-- an occurrence that differs from a place in standing is none of the place
apart : (ps : List (Option Constraint)) (p : ℕ) (o : Occurrence) (a b : Bool) → stand_at ps o ≡ a → is_some (at_place ps p) ≡ b → (a ≡ b → ⊥) → cond (o.place == p) o.coef 0 ≡ 0
apart ps p o a b e h ne = elim (cases_eq o.place p) [
  | inl same ↦ absurd (ne (sym e ∙ (ap (λ (i : ℕ). is_some (at_place ps i)) same ∙ h)))
  | inr other ↦ ap (λ (t : Bool). cond t o.coef 0) (ne_eqb o.place p other)
]

true-false : true ≡ false → ⊥
true-false e = let no : ⊥ = cc in no

false-true : false ≡ true → ⊥
false-true e = let no : ⊥ = cc in no

-- what is left at a place
pub sum_at-filter : (ps : List (Option Constraint)) (p : ℕ) (os : List Occurrence) → sum_at p (filter (stand_at ps) os) ≡ cond (is_some (at_place ps p)) (sum_at p os) 0
sum_at-filter ps p [] = nothing (is_some (at_place ps p))
  where
    nothing : (b : Bool) → sum_at p [] ≡ cond b (sum_at p []) 0
    nothing true = refl
    nothing false = refl
sum_at-filter ps p (o ∷ os) = by_test (stand_at ps o) (is_some (at_place ps p)) refl refl (sum_at-filter ps p os)
  where
    first : (os : List Occurrence) → sum_at p (o ∷ os) ≡ cond (o.place == p) o.coef 0 + sum_at p os
    first os = sum_by-cons (λ (x : Occurrence). cond (x.place == p) x.coef 0) o os

    by_test : (a b : Bool) → stand_at ps o ≡ a → is_some (at_place ps p) ≡ b → sum_at p (filter (stand_at ps) os) ≡ cond b (sum_at p os) 0 → sum_at p (cond a (o ∷ filter (stand_at ps) os) (filter (stand_at ps) os)) ≡ cond b (sum_at p (o ∷ os)) 0
    by_test true true e h rest = first (filter (stand_at ps) os) ∙ (ap (λ (n : ℕ). cond (o.place == p) o.coef 0 + n) rest ∙ sym (first os))
    by_test true false e h rest = omega (arith, first (filter (stand_at ps) os), rest, apart ps p o true false e h true-false)
    by_test false true e h rest = omega (arith, first os, rest, apart ps p o false true e h false-true)
    by_test false false e h rest = rest

-- a place where a constraint stands is one of the list
pub stands-below : (ps : List (Option Constraint)) (p : ℕ) → is_some (at_place ps p) ≡ true → p < length ps
stands-below ps p e = elim (cases_lt p (length ps)) [
  | inl below ↦ below
  | inr past ↦ let none : at_place ps p ≡ None = get_or_past ps p None past in let no : ⊥ = cc (ap (λ (o : Option Constraint). is_some o) none, e) in absurd no
]

-- only what stands is left
pub known-filter : (ps : List (Option Constraint)) (os : List Occurrence) → All (λ (o : Occurrence). o.place < length ps) (filter (stand_at ps) os)
known-filter ps [] = All-nil (λ (o : Occurrence). o.place < length ps)
known-filter ps (o ∷ os) = by_test (stand_at ps o) refl (known-filter ps os)
  where
    by_test : (a : Bool) → stand_at ps o ≡ a → All (λ (o : Occurrence). o.place < length ps) (filter (stand_at ps) os) → All (λ (o : Occurrence). o.place < length ps) (cond a (o ∷ filter (stand_at ps) os) (filter (stand_at ps) os))
    by_test true e rest = All-cons (λ (o : Occurrence). o.place < length ps) o (filter (stand_at ps) os) (stands-below ps o.place e) rest
    by_test false e rest = rest

pub swept : (vars : ℕ) (ps : List (Option Constraint)) (lists lists' : Lists) (kept kept' : List Counters) → IsCounted vars ps lists kept [] → size_of lists' ≡ size_of lists → ((l : Lit) → list_at lists' l ≡ filter (stand_at ps) (list_at lists l)) → length kept' ≡ length ps → ((p : ℕ) → at_place ps p ≡ None → room_at kept' p ≡ 0) → ((p : ℕ) (c : Constraint) → Stands ps p c → room_at kept' p ≡ room_at kept p) → ((p : ℕ) (c : Constraint) → Stands ps p c → alert_at kept' p ≡ alert_at kept p) → IsCounted vars ps lists' kept' []
swept vars ps lists lists' kept kept' h same_width filtered even clean others alerts = record {
  inner = map terms_in ps;
  size = even ∙ sym (length-map ps terms_in);
  longer = omega (arith, even);
  same = λ p c at. terms_all ps p ∙ ap terms_in at;
  narrow = λ p. omega (arith, ap weight (terms_all ps p), narrow_at (at_place ps p) p refl);
  width = same_width ∙ h.width;
  sums = λ l p. ap (sum_at p) (filtered l) ∙ (sum_at-filter ps p (list_at lists l) ∙ (sums_at (at_place ps p) l p refl ∙ ap (λ (ts : List Weighted). coef_of ts l) (sym (terms_all ps p))));
  known = λ l. subst (All (λ (o : Occurrence). o.place < length kept')) (sym (filtered l)) (subst (λ (n : ℕ). All (λ (o : Occurrence). o.place < n) (filter (stand_at ps) (list_at lists l))) (sym even) (known-filter ps (list_at lists l)));
  rooms = λ p. room_of (at_place ps p) p refl ∙ ap (room []) (sym (terms_all ps p));
  alerts = λ p c at. subst (λ (a : ℕ). IsAlert a c) (sym (alerts p c at)) (h.alerts p c at);
}
  where
    narrow_at : (o : Option Constraint) (p : ℕ) → at_place ps p ≡ o → weight (terms_in o) ≤ 2 ^ 126
    narrow_at None p e = omega arith
    narrow_at (Some c) p e = omega (arith, h.narrow p, ap weight (h.same p c e))

    sums_at : (o : Option Constraint) (l : Lit) (p : ℕ) → at_place ps p ≡ o → cond (is_some o) (sum_at p (list_at lists l)) 0 ≡ coef_of (terms_in o) l
    sums_at None l p e = refl
    sums_at (Some c) l p e = h.sums l p ∙ ap (λ (ts : List Weighted). coef_of ts l) (h.same p c e)

    room_of : (o : Option Constraint) (p : ℕ) → at_place ps p ≡ o → room_at kept' p ≡ room [] (terms_in o)
    room_of None p e = clean p e
    room_of (Some c) p e = others p c e ∙ (h.rooms p ∙ ap (room []) (h.same p c e))

pub get_cut : (ps : List (Option Constraint)) (kept cut : List Counters) (p : ℕ) (c : Constraint) → cut ≡ take (length ps) kept → Stands ps p c → get_or cut p (record { room = 0; alert = 0 }) ≡ get_or kept p (record { room = 0; alert = 0 })
get_cut ps kept cut p c e at = ap (λ (ks : List Counters). get_or ks p (record { room = 0; alert = 0 })) e ∙ get_or-take (length ps) kept p (record { room = 0; alert = 0 }) (stands-below ps p (ap (λ (o : Option Constraint). is_some o) at))

pub contains_filter : (f : ℕ → Bool) (xs : List ℕ) (x : ℕ) → f x ≡ true → Contains xs x → Contains (filter f xs) x
contains_filter f [] x e h = h
contains_filter f (y ∷ ys) x e h = by_test (f y) refl (contains_filter f ys x e)
  where
    by_test : (b : Bool) → f y ≡ b → (Contains ys x → Contains (filter f ys) x) → Contains (cond b (y ∷ filter f ys) (filter f ys)) x
    by_test true t more = elim (contains_cases y ys x h) [
      | inl same ↦ subst (Contains (y ∷ filter f ys)) same (contains_head y (filter f ys))
      | inr rest ↦ contains_tail y (filter f ys) x (more rest)
    ]
    by_test false t more = elim (contains_cases y ys x h) [
      | inl same ↦ absurd (true-false (sym e ∙ (ap f (sym same) ∙ t)))
      | inr rest ↦ more rest
    ]

-- what is left of both parts of a literal's list
pub filtered_list : (ps : List (Option Constraint)) (units units' : List ℕ) (others others' : List Occurrence) → units' ≡ filter (λ (p : ℕ). is_some (at_place ps p)) units → others' ≡ filter (stand_at ps) others → map unit_at units' ++ others' ≡ filter (stand_at ps) (map unit_at units ++ others)
filtered_list ps units units' others others' a b =
    ap (λ (us : List ℕ). map unit_at us ++ others') a ∙ (ap (λ (os : List Occurrence). map unit_at (filter (λ (p : ℕ). is_some (at_place ps p)) units) ++ os) b ∙ both units)
  where
    both : (us : List ℕ) → map unit_at (filter (λ (p : ℕ). is_some (at_place ps p)) us) ++ filter (stand_at ps) others ≡ filter (stand_at ps) (map unit_at us ++ others)
    both [] = refl
    both (u ∷ us) = by_test (is_some (at_place ps u)) (both us)
      where
        by_test : (t : Bool) → map unit_at (filter (λ (p : ℕ). is_some (at_place ps p)) us) ++ filter (stand_at ps) others ≡ filter (stand_at ps) (map unit_at us ++ others) → map unit_at (cond t (u ∷ filter (λ (p : ℕ). is_some (at_place ps p)) us) (filter (λ (p : ℕ). is_some (at_place ps p)) us)) ++ filter (stand_at ps) others ≡ cond t (unit_at u ∷ filter (stand_at ps) (map unit_at us ++ others)) (filter (stand_at ps) (map unit_at us ++ others))
        by_test true e = ap (λ (os : List Occurrence). unit_at u ∷ os) e
        by_test false e = e
