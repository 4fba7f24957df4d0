-- Counters rooms, and literals that are told.
use Rattle.std.proofs.Common.{◌≡◌, ◌≤◌, ◌<◌, ◌+◌, ◌-◌, ◌^◌, inl, inr, ℕ, zero, suc, Bool, true, false, not, cond, List, [], ◌∷◌, ◌++◌, Option, None, arith, length, get_or, take, drop, map, ◌&&◌, ◌||◌, refl, ap, sym, ◌∙◌, subst, length-append}
use Rattle.std.specs.Prelude.{All, sum_by, ◌==◌, IsNone}
use Rattle.std.proofs.lemmas.Bool.{cases_eq, or_right, eq-eqb, ne_eqb}
use Rattle.std.proofs.lemmas.List.{length-map, take-map, get_or-map}
use Rattle.std.proofs.lemmas.List.Elements.{All-nil, All-cons, All-head, All-tail}
use Rattle.std.proofs.lemmas.List.Sums.{sum_by-cons, sum_by-append, sum_by-take-drop, sum_by-drop_more}
use Rattle.std.proofs.Math.Seq.{drop-append-add}
use Rattle.pb_base.specs.declared.literal.Lit.{Lit}
use Rattle.pb_base.specs.Literals.{negated, is_same, is_among}
use Rattle.pb_base.proofs.LiteralLemmas.{same_lit}
use Rattle.pb_norm.specs.Constraints.{Weighted, Constraint}
use Rattle.pb_norm.specs.Propagation.{room}
use Rattle.pb_norm.proofs.Rooms.{IsPart, room-le, room-le-weight}
use Rattle.pb_unit.specs.declared.index.Occurrence.{Occurrence}
use Rattle.pb_unit.specs.declared.kept.Counters.{Counters}
use Rattle.pb_unit.specs.States.{Stands, standing}
use Rattle.pb_unit.specs.Trails.{oldest}
use Rattle.pb_unit.specs.Steps.{IsCalm, IsAlert, HasTooLittle}
use Rattle.pb_unit.specs.Index.{Lists, unit_at, coef_of, sum_at, list_at, terms_at, room_at, AreCalm, IsCounted, AreLowered, IsTold}
use Rattle.pb_unit.proofs.Visits.{then, calm_more}
use mathlib.Core.Bool.{beq}

-- ---- occurrences

pub sum_at-one : (p : ℕ) (o : Occurrence) → sum_at p (o ∷ []) ≡ cond (o.place == p) o.coef 0
sum_at-one p o =
    let f : Occurrence → ℕ = λ o. cond (o.place == p) o.coef 0 in
    let one : sum_by f (o ∷ []) ≡ f o + 0 = sum_by-cons f o [] in
    let result : sum_by f (o ∷ []) ≡ f o = omega (arith, one) in
    result

pub sum_at-here : (o : Occurrence) → sum_at o.place (o ∷ []) ≡ o.coef
sum_at-here o = sum_at-one o.place o ∙ ap (λ (b : Bool). cond b o.coef 0) (eq-eqb o.place o.place refl)

pub sum_at-elsewhere : (p : ℕ) (o : Occurrence) → (o.place ≡ p → ⊥) → sum_at p (o ∷ []) ≡ 0
sum_at-elsewhere p o ne = sum_at-one p o ∙ ap (λ (b : Bool). cond b o.coef 0) (ne_eqb o.place p ne)

pub sum_at-append : (p : ℕ) (xs ys : List Occurrence) → sum_at p (xs ++ ys) ≡ sum_at p xs + sum_at p ys
sum_at-append p xs ys = sum_by-append (λ (o : Occurrence). cond (o.place == p) o.coef 0) xs ys

pub parts_all : {X : Type 0} (P : X → Type 0) (xs ys : List X) → All P (xs ++ ys) → All P xs × All P ys
parts_all P [] ys h = (All-nil P, h)
parts_all P (x ∷ xs) ys h =
    let r = parts_all P xs ys (All-tail P x (xs ++ ys) h) in
    (All-cons P x xs (All-head P x (xs ++ ys) h) r.0, r.1)

-- ---- rooms after a write

abbrev none : Counters
none = record { room = 0; alert = 0 }

pub lowered_none : (kept : List Counters) → AreLowered [] kept kept
lowered_none kept = record { size = refl; rooms = λ p. omega arith; alerts = λ p. refl }

pub lowered_then : (a b c : List Counters) (xs ys : List Occurrence) → AreLowered xs a b → AreLowered ys b c → AreLowered (xs ++ ys) a c
lowered_then a b c xs ys f g = record {
  size = g.size ∙ f.size;
  rooms = λ p. omega (arith, f.rooms p, g.rooms p, sum_at-append p xs ys);
  alerts = λ p. g.alerts p ∙ f.alerts p;
}

-- ---- a literal told to one constraint more

pub told_none : (ps : List (Option Constraint)) (kept : List Counters) (held : List Lit) → IsTold ps [] kept kept held held None
told_none ps kept held = record {
  lowered = lowered_none kept;
  advances = λ given. record { reached = λ r. r; consistent = λ h. h; kept = λ l h. h; more = []; extends = refl };
  calm = λ _ h. h;
  short = tt;
}

pub told_then : (ps : List (Option Constraint)) (xs ys : List Occurrence) (k k' k'' : List Counters) (h h' h'' : List Lit) (s s' : Option ℕ) → IsTold ps xs k k' h h' s → IsTold ps ys k' k'' h' h'' s' → (IsNone s' → IsNone s) → IsTold ps (xs ++ ys) k k'' h h'' s'
told_then ps xs ys k k' k'' h h' h'' s s' f g still = record {
  lowered = lowered_then k k' k'' xs ys f.lowered g.lowered;
  advances = λ given. then (standing ps) given h h' h'' (f.advances given) (g.advances given);
  calm = λ n all. g.calm n (f.calm (still n) all);
  short = g.short;
}

-- the other constraints are calm as before
pub calm_others : (ps : List (Option Constraint)) (kept kept' : List Counters) (o : Occurrence) (held held' : List Lit) → AreLowered (o ∷ []) kept kept' → IsPart held held' → ((c : Constraint) → Stands ps o.place c → IsCalm (room_at kept' o.place) held' c) → AreCalm ps kept held → AreCalm ps kept' held'
calm_others ps kept kept' o held held' lowered part here all p c at = elim (cases_eq o.place p) [
  | inl e ↦ subst (λ (i : ℕ). IsCalm (room_at kept' i) held' c) e (here c (subst (λ (i : ℕ). Stands ps i c) (sym e) at))
  | inr ne ↦
      let same : room_at kept p ≡ room_at kept' p = omega (arith, lowered.rooms p, sum_at-elsewhere p o ne) in
      subst (λ (r : ℕ). IsCalm r held' c) same (calm_more (room_at kept p) c held held' part (all p c at))
]

-- too little room stays so when more holds
pub short_more : (ps : List (Option Constraint)) (held held' : List Lit) (p : ℕ) → IsPart held held' → HasTooLittle ps held p → HasTooLittle ps held' p
short_more ps held held' p part h = record {
  constraint = h.constraint;
  at = h.at;
  short = omega (arith, h.short, room-le held held' part h.constraint.terms);
}

-- what was told so far, with one more, is at most all
pub sum_at-front : (p : ℕ) (os : List Occurrence) (i : ℕ) (d : Occurrence) → i < length os → sum_at p (take i os) + sum_at p (get_or os i d ∷ []) ≤ sum_at p os
sum_at-front p os i d below =
    let f : Occurrence → ℕ = λ o. cond (o.place == p) o.coef 0 in
    let parts : sum_by f (take i os) + sum_by f (drop i os) ≡ sum_by f os = sum_by-take-drop f os i in
    let next : sum_by f (drop i os) ≡ f (get_or os i d) + sum_by f (drop (i + 1) os) = sum_by-drop_more f os i d below in
    let here : sum_by f (get_or os i d ∷ []) ≡ f (get_or os i d) = sum_at-one p (get_or os i d) in
    let result : sum_by f (take i os) + sum_by f (get_or os i d ∷ []) ≤ sum_by f os = omega (arith, parts, next, here) in
    result

-- ---- occurrences with the coefficient 1

pub units_front : (p : ℕ) (us : List ℕ) (i : ℕ) → i < length us → sum_at p (map unit_at (take i us)) + sum_at p (unit_at (get_or us i 0) ∷ []) ≤ sum_at p (map unit_at us)
units_front p us i below =
    let e : take i (map unit_at us) ≡ map unit_at (take i us) = take-map unit_at i us in
    let at : get_or (map unit_at us) i (unit_at 0) ≡ unit_at (get_or us i 0) = get_or-map unit_at us i 0 (unit_at 0) below in
    omega (arith, ap (sum_at p) e, ap (λ (o : Occurrence). sum_at p (o ∷ [])) at, sum_at-front p (map unit_at us) i (unit_at 0) (omega (arith, length-map us unit_at, below)))

pub units_known : (n : ℕ) (us : List ℕ) (i : ℕ) → i < length us → All (λ (o : Occurrence). o.place < n) (map unit_at us) → get_or us i 0 < n
units_known n us i below all =
    let at : get_or (map unit_at us) i (unit_at 0) ≡ unit_at (get_or us i 0) = get_or-map unit_at us i 0 (unit_at 0) below in
    omega (arith, all i (unit_at 0) (omega (arith, length-map us unit_at, below)), ap (λ (o : Occurrence). o.place) at)

-- ---- one more literal is counted

eqb-swap : (a b : ℕ) → (a == b) ≡ (b == a)
eqb-swap a b = elim (cases_eq a b) [
  | inl same ↦ eq-eqb a b same ∙ sym (eq-eqb b a (sym same))
  | inr other ↦ ne_eqb a b other ∙ sym (ne_eqb b a (λ e. other (sym e)))
]

same-negated : (l m : Lit) → is_same l (negated m) ≡ is_same m (negated l)
same-negated l m = ap (λ (b : Bool). b && beq l.positive (not m.positive)) (eqb-swap l.var m.var) ∙ ap (λ (b : Bool). (m.var == l.var) && b) (flipped l.positive m.positive)
  where
    flipped : (p q : Bool) → beq p (not q) ≡ beq q (not p)
    flipped true true = refl
    flipped true false = refl
    flipped false true = refl
    flipped false false = refl

sum_by_two : (f g h : Weighted → ℕ) (ts : List Weighted) → ((t : Weighted) → f t ≡ g t + h t) → sum_by f ts ≡ sum_by g ts + sum_by h ts
sum_by_two f g h [] e = omega arith
sum_by_two f g h (t ∷ ts) e = omega (arith, e t, sum_by_two f g h ts e, sum_by-cons f t ts, sum_by-cons g t ts, sum_by-cons h t ts)

-- the room loses the coefficient of the literal's negation
pub room_counted : (l : Lit) (ls : List Lit) (ts : List Weighted) → is_among ls l ≡ false → room ls ts ≡ room (l ∷ ls) ts + coef_of ts (negated l)
room_counted l ls ts absent = sum_by_two (λ (t : Weighted). cond (is_among ls (negated t.lit)) 0 t.coef) (λ (t : Weighted). cond (is_among (l ∷ ls) (negated t.lit)) 0 t.coef) (λ (t : Weighted). cond (is_same t.lit (negated l)) t.coef 0) ts each
  where
    each : (t : Weighted) → cond (is_among ls (negated t.lit)) 0 t.coef ≡ cond (is_same l (negated t.lit) || is_among ls (negated t.lit)) 0 t.coef + cond (is_same t.lit (negated l)) t.coef 0
    each t = by_cases (is_same l (negated t.lit)) refl
      where
        keep : (b : Bool) → cond b 0 t.coef ≡ cond (false || b) 0 t.coef + 0
        keep true = omega arith
        keep false = omega arith

        by_cases : (b : Bool) → is_same l (negated t.lit) ≡ b → cond (is_among ls (negated t.lit)) 0 t.coef ≡ cond (is_same l (negated t.lit) || is_among ls (negated t.lit)) 0 t.coef + cond (is_same t.lit (negated l)) t.coef 0
        by_cases true e =
            let there : is_among ls (negated t.lit) ≡ false = ap (is_among ls) (sym (same_lit l (negated t.lit) e)) ∙ absent in
            let opposite : is_same t.lit (negated l) ≡ true = sym (same-negated l t.lit) ∙ e in
            rw (there, opposite, e) (omega arith)
        by_cases false e =
            let other : is_same t.lit (negated l) ≡ false = sym (same-negated l t.lit) ∙ e in
            rw (other, e) (keep (is_among ls (negated t.lit)))

pub drop_part : (n : ℕ) (ls : List Lit) → IsPart (drop n ls) ls
drop_part zero ls l h = h
drop_part (suc n) [] l h = h
drop_part (suc n) (k ∷ ks) l h = or_right (is_same k l) (is_among ks l) (drop_part n ks l h)

-- newer literals leave the oldest as they are
pub oldest-more : (k : ℕ) (more ls : List Lit) → k ≤ length ls → oldest k (more ++ ls) ≡ oldest k ls
oldest-more k more ls within =
    ap (λ (n : ℕ). drop n (more ++ ls)) (omega (arith, length-append more ls, within)) ∙ drop-append-add more ls (length ls - k)

-- what is taken from a room is in it
pub enough_room : (vars : ℕ) (ps : List (Option Constraint)) (lists : Lists) (kept : List Counters) (l : Lit) (ls : List Lit) (h : IsCounted vars ps lists kept ls) → is_among ls l ≡ false → (p : ℕ) → room (l ∷ ls) (terms_at h.inner p) + sum_at p (list_at lists (negated l)) ≡ room_at kept p
enough_room vars ps lists kept l ls h absent p =
    omega (arith, h.sums (negated l) p, h.rooms p, room_counted l ls (terms_at h.inner p) absent)

pub counted_more : (vars : ℕ) (ps : List (Option Constraint)) (lists : Lists) (kept kept' : List Counters) (l : Lit) (ls : List Lit) → IsCounted vars ps lists kept ls → is_among ls l ≡ false → AreLowered (list_at lists (negated l)) kept kept' → IsCounted vars ps lists kept' (l ∷ ls)
counted_more vars ps lists kept kept' l ls h absent low = record {
  inner = h.inner;
  size = low.size ∙ h.size;
  longer = omega (arith, h.longer, low.size);
  same = h.same;
  narrow = h.narrow;
  width = h.width;
  sums = h.sums;
  known = λ m k d below. omega (arith, h.known m k d below, low.size);
  rooms = λ p. omega (arith, low.rooms p, enough_room vars ps lists kept l ls h absent p);
  alerts = λ p c at. subst (λ (a : ℕ). IsAlert a c) (sym (low.alerts p)) (h.alerts p c at);
}

-- one literal less is counted
pub counted_less : (vars : ℕ) (ps : List (Option Constraint)) (lists : Lists) (kept kept' : List Counters) (l : Lit) (ls : List Lit) → IsCounted vars ps lists kept' (l ∷ ls) → is_among ls l ≡ false → AreLowered (list_at lists (negated l)) kept kept' → IsCounted vars ps lists kept ls
counted_less vars ps lists kept kept' l ls h absent low = record {
  inner = h.inner;
  size = sym low.size ∙ h.size;
  longer = omega (arith, h.longer, low.size);
  same = h.same;
  narrow = h.narrow;
  width = h.width;
  sums = h.sums;
  known = λ m k d below. omega (arith, h.known m k d below, low.size);
  rooms = λ p. omega (arith, low.rooms p, h.sums (negated l) p, h.rooms p, room_counted l ls (terms_at h.inner p) absent);
  alerts = λ p c at. subst (λ (a : ℕ). IsAlert a c) (low.alerts p) (h.alerts p c at);
}

pub fits_back : (vars : ℕ) (ps : List (Option Constraint)) (lists : Lists) (kept : List Counters) (l : Lit) (ls : List Lit) → IsCounted vars ps lists kept (l ∷ ls) → is_among ls l ≡ false → (p : ℕ) → room_at kept p + sum_at p (list_at lists (negated l)) < 2 ^ 128
fits_back vars ps lists kept l ls h absent p =
    omega (arith, h.sums (negated l) p, h.rooms p, room_counted l ls (terms_at h.inner p) absent, room-le-weight ls (terms_at h.inner p), h.narrow p)

-- the kept rooms are no less than the rooms under more literals
pub bound_at : (vars : ℕ) (ps : List (Option Constraint)) (lists : Lists) (kept : List Counters) (ls held : List Lit) (h : IsCounted vars ps lists kept ls) → IsPart ls held → (p : ℕ) (c : Constraint) → Stands ps p c → room held c.terms ≤ room_at kept p
bound_at vars ps lists kept ls held h part p c at =
    let e : room ls (terms_at h.inner p) ≡ room ls c.terms = ap (room ls) (h.same p c at) in
    omega (arith, e, h.rooms p, room-le ls held part c.terms)

pub counted_as : (vars : ℕ) (ps : List (Option Constraint)) (lists : Lists) (kept : List Counters) (a b : List Lit) → a ≡ b → IsCounted vars ps lists kept a → IsCounted vars ps lists kept b
counted_as vars ps lists kept a b e h = subst (IsCounted vars ps lists kept) e h

-- the same with what was given back
pub lowered_back : (a b c : List Counters) (xs ys : List Occurrence) → AreLowered xs b c → AreLowered ys a b → AreLowered (xs ++ ys) a c
lowered_back a b c xs ys f g = record {
  size = f.size ∙ g.size;
  rooms = λ p. omega (arith, f.rooms p, g.rooms p, sum_at-append p xs ys);
  alerts = λ p. f.alerts p ∙ g.alerts p;
}

-- in the midst of telling, the rooms are still enough
pub told_bound : (ps : List (Option Constraint)) (os : List Occurrence) (kept kept' : List Counters) (held held' : List Lit) (s : Option ℕ) (i : ℕ) (d : Occurrence) → IsTold ps (take i os) kept kept' held held' s → i < length os → ((p : ℕ) (c : Constraint) → Stands ps p c → room held c.terms + sum_at p os ≤ room_at kept p) → (c : Constraint) → Stands ps (get_or os i d).place c → room held' c.terms + (get_or os i d).coef ≤ room_at kept' (get_or os i d).place
told_bound ps os kept kept' held held' s i d told below bound c at =
    let o : Occurrence = get_or os i d in
    omega (arith, bound o.place c at, told.lowered.rooms o.place, sum_at-front o.place os i d below, sum_at-here o, room-le held held' (told.advances []).kept c.terms)

pub told_enough : (ps : List (Option Constraint)) (os : List Occurrence) (kept kept' : List Counters) (held held' : List Lit) (s : Option ℕ) (i : ℕ) (d : Occurrence) → IsTold ps (take i os) kept kept' held held' s → i < length os → ((p : ℕ) → sum_at p os ≤ room_at kept p) → (get_or os i d).coef ≤ room_at kept' (get_or os i d).place
told_enough ps os kept kept' held held' s i d told below enough =
    let o : Occurrence = get_or os i d in
    omega (arith, enough o.place, told.lowered.rooms o.place, sum_at-front o.place os i d below, sum_at-here o)

-- the same of places where the coefficient is 1
pub unit_bound : (ps : List (Option Constraint)) (us : List ℕ) (kept kept' : List Counters) (held held' : List Lit) (s : Option ℕ) (i : ℕ) → IsTold ps (map unit_at (take i us)) kept kept' held held' s → i < length us → ((p : ℕ) (c : Constraint) → Stands ps p c → room held c.terms + sum_at p (map unit_at us) ≤ room_at kept p) → (c : Constraint) → Stands ps (get_or us i 0) c → room held' c.terms + 1 ≤ room_at kept' (get_or us i 0)
unit_bound ps us kept kept' held held' s i told below bound c at =
    let p : ℕ = get_or us i 0 in
    omega (arith, bound p c at, told.lowered.rooms p, units_front p us i below, sum_at-here (unit_at p), room-le held held' (told.advances []).kept c.terms)

pub unit_enough : (ps : List (Option Constraint)) (us : List ℕ) (kept kept' : List Counters) (held held' : List Lit) (s : Option ℕ) (i : ℕ) → IsTold ps (map unit_at (take i us)) kept kept' held held' s → i < length us → ((p : ℕ) → sum_at p (map unit_at us) ≤ room_at kept p) → 1 ≤ room_at kept' (get_or us i 0)
unit_enough ps us kept kept' held held' s i told below enough =
    let p : ℕ = get_or us i 0 in
    omega (arith, enough p, told.lowered.rooms p, units_front p us i below, sum_at-here (unit_at p))

pub rest_bound : (ps : List (Option Constraint)) (xs ys : List Occurrence) (kept kept' : List Counters) (held held' : List Lit) (s : Option ℕ) → IsTold ps xs kept kept' held held' s → ((p : ℕ) (c : Constraint) → Stands ps p c → room held c.terms + sum_at p (xs ++ ys) ≤ room_at kept p) → (p : ℕ) (c : Constraint) → Stands ps p c → room held' c.terms + sum_at p ys ≤ room_at kept' p
rest_bound ps xs ys kept kept' held held' s told bound p c at = omega (arith, bound p c at, sum_at-append p xs ys, told.lowered.rooms p, room-le held held' (told.advances []).kept c.terms)

pub told_room : (vars : ℕ) (ps : List (Option Constraint)) (lists : Lists) (kept : List Counters) (l : Lit) (ls held : List Lit) → IsCounted vars ps lists kept ls → is_among ls l ≡ false → IsPart (l ∷ ls) held → (p : ℕ) (c : Constraint) → Stands ps p c → room held c.terms + sum_at p (list_at lists (negated l)) ≤ room_at kept p
told_room vars ps lists kept l ls held h absent part p c at =
    let e : room (l ∷ ls) (terms_at h.inner p) ≡ room (l ∷ ls) c.terms = ap (room (l ∷ ls)) (h.same p c at) in
    omega (arith, e, enough_room vars ps lists kept l ls h absent p, room-le (l ∷ ls) held part c.terms)

pub counted_next : (vars : ℕ) (ps : List (Option Constraint)) (lists : Lists) (kept : List Counters) (l : Lit) (held : List Lit) (n k : ℕ) → k + 1 ≡ n → oldest (k + 1) held ≡ l ∷ oldest k held → IsCounted vars ps lists kept (oldest n held) → IsCounted vars ps lists kept (l ∷ oldest k held)
counted_next vars ps lists kept l held n k e older h = subst (IsCounted vars ps lists kept) (ap (λ (i : ℕ). oldest i held) (sym e) ∙ older) h
