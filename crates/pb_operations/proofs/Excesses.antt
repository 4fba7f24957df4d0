-- Two lists of terms in order are gone through side by side.
use Rattle.std.proofs.Common.{◌≡◌, ◌≢◌, ◌≤◌, ◌<◌, ◌+◌, ◌-◌, ℕ, suc, Bool, true, false, cond, List, ◌∷◌, arith, ap, sym, ◌∙◌, length, get_or, map, refl, take, drop, drop-cons, length-drop, subst}
use Rattle.std.specs.Prelude.{All, sum_by}
use Rattle.std.proofs.lemmas.List.{get_or-map, get_or-drop, length-map}
use Rattle.std.proofs.lemmas.List.Elements.{All-cons, All-head, All-weaker}
use Rattle.std.proofs.lemmas.List.Sums.{sum_by_more, sum_by-take-le, sum_by-le-sum_by}
use Rattle.pb_base.specs.declared.literal.Lit.{Lit}
use Rattle.pb_base.specs.declared.literal.Term.{Term}
use Rattle.pb_base.specs.Literals.{is_same}
use Rattle.pb_base.proofs.Sums.{sum_by-map}
use Rattle.pb_base.proofs.LiteralLemmas.{is_same-other_var}
use Rattle.pb_norm.specs.Constraints.{Weighted, IsAscending, weight, weighted, weights}
use Rattle.pb_norm.specs.Addition.{coef_of}
use Rattle.pb_norm.proofs.AdditionOrder.{map-ascending}
use Rattle.pb_norm.proofs.AdditionValues.{coef_of-cons, coef_of-none}
use Rattle.pb_operations.specs.inner.Sides.{StartsFrom, SameFrom, exceeding, turned, turned_lit}

-- a term at its place in the list that the code keeps
pub record IsTermAt (ts : List Term) (i : ℕ) (t : Term) : Type 0 where
  pub below : i < length ts
  pub here : t ≡ get_or ts i t

at-below : (ts : List Term) (i : ℕ) (t : Term) → IsTermAt ts i t → i < length (weights ts)
at-below ts i t h = let same : length (weights ts) ≡ length ts = simp length-map in omega (arith, h.below, same)

at-is : (ts : List Term) (i : ℕ) (t : Term) → IsTermAt ts i t → (d : Weighted) → get_or (weights ts) i d ≡ weighted t
at-is ts i t h d = get_or-map weighted ts i t d h.below ∙ ap weighted (sym h.here)

at-drop : (ts : List Term) (i : ℕ) (t : Term) → IsTermAt ts i t → drop i (weights ts) ≡ weighted t ∷ drop (i + 1) (weights ts)
at-drop ts i t h =
    let next : suc i ≡ i + 1 = omega arith in
    drop-cons (weights ts) i (weighted t) (at-below ts i t h) ∙ (ap (λ (u : Weighted). u ∷ drop (suc i) (weights ts)) (at-is ts i t h (weighted t)) ∙ ap (λ (k : ℕ). weighted t ∷ drop k (weights ts)) next)

-- a term of an earlier variable is passed over
pub skips_earlier : (ts : List Term) (i v : ℕ) (t : Term) → IsTermAt ts i t → t.lit.var < v → SameFrom v (drop i (weights ts)) (drop (i + 1) (weights ts))
skips_earlier ts i v t h less = λ l le.
    let other : t.lit.var ≢ l.var = λ e. omega arith in
    let parts = ap (λ (us : List Weighted). coef_of us l) (at-drop ts i t h) ∙ (coef_of-cons l (weighted t) (drop (i + 1) (weights ts)) ∙
    ap (λ (b : Bool). cond b (weighted t).coef 0 + coef_of (drop (i + 1) (weights ts)) l) (is_same-other_var t.lit l other)) in
    omega (arith, parts)

-- later variables stand behind a term
later : (ts : List Term) (i : ℕ) (t : Term) → IsAscending (weights ts) → IsTermAt ts i t → All (λ u. t.lit.var < u.lit.var) (drop (i + 1) (weights ts))
later ts i t ascending h k d below =
    let moved = get_or-drop (i + 1) (weights ts) k d in
    let within : i + 1 + k < length (weights ts) = omega (arith, length-drop (i + 1) (weights ts)) in
    let first = at-is ts i t h d in
    let less = ascending i (i + 1 + k) d (omega arith) within in
    omega (arith, less, ap (λ (u : Weighted). u.lit.var) moved, ap (λ (u : Weighted). u.lit.var) first)

pub starts_at : (ts : List Term) (i v : ℕ) (t : Term) → IsAscending (weights ts) → IsTermAt ts i t → v ≤ t.lit.var → StartsFrom v (drop i (weights ts))
starts_at ts i v t ascending h le =
    subst (StartsFrom v) (sym (at-drop ts i t h))
    (All-cons {X = Weighted} (λ u. v ≤ u.lit.var) (weighted t) (drop (i + 1) (weights ts)) le
    (All-weaker {X = Weighted} (λ u. t.lit.var < u.lit.var) (λ u. v ≤ u.lit.var) (λ u less. omega arith) (drop (i + 1) (weights ts)) (later ts i t ascending h)))

-- only the first term may have the literal
coef_of-at : (ts : List Term) (i : ℕ) (l : Lit) (t : Term) → IsAscending (weights ts) → IsTermAt ts i t → l.var ≤ t.lit.var →
    coef_of (drop i (weights ts)) l ≡ cond (is_same t.lit l) (weighted t).coef 0
coef_of-at ts i l t ascending h le =
    let none = coef_of-none l (drop (i + 1) (weights ts)) (All-weaker {X = Weighted} (λ u. t.lit.var < u.lit.var) (λ u. l.var < u.lit.var) (λ u less. omega arith) (drop (i + 1) (weights ts)) (later ts i t ascending h)) in
    let first = ap (λ (us : List Weighted). coef_of us l) (at-drop ts i t h) ∙ coef_of-cons l (weighted t) (drop (i + 1) (weights ts)) in
    omega arith

starts-le : (ts : List Term) (i v : ℕ) (t : Term) → IsTermAt ts i t → StartsFrom v (drop i (weights ts)) → v ≤ t.lit.var
starts-le ts i v t h starts = All-head {X = Weighted} (λ u. v ≤ u.lit.var) (weighted t) (drop (i + 1) (weights ts)) (subst (StartsFrom v) (at-drop ts i t h) starts)

pub coef_of-here : (ts : List Term) (i : ℕ) (l : Lit) (t : Term) → IsAscending (weights ts) → IsTermAt ts i t → StartsFrom l.var (drop i (weights ts)) → is_same t.lit l ≡ true →
    (weighted t).coef ≡ coef_of (drop i (weights ts)) l
coef_of-here ts i l t ascending h starts e =
    sym (coef_of-at ts i l t ascending h (starts-le ts i l.var t h starts) ∙ ap (λ (b : Bool). cond b (weighted t).coef 0) e)

pub coef_of-other : (ts : List Term) (i : ℕ) (l : Lit) (t : Term) → IsAscending (weights ts) → IsTermAt ts i t → StartsFrom l.var (drop i (weights ts)) → is_same t.lit l ≡ false →
    0 ≡ coef_of (drop i (weights ts)) l
coef_of-other ts i l t ascending h starts e =
    sym (coef_of-at ts i l t ascending h (starts-le ts i l.var t h starts) ∙ ap (λ (b : Bool). cond b (weighted t).coef 0) e)

-- so many terms are counted, and the later ones have their coefficients from a place on
pub record IsExcessSoFar (ts others : List Weighted) (i sum place : ℕ) : Type 0 where
  pub counted : sum ≡ sum_by (exceeding others) (take i ts)
  pub same : (k : ℕ) (d : Weighted) → i ≤ k → k < length ts → coef_of others (get_or ts k d).lit ≡ coef_of (drop place others) (get_or ts k d).lit

counted_more : (us others : List Weighted) (i sum more place next : ℕ) (u : Weighted) → IsAscending us → i < length us → ((d : Weighted) → get_or us i d ≡ u) → IsExcessSoFar us others i sum place →
    SameFrom u.lit.var (drop place others) (drop next others) → more ≡ u.coef - coef_of (drop next others) u.lit → IsExcessSoFar us others (i + 1) (sum + more) next
counted_more us others i sum more place next u ascending below at counted same e =
    let own : coef_of others u.lit ≡ coef_of (drop next others) u.lit =
    subst (λ (w : Weighted). coef_of others w.lit ≡ coef_of (drop place others) w.lit) (at u) (counted.same i u (omega arith) below) ∙ same u.lit (omega arith) in
    let step = sum_by_more (exceeding others) us i u below in
    let value = ap (exceeding others) (at u) in
    record {
      counted = omega (arith, counted.counted, step, value, own, e);
      same = λ k d le lt.
          let less = ascending i k d (omega arith) lt in
          let first = ap (λ (w : Weighted). w.lit.var) (at d) in
          counted.same k d (omega arith) lt ∙ same (get_or us k d).lit (omega arith);
    }

-- one more term, of its literal or of the opposite one
pub excess_more : (turn : Bool) (ts : List Term) (others : List Weighted) (i sum more place next : ℕ) (t : Term) → IsAscending (weights ts) → IsTermAt ts i t → IsExcessSoFar (map (turned turn) (weights ts)) others i sum place →
    SameFrom t.lit.var (drop place others) (drop next others) → more ≡ (weighted t).coef - coef_of (drop next others) (turned_lit turn t.lit) → IsExcessSoFar (map (turned turn) (weights ts)) others (i + 1) (sum + more) next
excess_more turn ts others i sum more place next t ascending h counted same e =
    let within : i < length (weights ts) = at-below ts i t h in
    let below : i < length (map (turned turn) (weights ts)) = let long : length (map (turned turn) (weights ts)) ≡ length (weights ts) = simp length-map in omega (arith, within, long) in
    counted_more (map (turned turn) (weights ts)) others i sum more place next (turned turn (weighted t)) (map-ascending (turned turn) (λ u. refl) (weights ts) ascending) below
    (λ d. get_or-map (turned turn) (weights ts) i (weighted t) d within ∙ ap (turned turn) (at-is ts i t h (weighted t))) counted same e

turned-weight : (turn : Bool) (ws : List Weighted) → weight (map (turned turn) ws) ≡ weight ws
turned-weight turn ws = sum_by-map {X = Weighted} {Y = Weighted} (λ t. t.coef) (turned turn) ws

so_far-le : (ts others : List Weighted) (i sum place : ℕ) → IsExcessSoFar ts others i sum place → sum ≤ weight ts
so_far-le ts others i sum place h =
    omega (arith, h.counted, sum_by-take-le (exceeding others) ts i, sum_by-le-sum_by {X = Weighted} (exceeding others) (λ t. t.coef) ts (λ t. omega arith))

pub excess-fits : (turn : Bool) (ws others : List Weighted) (i sum place : ℕ) → IsExcessSoFar (map (turned turn) ws) others i sum place → sum ≤ weight ws
excess-fits turn ws others i sum place h = omega (arith, so_far-le (map (turned turn) ws) others i sum place h, turned-weight turn ws)

pub excess-le : (turn : Bool) (ws others : List Weighted) → sum_by (exceeding others) (map (turned turn) ws) ≤ weight ws
excess-le turn ws others =
    omega (arith, sum_by-le-sum_by {X = Weighted} (exceeding others) (λ t. t.coef) (map (turned turn) ws) (λ t. omega arith), turned-weight turn ws)
