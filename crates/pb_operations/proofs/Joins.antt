-- Joining two lists of terms in order takes the lesser first term first.
use Rattle.std.proofs.Common.{append-nil, take_all, append_assoc, length, get_or, take, drop, ◌^◌, ◌≡◌, ◌≤◌, ◌<◌, ◌+◌, ◌-◌, ◌⊎◌, inl, inr, ℕ, min, Bool, true, false, cond, List, [], ◌∷◌, ◌++◌, arith, refl, ap, sym, ◌∙◌, eqb, ltb, subst}
use Rattle.std.specs.Prelude.{All, pos, ◌≤ℤ◌}
use Rattle.std.proofs.lemmas.Bool.{ltb-true, lt-ltb, le-ltb, ne_eqb}
use Rattle.std.proofs.lemmas.List.Elements.{All-nil, All-cons, All-head, All-tail, All-append, All-weaker}
use Rattle.pb_base.specs.Literals.{negated, is_same}
use Rattle.pb_base.specs.declared.literal.Term.{Term}
use Rattle.pb_norm.specs.Constraints.{Weighted, IsAscending, AreUnsigned, weight, weights, weighted, terms_of}
use Rattle.pb_norm.specs.Addition.{coef_of, combined, with_term, joined, cancelled}
use Rattle.pb_base.proofs.Pairs.{AllPairs-head, AllPairs-tail}
use Rattle.pb_norm.proofs.KeptTerms.{weights-terms_of, terms_of-unsigned}
use Rattle.pb_norm.proofs.AdditionOrder.{Before, joined-before}
use Rattle.pb_norm.proofs.AdditionSizes.{weight-cons}
use Rattle.pb_norm.proofs.AdditionValues.{coef_of-cons, coef_of-none}

with_term-first : (t : Weighted) (us : List Weighted) → All (Before t) us → with_term t us ≡ t ∷ us
with_term-first t [] h = refl
with_term-first t (u ∷ us) h =
    let less : t.lit.var < u.lit.var = All-head (Before t) u us h in
    rw (lt-ltb t.lit.var u.lit.var less) refl

with_term-later : (t u : Weighted) (us : List Weighted) → u.lit.var < t.lit.var → with_term t (u ∷ us) ≡ u ∷ with_term t us
with_term-later t u us h =
    rw (le-ltb t.lit.var u.lit.var (omega arith), lt-ltb u.lit.var t.lit.var h) refl

with_term-same : (t u : Weighted) (us : List Weighted) → t.lit.var ≡ u.lit.var → with_term t (u ∷ us) ≡ combined t u ++ us
with_term-same t u us e =
    rw (le-ltb t.lit.var u.lit.var (omega arith), le-ltb u.lit.var t.lit.var (omega arith)) refl

-- the right list's first term comes first
pub joined-right : (ts : List Weighted) (u : Weighted) (us : List Weighted) → All (Before u) ts → joined ts (u ∷ us) ≡ u ∷ joined ts us
joined-right [] u us h = refl
joined-right (t ∷ ts) u us h =
    ap (with_term t) (joined-right ts u us (All-tail (Before u) t ts h)) ∙ with_term-later t u (joined ts us) (All-head (Before u) t ts h)

-- the left list's first term comes first
pub joined-left : (t : Weighted) (ts us : List Weighted) → All (Before t) ts → All (Before t) us → joined (t ∷ ts) us ≡ t ∷ joined ts us
joined-left t ts us h k = with_term-first t (joined ts us) (joined-before t ts us h k)

-- both first terms are of one variable
pub joined-both : (t : Weighted) (ts : List Weighted) (u : Weighted) (us : List Weighted) → t.lit.var ≡ u.lit.var → All (Before u) ts → joined (t ∷ ts) (u ∷ us) ≡ combined t u ++ joined ts us
joined-both t ts u us e h = ap (with_term t) (joined-right ts u us h) ∙ with_term-same t u (joined ts us) e

pub joined-nil : (ts : List Weighted) → IsAscending ts → joined ts [] ≡ ts
joined-nil [] h = refl
joined-nil (t ∷ ts) h =
    joined-left t ts [] (AllPairs-head Before t ts h) (All-nil (Before t)) ∙ ap (λ (us : List Weighted). t ∷ us) (joined-nil ts (AllPairs-tail Before t ts h))

-- a right term before all left ones takes nothing
pub cancelled-right : (ts : List Weighted) (u : Weighted) (us : List Weighted) → All (Before u) ts → cancelled ts (u ∷ us) ≡ cancelled ts us
cancelled-right [] u us h = refl
cancelled-right (t ∷ ts) u us h =
    let first : u.lit.var < t.lit.var = All-head (Before u) t ts h in
    let rest = All-tail (Before u) t ts h in
    let other : eqb u.lit.var t.lit.var ≡ false = ne_eqb u.lit.var t.lit.var (λ e. omega arith) in
    let nothing : cond (is_same u.lit (negated t.lit)) u.coef 0 ≡ 0 = rw other refl in
    let same : coef_of (joined ts (u ∷ us)) (negated t.lit) ≡ coef_of (joined ts us) (negated t.lit) =
    ap (λ (ws : List Weighted). coef_of ws (negated t.lit)) (joined-right ts u us rest) ∙ (coef_of-cons (negated t.lit) u (joined ts us) ∙ omega arith) in
    omega (arith, ap (min t.coef) same, cancelled-right ts u us rest)

-- a left term before all others takes nothing
pub cancelled-left : (t : Weighted) (ts us : List Weighted) → All (Before t) ts → All (Before t) us → cancelled (t ∷ ts) us ≡ cancelled ts us
cancelled-left t ts us h k = omega (arith, coef_of-none (negated t.lit) (joined ts us) (joined-before t ts us h k))

-- what two terms of one variable take from each other comes first
pub cancelled-both : (t : Weighted) (ts : List Weighted) (u : Weighted) (us : List Weighted) → t.lit.var ≡ u.lit.var → All (Before u) ts → All (Before u) us →
    cancelled (t ∷ ts) (u ∷ us) ≡ min t.coef (cond (is_same u.lit (negated t.lit)) u.coef 0) + cancelled ts us
cancelled-both t ts u us e h k =
    let none : coef_of (joined ts us) (negated t.lit) ≡ 0 =
    coef_of-none (negated t.lit) (joined ts us) (All-weaker (Before u) (λ w. t.lit.var < w.lit.var) (λ w less. omega arith) (joined ts us) (joined-before u ts us h k)) in
    let same : coef_of (joined ts (u ∷ us)) (negated t.lit) ≡ cond (is_same u.lit (negated t.lit)) u.coef 0 =
    ap (λ (ws : List Weighted). coef_of ws (negated t.lit)) (joined-right ts u us h) ∙ (coef_of-cons (negated t.lit) u (joined ts us) ∙ omega arith) in
    omega (arith, ap (min t.coef) same, cancelled-right ts u us h)

pub cancelled-nil : (ts : List Weighted) → IsAscending ts → cancelled ts [] ≡ 0
cancelled-nil [] h = refl
cancelled-nil (t ∷ ts) h =
    cancelled-left t ts [] (AllPairs-head Before t ts h) (All-nil (Before t)) ∙ cancelled-nil ts (AllPairs-tail Before t ts h)

-- ---- joining from the front

-- some of the terms are joined, and two rests are left
pub record Joins (left right done : List Weighted) (taken : ℕ) (ts us : List Weighted) : Type 0 where
  pub terms : joined left right ≡ done ++ joined ts us
  pub cancelled_so_far : cancelled left right ≡ taken + cancelled ts us
  pub ts_ascending : IsAscending ts
  pub us_ascending : IsAscending us
  pub ts_room : taken + weight ts < 2 ^ 126
  pub us_room : weight us < 2 ^ 126

before-all : (t u : Weighted) (us : List Weighted) → t.lit.var < u.lit.var → IsAscending (u ∷ us) → All (Before t) (u ∷ us)
before-all t u us h ascending = All-cons (Before t) u us h (All-weaker (Before u) (Before t) (λ w k. omega arith) us (AllPairs-head Before u us ascending))

pub joins-left : (left right done : List Weighted) (k : ℕ) (t : Weighted) (ts : List Weighted) (u : Weighted) (us : List Weighted) → t.lit.var < u.lit.var →
    Joins left right done k (t ∷ ts) (u ∷ us) → Joins left right (done ++ t ∷ []) k ts (u ∷ us)
joins-left left right done k t ts u us h j =
    let later = AllPairs-head Before t ts j.ts_ascending in
    let others = before-all t u us h j.us_ascending in
    record {
      terms = j.terms ∙ (ap (λ (ws : List Weighted). done ++ ws) (joined-left t ts (u ∷ us) later others) ∙ sym (append_assoc done (t ∷ []) (joined ts (u ∷ us))));
      cancelled_so_far = omega (arith, j.cancelled_so_far, cancelled-left t ts (u ∷ us) later others);
      ts_ascending = AllPairs-tail Before t ts j.ts_ascending;
      us_ascending = j.us_ascending;
      ts_room = omega (arith, j.ts_room, weight-cons t ts);
      us_room = j.us_room;
    }

pub joins-right : (left right done : List Weighted) (k : ℕ) (t : Weighted) (ts : List Weighted) (u : Weighted) (us : List Weighted) → u.lit.var < t.lit.var →
    Joins left right done k (t ∷ ts) (u ∷ us) → Joins left right (done ++ u ∷ []) k (t ∷ ts) us
joins-right left right done k t ts u us h j =
    let others = before-all u t ts h j.ts_ascending in
    record {
      terms = j.terms ∙ (ap (λ (ws : List Weighted). done ++ ws) (joined-right (t ∷ ts) u us others) ∙ sym (append_assoc done (u ∷ []) (joined (t ∷ ts) us)));
      cancelled_so_far = omega (arith, j.cancelled_so_far, cancelled-right (t ∷ ts) u us others);
      ts_ascending = j.ts_ascending;
      us_ascending = AllPairs-tail Before u us j.us_ascending;
      ts_room = j.ts_room;
      us_room = omega (arith, j.us_room, weight-cons u us);
    }

pub joins-both : (left right done : List Weighted) (k taken : ℕ) (t : Weighted) (ts : List Weighted) (u : Weighted) (us : List Weighted) → t.lit.var ≡ u.lit.var →
    taken ≡ min t.coef (cond (is_same u.lit (negated t.lit)) u.coef 0) →
    Joins left right done k (t ∷ ts) (u ∷ us) → Joins left right (done ++ combined t u) (k + taken) ts us
joins-both left right done k taken t ts u us e f j =
    let later = AllPairs-head Before u us j.us_ascending in
    let others : All (Before u) ts = All-weaker (Before t) (Before u) (λ w h. omega arith) ts (AllPairs-head Before t ts j.ts_ascending) in
    record {
      terms = j.terms ∙ (ap (λ (ws : List Weighted). done ++ ws) (joined-both t ts u us e others) ∙ sym (append_assoc done (combined t u) (joined ts us)));
      cancelled_so_far = omega (arith, j.cancelled_so_far, cancelled-both t ts u us e others later, f);
      ts_ascending = AllPairs-tail Before t ts j.ts_ascending;
      us_ascending = AllPairs-tail Before u us j.us_ascending;
      ts_room = omega (arith, j.ts_room, weight-cons t ts, f);
      us_room = omega (arith, j.us_room, weight-cons u us);
    }

-- ---- the same over the terms of the code

-- a list that has a first element is that element and the others
pub first_and_rest : {X : Type 0} (xs : List X) (x : X) → 1 ≤ length xs → x ≡ get_or xs 0 x → xs ≡ x ∷ take (length xs - 1) (drop 1 xs)
first_and_rest [] x h e = absurd (omega arith)
first_and_rest {X} (y ∷ ys) x h e =
    let whole : take (length (y ∷ ys) - 1) ys ≡ ys = take_all (length (y ∷ ys) - 1) ys (omega arith) in
    ap (λ (z : X). z ∷ ys) (sym e) ∙ ap (λ (zs : List X). x ∷ zs) (sym whole)

abbrev pub IsFirst : Term → List Term → Type 0
IsFirst t ts = (1 ≤ length ts) × (t ≡ get_or ts 0 t)

abbrev pub later : List Term → List Term
later ts = take (length ts - 1) (drop 1 ts)

weights-first : (t : Term) (ts : List Term) → IsFirst t ts → weights ts ≡ weighted t ∷ weights (later ts)
weights-first t ts h = ap weights (first_and_rest ts t h.0 h.1)

weights_push : (ts : List Term) (us : List Term) → weights (ts ++ us) ≡ weights ts ++ weights us
weights_push [] us = refl
weights_push (t ∷ ts) us = ap (λ (ws : List Weighted). weighted t ∷ ws) (weights_push ts us)

-- both lists show their first terms
opened : (left right done : List Weighted) (k : ℕ) (t : Term) (ts : List Term) (u : Term) (us : List Term) → IsFirst t ts → IsFirst u us →
    Joins left right done k (weights ts) (weights us) → Joins left right done k (weighted t ∷ weights (later ts)) (weighted u ∷ weights (later us))
opened left right done k t ts u us h i j =
    subst (λ (xs : List Weighted). Joins left right done k (weighted t ∷ weights (later ts)) xs) (weights-first u us i)
    (subst (λ (xs : List Weighted). Joins left right done k xs (weights us)) (weights-first t ts h) j)

pub joins_less : (left right : List Weighted) (done made : List Term) (k : ℕ) (t : Term) (ts : List Term) (u : Term) (us : List Term) → IsFirst t ts → IsFirst u us → t.lit.var < u.lit.var → made ≡ done ++ t ∷ [] →
    Joins left right (weights done) k (weights ts) (weights us) → Joins left right (weights made) k (weights (later ts)) (weights us)
joins_less left right done made k t ts u us h i less e j =
    let next = joins-left left right (weights done) k (weighted t) (weights (later ts)) (weighted u) (weights (later us)) less (opened left right (weights done) k t ts u us h i j) in
    subst (λ (ws : List Weighted). Joins left right ws k (weights (later ts)) (weights us)) (sym (ap weights e ∙ weights_push done (t ∷ [])))
    (subst (λ (xs : List Weighted). Joins left right (weights done ++ weighted t ∷ []) k (weights (later ts)) xs) (sym (weights-first u us i)) next)

pub joins_greater : (left right : List Weighted) (done made : List Term) (k : ℕ) (t : Term) (ts : List Term) (u : Term) (us : List Term) → IsFirst t ts → IsFirst u us → u.lit.var < t.lit.var → made ≡ done ++ u ∷ [] →
    Joins left right (weights done) k (weights ts) (weights us) → Joins left right (weights made) k (weights ts) (weights (later us))
joins_greater left right done made k t ts u us h i less e j =
    let next = joins-right left right (weights done) k (weighted t) (weights (later ts)) (weighted u) (weights (later us)) less (opened left right (weights done) k t ts u us h i j) in
    subst (λ (ws : List Weighted). Joins left right ws k (weights ts) (weights (later us))) (sym (ap weights e ∙ weights_push done (u ∷ [])))
    (subst (λ (xs : List Weighted). Joins left right (weights done ++ weighted u ∷ []) k xs (weights (later us))) (sym (weights-first t ts h)) next)

pub joins_equal : (left right : List Weighted) (done made : List Term) (k taken : ℕ) (t : Term) (ts : List Term) (u : Term) (us : List Term) → IsFirst t ts → IsFirst u us → t.lit.var ≡ u.lit.var →
    weights made ≡ weights done ++ combined (weighted t) (weighted u) → taken ≡ min (weighted t).coef (cond (is_same u.lit (negated t.lit)) (weighted u).coef 0) →
    Joins left right (weights done) k (weights ts) (weights us) → Joins left right (weights made) (k + taken) (weights (later ts)) (weights (later us))
joins_equal left right done made k taken t ts u us h i same e g j =
    let next = joins-both left right (weights done) k taken (weighted t) (weights (later ts)) (weighted u) (weights (later us)) same g (opened left right (weights done) k t ts u us h i j) in
    subst (λ (ws : List Weighted). Joins left right ws (k + taken) (weights (later ts)) (weights (later us))) (sym e) next

-- where one rest is empty, the other is what remains
pub joins_end : (left right done : List Weighted) (k : ℕ) (ts us : List Weighted) → (length ts ≡ 0) ⊎ (length us ≡ 0) → Joins left right done k ts us → (joined left right ≡ (done ++ ts) ++ us) × (cancelled left right ≡ k)
joins_end left right done k [] us end j =
    (j.terms ∙ ap (λ (ws : List Weighted). ws ++ us) (sym (append-nil done)), omega (arith, j.cancelled_so_far))
joins_end left right done k (t ∷ ts) [] end j = (
  j.terms ∙ (ap (λ (ws : List Weighted). done ++ ws) (joined-nil (t ∷ ts) j.ts_ascending) ∙ sym (append-nil (done ++ t ∷ ts))),
  omega (arith, j.cancelled_so_far, cancelled-nil (t ∷ ts) j.ts_ascending),
)
joins_end left right done k (t ∷ ts) (u ∷ us) end j = absurd (elim end [ inl e ↦ omega (arith, e) | inr e ↦ omega (arith, e) ])

abbrev pub IsEnd : List Term → List Term → Type 0
IsEnd ts us = (length ts ≡ 0) ⊎ (length us ≡ 0)

end_weights : (ts us : List Term) → IsEnd ts us → (length (weights ts) ≡ 0) ⊎ (length (weights us) ≡ 0)
end_weights [] us end = inl refl
end_weights (t ∷ ts) [] end = inr refl
end_weights (t ∷ ts) (u ∷ us) end = absurd (elim end [ inl e ↦ omega (arith, e) | inr e ↦ omega (arith, e) ])

pub joins_done : (left right : List Weighted) (done first all : List Term) (k : ℕ) (ts us : List Term) → IsEnd ts us → first ≡ done ++ ts → all ≡ first ++ us →
    Joins left right (weights done) k (weights ts) (weights us) → weights all ≡ joined left right
joins_done left right done first all k ts us end e f j =
    ap weights f ∙ (weights_push first us ∙ (ap (λ (ws : List Term). weights ws ++ weights us) e ∙ (ap (λ (ws : List Weighted). ws ++ weights us) (weights_push done ts) ∙ sym (joins_end left right (weights done) k (weights ts) (weights us) (end_weights ts us end) j).0)))

pub joins_cancelled : (left right done : List Weighted) (k : ℕ) (ts us : List Term) → IsEnd ts us → Joins left right done k (weights ts) (weights us) → k ≡ cancelled left right
joins_cancelled left right done k ts us end j = sym (joins_end left right done k (weights ts) (weights us) (end_weights ts us end) j).1

-- ---- and no coefficient has a sign

abbrev IsUnsigned : Term → Type 0
IsUnsigned t = pos 0 ≤ℤ t.coef

pub record IsJoining (left right : List Weighted) (done : List Term) (taken : ℕ) (ts us : List Term) : Type 0 where
  pub joins : Joins left right (weights done) taken (weights ts) (weights us)
  pub done_unsigned : AreUnsigned done
  pub ts_unsigned : AreUnsigned ts
  pub us_unsigned : AreUnsigned us

unsigned-first : (t : Term) (ts : List Term) → IsFirst t ts → AreUnsigned ts → AreUnsigned (t ∷ later ts)
unsigned-first t ts h k = subst AreUnsigned (first_and_rest ts t h.0 h.1) k

unsigned-one : (t : Term) (ts : List Term) → AreUnsigned (t ∷ ts) → AreUnsigned (t ∷ [])
unsigned-one t ts h = All-cons IsUnsigned t [] (All-head IsUnsigned t ts h) (All-nil IsUnsigned)

unsigned-added : (done more made : List Term) → made ≡ done ++ more → AreUnsigned done → AreUnsigned more → AreUnsigned made
unsigned-added done more made e h k = subst AreUnsigned (sym e) (All-append IsUnsigned done more h k)

pub joining_less : (left right : List Weighted) (done made : List Term) (k : ℕ) (t : Term) (ts : List Term) (u : Term) (us : List Term) → IsFirst t ts → IsFirst u us → t.lit.var < u.lit.var → made ≡ done ++ t ∷ [] →
    IsJoining left right done k ts us → IsJoining left right made k (later ts) us
joining_less left right done made k t ts u us h i less e j =
    let parts = unsigned-first t ts h j.ts_unsigned in
    record {
      joins = joins_less left right done made k t ts u us h i less e j.joins;
      done_unsigned = unsigned-added done (t ∷ []) made e j.done_unsigned (unsigned-one t (later ts) parts);
      ts_unsigned = All-tail IsUnsigned t (later ts) parts;
      us_unsigned = j.us_unsigned;
    }

pub joining_greater : (left right : List Weighted) (done made : List Term) (k : ℕ) (t : Term) (ts : List Term) (u : Term) (us : List Term) → IsFirst t ts → IsFirst u us → u.lit.var < t.lit.var → made ≡ done ++ u ∷ [] →
    IsJoining left right done k ts us → IsJoining left right made k ts (later us)
joining_greater left right done made k t ts u us h i less e j =
    let parts = unsigned-first u us i j.us_unsigned in
    record {
      joins = joins_greater left right done made k t ts u us h i less e j.joins;
      done_unsigned = unsigned-added done (u ∷ []) made e j.done_unsigned (unsigned-one u (later us) parts);
      ts_unsigned = j.ts_unsigned;
      us_unsigned = All-tail IsUnsigned u (later us) parts;
    }

pub joining_equal : (left right : List Weighted) (done made : List Term) (k taken : ℕ) (t : Term) (ts : List Term) (u : Term) (us : List Term) → IsFirst t ts → IsFirst u us → t.lit.var ≡ u.lit.var →
    made ≡ done ++ terms_of (combined (weighted t) (weighted u)) → taken ≡ min (weighted t).coef (cond (is_same u.lit (negated t.lit)) (weighted u).coef 0) →
    IsJoining left right done k ts us → IsJoining left right made (k + taken) (later ts) (later us)
joining_equal left right done made k taken t ts u us h i same e g j =
    let rest = combined (weighted t) (weighted u) in
    let as_weights : weights made ≡ weights done ++ rest = ap weights e ∙ (weights_push done (terms_of rest) ∙ ap (λ (ws : List Weighted). weights done ++ ws) (weights-terms_of rest)) in
    record {
      joins = joins_equal left right done made k taken t ts u us h i same as_weights g j.joins;
      done_unsigned = unsigned-added done (terms_of rest) made e j.done_unsigned (terms_of-unsigned rest);
      ts_unsigned = All-tail IsUnsigned t (later ts) (unsigned-first t ts h j.ts_unsigned);
      us_unsigned = All-tail IsUnsigned u (later us) (unsigned-first u us i j.us_unsigned);
    }

pub joining_done : (left right : List Weighted) (done first all : List Term) (k : ℕ) (ts us : List Term) → first ≡ done ++ ts → all ≡ first ++ us → IsJoining left right done k ts us → AreUnsigned all
joining_done left right done first all k ts us e f j = unsigned-added first us all f (unsigned-added done ts first e j.done_unsigned j.ts_unsigned) j.us_unsigned

-- nothing is joined yet
pub joining_begun : (left right done : List Term) → done ≡ [] → IsAscending (weights left) → IsAscending (weights right) → weight (weights left) < 2 ^ 126 → weight (weights right) < 2 ^ 126 → AreUnsigned left → AreUnsigned right →
    IsJoining (weights left) (weights right) done 0 left right
joining_begun left right done none left_ascending right_ascending left_room right_room left_unsigned right_unsigned =
    subst (λ (ds : List Term). IsJoining (weights left) (weights right) ds 0 left right) (sym none) (record {
      joins = record { terms = refl; cancelled_so_far = omega arith; ts_ascending = left_ascending; us_ascending = right_ascending; ts_room = omega arith; us_room = right_room };
      done_unsigned = All-nil IsUnsigned;
      ts_unsigned = left_unsigned;
      us_unsigned = right_unsigned;
    })

-- the first terms have room
left_room : (left right : List Weighted) (done : List Term) (k : ℕ) (t : Term) (ts us : List Term) → IsFirst t ts → IsJoining left right done k ts us → k + (weighted t).coef < 2 ^ 126
left_room left right done k t ts us first j = omega (arith, j.joins.ts_room, ap weight (weights-first t ts first), weight-cons (weighted t) (weights (later ts)))

pub left_small : (left right : List Weighted) (done : List Term) (k : ℕ) (t : Term) (ts us : List Term) → IsFirst t ts → IsJoining left right done k ts us → (weighted t).coef < 2 ^ 126
left_small left right done k t ts us first j = omega (arith, left_room left right done k t ts us first j)

-- what is taken of it has room, too
pub taken_fits : (left right : List Weighted) (done : List Term) (k taken other : ℕ) (t : Term) (ts us : List Term) → taken ≡ min (weighted t).coef other → IsFirst t ts → IsJoining left right done k ts us → k + taken < 2 ^ 128
taken_fits left right done k taken other t ts us is first j = omega (arith, is, left_room left right done k t ts us first j)

pub right_small : (left right : List Weighted) (done : List Term) (k : ℕ) (ts : List Term) (u : Term) (us : List Term) → IsFirst u us → IsJoining left right done k ts us → (weighted u).coef < 2 ^ 126
right_small left right done k ts u us first j = omega (arith, j.joins.us_room, ap weight (weights-first u us first), weight-cons (weighted u) (weights (later us)))

-- ---- coefficients stay above 0

abbrev Positive : Weighted → Type 0
Positive t = 0 < t.coef

combined-positive : (t u : Weighted) → 0 < t.coef → 0 < u.coef → All Positive (combined t u)
combined-positive t u h k = by_tests (is_same t.lit u.lit) (ltb t.coef u.coef) (ltb u.coef t.coef) refl refl where
  one : (w : Weighted) → 0 < w.coef → All Positive (w ∷ [])
  one w some = All-cons Positive w [] some (All-nil Positive)

  by_tests : (same less more : Bool) → less ≡ ltb t.coef u.coef → more ≡ ltb u.coef t.coef →
      All Positive (cond {A = List Weighted} same (record { coef = t.coef + u.coef; lit = u.lit } ∷ [])
      (cond {A = List Weighted} less (record { coef = u.coef - t.coef; lit = u.lit } ∷ []) (cond {A = List Weighted} more (record { coef = t.coef - u.coef; lit = t.lit } ∷ []) [])))
  by_tests true less more e f = one (record { coef = t.coef + u.coef; lit = u.lit }) (omega arith)
  by_tests false true more e f = let h = ltb-true t.coef u.coef (sym e) in one (record { coef = u.coef - t.coef; lit = u.lit }) (omega arith)
  by_tests false false true e f = let h = ltb-true u.coef t.coef (sym f) in one (record { coef = t.coef - u.coef; lit = t.lit }) (omega arith)
  by_tests false false false e f = All-nil Positive

with_term-positive : (t : Weighted) (us : List Weighted) → 0 < t.coef → All Positive us → All Positive (with_term t us)
with_term-positive t [] h k = All-cons Positive t [] h k
with_term-positive t (u ∷ us) h k = placed (ltb t.lit.var u.lit.var) (ltb u.lit.var t.lit.var) (All-head Positive u us k) (All-tail Positive u us k) (with_term-positive t us h (All-tail Positive u us k)) where
  placed : (before after : Bool) → 0 < u.coef → All Positive us → All Positive (with_term t us) →
      All Positive (cond {A = List Weighted} before (t ∷ u ∷ us) (cond {A = List Weighted} after (u ∷ with_term t us) (combined t u ++ us)))
  placed true after first rest ih = All-cons Positive t (u ∷ us) h k
  placed false true first rest ih = All-cons Positive u (with_term t us) first ih
  placed false false first rest ih = All-append Positive (combined t u) us (combined-positive t u h first) rest

pub joined-positive : (ts us : List Weighted) → All Positive ts → All Positive us → All Positive (joined ts us)
joined-positive [] us h k = k
joined-positive (t ∷ ts) us h k = with_term-positive t (joined ts us) (All-head Positive t ts h) (joined-positive ts us (All-tail Positive t ts h) k)
