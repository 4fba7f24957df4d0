-- Ids that are gone, by the set of those that were named before.
use Rattle.std.proofs.Common.{◌≡◌, ◌<◌, ◌+◌, ◌||◌, inl, inr, ℕ, List, Bool, true, false, not, nat_lt, Some, arith, refl, ap, sym, ◌∙◌, eqb, cond, length, get_or, take, [], ◌∷◌}
use Rattle.std.specs.Prelude.{All, find, IsTrue}
use Rattle.std.specs.List.{list_any, AllPairs, IsAllAdjacentAnswer}
use Rattle.std.specs.Ordering.{nat_cmp}
use Rattle.std.specs.BTreeSet.{BTreeSet, contains}
use Rattle.std.specs.BTreeMap.{is_at}
use Rattle.std.proofs.lemmas.Bool.{cases_eq, ne_eqb, ltb-true, false≢true}
use Rattle.std.proofs.lemmas.Grind.{common_steps}
use Rattle.std.proofs.lemmas.List.{take_more}
use Rattle.std.proofs.lemmas.List.Elements.{All-head, All-tail}
use Rattle.std.proofs.lemmas.List.Kept.{AllPairs-from_increasing}
use Rattle.pb_base.proofs.Pairs.{AllPairs-head, AllPairs-tail}
use Rattle.pb_steps.specs.Database.{Entry, is_live, is_listed, without}
use Rattle.pb_steps.specs.Denials.{first_gone}
use Rattle.pb_database.proofs.Without.{listed-push}
use Rattle.pb_rules.proofs.Seen.{gone-listed, live-unlisted}

at_key : (x y : ℕ) → is_at (nat_cmp x) y ≡ eqb x y
at_key x y = elim (cases_eq x y) [
  | inl e ↦ grind (arith, common_steps)
  | inr ne ↦ grind (arith, common_steps)
]

-- the set has the ids
abbrev pub HasListed : List ℕ → BTreeSet ℕ → Type 0
HasListed ids s = (k : ℕ) → contains nat_cmp s k ≡ is_listed ids k

pub has_listed-none : (s : BTreeSet ℕ) → s.keys ≡ [] → HasListed [] s
has_listed-none s e k = ap (list_any (is_at (nat_cmp k))) e

pub has_listed-more : (ids : List ℕ) (i : ℕ) (s n : BTreeSet ℕ) → i < length ids → HasListed (take i ids) s → ((q : ℕ) → contains nat_cmp n q ≡ cond (is_at (nat_cmp (get_or ids i 0)) q) true (contains nat_cmp s q)) → HasListed (take (i + 1) ids) n
has_listed-more ids i s n below h puts q =
    puts q ∙ (by_key (is_at (nat_cmp (get_or ids i 0)) q) (eqb (get_or ids i 0) q) (contains nat_cmp s q) (is_listed (take i ids) q) (at_key (get_or ids i 0) q) (h q) ∙
    (sym (listed-push (take i ids) (get_or ids i 0) q) ∙ ap (λ (js : List ℕ). is_listed js q) (sym (take_more ids i 0 below))))
  where
    by_key : (a b c d : Bool) → a ≡ b → c ≡ d → cond a true c ≡ (d || b)
    by_key true true c true e f = refl
    by_key true true c false e f = refl
    by_key true false c d e f = absurd (cc)
    by_key false true c d e f = absurd (cc)
    by_key false false c true e f = f
    by_key false false c false e f = f

-- an id is gone where it was named before or nothing is there
pub gone-fresh : (live : List Entry) (before : List ℕ) (id : ℕ) (s : BTreeSet ℕ) (fresh : Bool) → HasListed before s → fresh ≡ not (contains nat_cmp s id) →
    (not fresh || not (is_live live id)) ≡ not (is_live (without before live) id)
gone-fresh live before id s fresh h e = by_listed (is_listed before id) refl
  where
    by_listed : (b : Bool) → is_listed before id ≡ b → (not fresh || not (is_live live id)) ≡ not (is_live (without before live) id)
    by_listed true f = ap (λ (c : Bool). not c || not (is_live live id)) (e ∙ ap not (h id ∙ f)) ∙ sym (gone-listed before live id f)
    by_listed false f = ap (λ (c : Bool). not c || not (is_live live id)) (e ∙ ap not (h id ∙ f)) ∙ ap not (sym (live-unlisted before live id f))

-- ---- ids that ascend

find-same : (p q : ℕ → Bool) (xs : List ℕ) → All (λ x. p x ≡ q x) xs → find p xs ≡ find q xs
find-same p q [] h = refl
find-same p q (x ∷ xs) h = by_tests (p x) (q x) (All-head (λ y. p y ≡ q y) x xs h) (find-same p q xs (All-tail (λ y. p y ≡ q y) x xs h))
  where
    by_tests : (a b : Bool) → a ≡ b → find p xs ≡ find q xs → cond a (Some x) (find p xs) ≡ cond b (Some x) (find q xs)
    by_tests true true e f = refl
    by_tests false false e f = f
    by_tests true false e f = absurd (cc)
    by_tests false true e f = absurd (cc)

-- each is named once, so one is gone where nothing is there
pub ascending-gone : (live : List Entry) (ids : List ℕ) → AllPairs (λ i j. i < j) ids → first_gone live ids ≡ find (λ id. not (is_live live id)) ids
ascending-gone live [] up = refl
ascending-gone live (id ∷ ids) up =
    by_live (is_live live id) (ascending-gone (without (id ∷ []) live) ids (AllPairs-tail (λ (i j : ℕ). i < j) id ids up))
  where
    later : All (λ k. not (is_live (without (id ∷ []) live) k) ≡ not (is_live live k)) ids
    later = λ k d below.
        let above : id < get_or ids k d = AllPairs-head (λ (i j : ℕ). i < j) id ids up k d below in
        let other : eqb id (get_or ids k d) ≡ false = ne_eqb id (get_or ids k d) (λ e. omega (arith, above, e)) in
        ap not (live-unlisted (id ∷ []) live (get_or ids k d) (ap (λ (b : Bool). b || false) other))

    by_live : (b : Bool) → first_gone (without (id ∷ []) live) ids ≡ find (λ k. not (is_live (without (id ∷ []) live) k)) ids →
        cond b (first_gone (without (id ∷ []) live) ids) (Some id) ≡ cond (not b) (Some id) (find (λ k. not (is_live live k)) ids)
    by_live true so = so ∙ find-same (λ k. not (is_live (without (id ∷ []) live) k)) (λ k. not (is_live live k)) ids later
    by_live false so = refl

pub ascending_from_answer : (ids : List ℕ) (r : Bool) → IsAllAdjacentAnswer (λ i j b. b ≡ nat_lt i j) ids r → IsTrue r → AllPairs (λ i j. i < j) ids
ascending_from_answer ids true h is = AllPairs-from_increasing ids (λ k within. ltb-true (get_or ids k 0) (get_or ids (k + 1) 0) (sym (h k 0 within)))
ascending_from_answer ids false h is = absurd (false≢true is)
