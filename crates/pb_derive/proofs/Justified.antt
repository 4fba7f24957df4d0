-- Derivations whose clauses follow from reifications in a row and from the sum's own constraint.
use Rattle.std.proofs.Common.{◌≡◌, ◌≢◌, ◌≤◌, ◌<◌, ◌+◌, ◌*◌, ◌^◌, ℕ, List, [], ◌∷◌, ◌++◌, length, get_or, map, sym, ◌∙◌, subst, arith, length-append}
use Rattle.std.specs.Prelude.{All}
use Rattle.std.proofs.lemmas.List.{get_or_append_left, get_or-append-add}
use Rattle.std.proofs.lemmas.List.Elements.{All-nil, All-cons, All-head, All-tail, All-weaker}
use Rattle.std.proofs.lemmas.List.Kept.{AllPairs-cons}
use Rattle.pb_base.proofs.Pairs.{AllPairs-nil, AllPairs-head, AllPairs-tail}
use Rattle.pb_norm.specs.Constraints.{Weighted, Constraint, AllPositive, weight}
use Rattle.pb_norm.specs.BoundedSums.{BoundedSum, IsOverDistinct, vars_of}
use Rattle.pb_steps.specs.Database.{Database}
use Rattle.pb_derive.specs.Derivations.{as_constraint, HasRoom, IsReadyFor, Derives}
use Rattle.pb_derive.specs.Forms.{AreApartTerms}
use Rattle.pb_derive.specs.Later.{Knows, IsLater, IsNumbered}
use Rattle.pb_derive.specs.Reifications.{Reification, forward_of, reverse_of}
use Rattle.pb_derive.specs.Phases.{phases}
use Rattle.pb_derive.specs.Justifications.{Justification, by_justification}
use Rattle.pb_derive.specs.inner.Follows.{AllKnown, FollowsFrom, IsJustification}
use Rattle.pb_derive.specs.inner.Meant.{AreMeant}
use Rattle.pb_derive.proofs.InRow.{AreInRow, IsFitReification, row_reifications}
use Rattle.pb_derive.proofs.Laters.{known_below, later_knows}
use Rattle.pb_derive.proofs.Meant.{reifications_ran, meant_at}
use Rattle.pb_derive.proofs.Phases.{reasoned_ran, swept_derives}
use Rattle.pb_derive.proofs.JustificationClauses.{justification_clauses}

-- ---- what is known of the reifications

-- the variable at a place means this
pub record IsReificationAt (ms : List Reification) (k : ℕ) (m : Reification) : Type 0 where
  pub within : k < length ms
  pub here : get_or ms k m ≡ m

-- the two constraints of each variable are known under neighbouring ids, from a number on
abbrev pub ReificationsKnown : (ℕ → Constraint → Type 0) → ℕ → List Reification → Type 0
ReificationsKnown Known id ms = (k : ℕ) (m : Reification) → IsReificationAt ms k m → Known (id + 2 * k) (forward_of m) × Known (id + 2 * k + 1) (reverse_of m)

-- those of a first part
pub known_front : (K : ℕ → Constraint → Type 0) (id : ℕ) (ms ns : List Reification) → ReificationsKnown K id (ms ++ ns) → ReificationsKnown K id ms
known_front K id ms ns h k m at =
    h k m (record { within = omega (arith, at.within, length-append ms ns); here = get_or_append_left ms ns m k at.within ∙ at.here })

-- and of the part behind it
pub known_back : (K : ℕ → Constraint → Type 0) (id n : ℕ) (ms ns : List Reification) → length ms ≡ n → ReificationsKnown K id (ms ++ ns) → ReificationsKnown K (id + 2 * n) ns
known_back K id n ms ns is h k m at =
    let both = h (length ms + k) m (record { within = omega (arith, at.within, length-append ms ns); here = get_or-append-add ms ns k m ∙ at.here }) in
    let e : id + 2 * (length ms + k) ≡ id + 2 * n + 2 * k = omega (arith, is) in
    (subst (λ (i : ℕ). K i (forward_of m)) e both.0, subst (λ (i : ℕ). K (i + 1) (reverse_of m)) e both.1)

-- ---- what justifications need

-- the constraints under its ids give the clause
abbrev pub IsJustified : (ℕ → Constraint → Type 0) → Justification → Type 0
IsJustified Known r = (sources : List Constraint) × AllKnown Known r.ids sources × FollowsFrom sources r

-- a justification names some id, and variables that are known
pub record IsWhole (vars : ℕ) (r : Justification) : Type 0 where
  pub some : r.ids ≢ []
  pub vars_known : All (λ v. v ≤ vars) r.weakened

-- a sum of variables below the fresh ones, and a number that it can reach
pub record IsReached (low : ℕ) (m : Reification) : Type 0 where
  pub below : All (λ t. t.lit.var < low) m.sum
  pub apart : AreApartTerms m.sum
  pub positive : AllPositive m.sum
  pub some : 1 ≤ m.least
  pub reached : m.least ≤ weight m.sum
  pub light : weight m.sum < 2 ^ 100

reached_fits : (low : ℕ) (m : Reification) → IsReached low m → IsFitReification low m
reached_fits low m h =
    let reached = h.reached in
    let light = h.light in
    record { below = h.below; apart = h.apart; positive = h.positive; some = h.some; light = omega arith }

-- a sum as reifications have it
pub record IsSum (low : ℕ) (ts : List Weighted) : Type 0 where
  pub below : All (λ t. t.lit.var < low) ts
  pub apart : AreApartTerms ts
  pub positive : AllPositive ts
  pub light : weight ts < 2 ^ 100

abbrev Other : Weighted → Weighted → Type 0
Other s t = s.lit.var ≢ t.lit.var

pub all_unmapped : {X Y : Type 0} (P : Y → Type 0) (f : X → Y) (xs : List X) → All P (map f xs) → All (λ x. P (f x)) xs
all_unmapped P f [] h = All-nil (λ x. P (f x))
all_unmapped P f (x ∷ xs) h = All-cons (λ x. P (f x)) x xs (All-head P (f x) (map f xs) h) (all_unmapped P f xs (All-tail P (f x) (map f xs) h))

-- terms over distinct variables
pub apart_from_vars : (ts : List Weighted) → IsOverDistinct ts → AreApartTerms ts
apart_from_vars [] h = AllPairs-nil Other
apart_from_vars (t ∷ ts) h =
    AllPairs-cons Other t ts (all_unmapped (λ (v : ℕ). t.lit.var ≢ v) (λ (u : Weighted). u.lit.var) ts (AllPairs-head (λ v w. v ≢ w) t.lit.var (vars_of ts) h))
    (apart_from_vars ts (AllPairs-tail (λ v w. v ≢ w) t.lit.var (vars_of ts) h))

-- ---- the whole

-- the first constraint of a variable is known, and the second where its sum can reach the number
pub record MeansAt (K : ℕ → Constraint → Type 0) (id : ℕ) (m : Reification) : Type 0 where
  pub first : K id (forward_of m)
  pub second : m.least ≤ weight m.sum → K (id + 1) (reverse_of m)

abbrev pub AllMeant : (ℕ → Constraint → Type 0) → ℕ → List Reification → Type 0
AllMeant K id ms = (k : ℕ) (m : Reification) → IsReificationAt ms k m → MeansAt K (id + 2 * k) m

-- the reifications stand under their ids
all_meant : (db : Database) (id : ℕ) (ms : List Reification) → AreMeant db id ms → AllMeant (Knows db) id ms
all_meant db id ms meant k m at =
    let here = meant_at db id ms k m at.within meant in
    subst (MeansAt (Knows db) (id + 2 * k)) at.here (record { first = here.first; second = here.second })

All-both : {X : Type 0} (P Q R : X → Type 0) (xs : List X) → ((x : X) → P x → Q x → R x) → All P xs → All Q xs → All R xs
All-both P Q R xs both h k = λ i d within. both (get_or xs i d) (h i d within) (k i d within)

-- what stood under an id still does
pub stands_later : (P : ℕ → Type 0) (db end : Database) (id : ℕ) (c : Constraint) → IsNumbered db → IsLater P db end → Knows db id c → Knows end id c
stands_later P db end id c numbered later stands = later_knows P db end id c later (known_below db id c numbered stands) stands

-- from a database with room, reifications in a row and clauses that are justified wherever the reifications stand
pub fit_derives : (first fresh : ℕ) (db : Database) (ms : List Reification) (rs : List Justification) → HasRoom first fresh db → AreInRow first ms → length ms ≡ fresh → All (IsFitReification first) ms
    → All (λ r. All (λ l. l.var < first + fresh) r.clause) rs → All (IsWhole db.vars) rs
    → ((end : Database) → IsLater (λ v. v < first + fresh) db end → AllMeant (Knows end) db.next ms → All (IsJustified (Knows end)) rs)
    → Derives db (phases db.next ms (map by_justification rs)) (justification_clauses rs) (first + fresh)
fit_derives first fresh db ms rs room row count fit names whole justified =
    let P : ℕ → Type 0 = λ v. v < first + fresh in
    let vars = room.vars in
    let named_terms : All (λ (x : Reification). All (λ (t : Weighted). P t.lit.var) x.sum) ms =
    All-weaker (IsFitReification first) (λ (x : Reification). All (λ (t : Weighted). P t.lit.var) x.sum)
    (λ x h. All-weaker (λ (t : Weighted). t.lit.var < first) (λ (t : Weighted). P t.lit.var) (λ t k. let less : t.lit.var < first + fresh = omega arith in less) x.sum h.below) ms fit in
    let are = row_reifications P db first ms row fit room.original (omega (arith, vars, count))
    (λ v low high. let less : v < first + fresh = omega (arith, high, count) in (less, room.unnamed v low less)) named_terms in
    let reasoned : (end : Database) → IsLater P db end → AreMeant end db.next ms → All (IsJustification (Knows end) end.vars) rs = λ end later meant.
    let still : All (IsWhole end.vars) rs = subst (λ (v : ℕ). All (IsWhole v) rs) (sym later.vars) whole in
    All-both (IsWhole end.vars) (IsJustified (Knows end)) (IsJustification (Knows end) end.vars) rs
    (λ r w h. record { some = w.some; sources = h.0; found = h.1; follows = h.2; vars_known = w.vars_known }) still (justified end later (all_meant end db.next ms meant)) in
    let ran = reasoned_ran P db ms rs (reifications_ran P db ms room.numbered are) room.numbered names reasoned in
    swept_derives db (phases db.next ms (map by_justification rs)) (justification_clauses rs) (first + fresh) (2 * length ms + length (map by_justification rs)) room.numbered ran.all

-- the same where each sum can reach its number
pub room_derives : (first fresh : ℕ) (db : Database) (ms : List Reification) (rs : List Justification) → HasRoom first fresh db → AreInRow first ms → length ms ≡ fresh → All (IsReached first) ms
    → All (λ r. All (λ l. l.var < first + fresh) r.clause) rs → All (IsWhole db.vars) rs
    → ((end : Database) → IsLater (λ v. v < first + fresh) db end → ReificationsKnown (Knows end) db.next ms → All (IsJustified (Knows end)) rs)
    → Derives db (phases db.next ms (map by_justification rs)) (justification_clauses rs) (first + fresh)
room_derives first fresh db ms rs room row count fit names whole justified =
    fit_derives first fresh db ms rs room row count (All-weaker (IsReached first) (IsFitReification first) (reached_fits first) ms fit) names whole
    (λ end later given. justified end later (λ k x at. let here = given k x at in (here.first, here.second (subst (λ (y : Reification). y.least ≤ weight y.sum) at.here (fit k x at.within).reached))))

pub room_of : (m : BoundedSum) (first fresh id : ℕ) (db : Database) → IsReadyFor m first fresh id db → HasRoom first fresh db
room_of m first fresh id db ready = record { original = ready.original; vars = ready.vars; numbered = ready.numbered; unnamed = ready.unnamed }

-- from a ready database, reifications in a row and clauses that they and the sum's constraint justify
pub justified_derives : (m : BoundedSum) (first fresh id : ℕ) (db : Database) (ms : List Reification) (rs : List Justification) → IsReadyFor m first fresh id db → AreInRow first ms → length ms ≡ fresh → All (IsReached first) ms
    → All (λ r. All (λ l. l.var < first + fresh) r.clause) rs → All (IsWhole db.vars) rs
    → ((K : ℕ → Constraint → Type 0) → ReificationsKnown K db.next ms → K id (as_constraint m) → All (IsJustified K) rs)
    → Derives db (phases db.next ms (map by_justification rs)) (justification_clauses rs) (first + fresh)
justified_derives m first fresh id db ms rs ready row count fit names whole justified =
    room_derives first fresh db ms rs (room_of m first fresh id db ready) row count fit names whole
    (λ end later known. justified (Knows end) known (stands_later (λ v. v < first + fresh) db end id (as_constraint m) ready.numbered later ready.stands))
