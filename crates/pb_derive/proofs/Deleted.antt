-- Constraints that were added and not put out are deleted.
use Rattle.std.proofs.Common.{◌≡◌, ◌≢◌, ◌≤◌, ◌<◌, ◌+◌, ◌*◌, ◌⊎◌, inl, inr, ℕ, zero, suc, Bool, true, false, not, cond, List, [], ◌∷◌, refl, ap, sym, ◌∙◌, subst, arith, eqb, get_or}
use Rattle.std.specs.Prelude.{All, AllPairs, Option, Some, None, is_some}
use Rattle.std.specs.List.{range_with_len}
use Rattle.std.proofs.lemmas.Bool.{cases_lt, eqb-true, ne_eqb, or_from, or_parts, not-true, eq-eqb, both_ways}
use Rattle.std.proofs.lemmas.List.Elements.{All-nil, All-head, All-tail, All-weaker, All-filter, filter_passes}
use Rattle.pb_base.specs.declared.literal.Lit.{Lit}
use Rattle.pb_norm.specs.Constraints.{Constraint}
use Rattle.pb_steps.specs.declared.step.Step.TheVariants.{Del}
use Rattle.pb_steps.specs.Database.{Entry, Database, constraint_at, IsLive, is_out, is_listed, reduced}
use Rattle.pb_steps.specs.Allowed.{Allowed}
use Rattle.pb_steps.specs.Runs.{Runs}
use Rattle.pb_steps.proofs.Keeping.{at-filter}
use Rattle.pb_derive.specs.Later.{IsOther, IsLater}
use Rattle.pb_derive.specs.Deletions.{deletion_steps}
use Rattle.pb_derive.proofs.Held.{AreHeld}
use Rattle.pb_derive.proofs.IdRanges.{each_between, range-apart}

-- ---- which are listed

none_listed : (ids : List ℕ) (i : ℕ) → All (λ j. j ≢ i) ids → is_listed ids i ≡ false
none_listed [] i h = refl
none_listed (j ∷ ids) i h = or_from (eqb j i) (is_listed ids i) (ne_eqb j i (All-head (λ j. j ≢ i) j ids h)) (none_listed ids i (All-tail (λ j. j ≢ i) j ids h))

abbrev is_left : List ℕ → ℕ → Bool
is_left ids i = not (is_listed ids i)

-- what is not listed stays
pub at_reduced : (db : Database) (ids : List ℕ) (i : ℕ) → All (λ j. j ≢ i) ids → constraint_at (reduced db ids).live i ≡ constraint_at db.live i
at_reduced db ids i h = at-filter (is_left ids) db.live i (ap not (none_listed ids i h))

-- and what holds of each constraint
pub reduced_all : (Q : Entry → Type 0) (db : Database) (ids : List ℕ) → All Q db.live → All Q (reduced db ids).live
reduced_all Q db ids h = All-filter (λ (e : Entry). is_left ids e.id) Q db.live h

-- no constraint is left under such an id
pub none_at : (i : ℕ) (es : List Entry) → All (λ e. e.id ≢ i) es → constraint_at es i ≡ None
none_at i [] h = refl
none_at i (e ∷ es) h =
    ap (λ (b : Bool). cond {A = Option Constraint} b (Some e.constraint) (constraint_at es i)) (ne_eqb e.id i (All-head (λ (e : Entry). e.id ≢ i) e es h))
    ∙ none_at i es (All-tail (λ (e : Entry). e.id ≢ i) e es h)

-- ---- one line

-- a constraint that is held was not put out
pub not_out : (n m i : ℕ) (es : List Entry) → n ≤ i → i < m → All (λ e. n ≤ e.id → e.id < m → e.out ≡ false) es → is_out es i ≡ false
not_out n m i [] low high h = refl
not_out n m i (e ∷ es) low high h =
    by_test (eqb e.id i) refl (All-head (λ (e : Entry). n ≤ e.id → e.id < m → e.out ≡ false) e es h) (not_out n m i es low high (All-tail (λ (e : Entry). n ≤ e.id → e.id < m → e.out ≡ false) e es h))
  where
    by_test : (b : Bool) → eqb e.id i ≡ b → (n ≤ e.id → e.id < m → e.out ≡ false) → is_out es i ≡ false → cond {A = Bool} b e.out (is_out es i) ≡ false
    by_test true same here ih = let is : e.id ≡ i = eqb-true e.id i same in here (omega (arith, is, low)) (omega (arith, is, high))
    by_test false same here ih = ih

-- different ids of constraints that are live and were not put out
pub deletion_allowed : (db : Database) (ids : List ℕ) (next : Option (List Lit)) → All (IsLive db.live) ids → All (λ i. is_out db.live i ≡ false) ids → AllPairs (λ i j. i ≢ j) ids → Allowed db (Del ids) next (reduced db ids)
deletion_allowed db ids next live kept apart = record {
  vars = All-nil (λ v. v ≤ db.vars);
  ids = live;
  rule = record { once = apart; kept = kept; after = refl };
}

-- what stood before another database still does, where none of its ids is listed
pub later_reduced : (P : ℕ → Type 0) (db mid : Database) (ids : List ℕ) → All (λ i. db.next ≤ i) ids → IsLater P db mid → IsLater P db (reduced mid ids)
later_reduced P db mid ids fresh later = record {
  original = later.original;
  vars = later.vars;
  next = later.next;
  numbered = reduced_all (λ (e : Entry). e.id < mid.next) mid ids later.numbered;
  stands = λ i below. at_reduced mid ids i (All-weaker (λ j. db.next ≤ j) (λ j. j ≢ i) (λ j low same. omega (arith, low, same, below)) ids fresh) ∙ later.stands i below;
  unnamed = λ v other none. reduced_all (λ (e : Entry). All (IsOther v) e.constraint.terms) mid ids (later.unnamed v other none);
}

-- ---- neighbouring ids

-- an id that is not listed is outside
left_apart : (id w i : ℕ) → is_left (range_with_len id w) i ≡ true → (i < id) ⊎ (id + w ≤ i)
left_apart id zero i h = elim (cases_lt i id) as (λ _. (i < id) ⊎ (id + 0 ≤ i)) [ inl below ↦ inl below | inr above ↦ inr (omega (arith, above)) ]
left_apart id (suc w) i h =
    let parts = or_parts (eqb id i) (is_listed (range_with_len (id + 1) w) i) (not-true (is_listed (range_with_len id (suc w)) i) h) in
    elim (left_apart (id + 1) w i (ap not parts.1)) as (λ _. (i < id) ⊎ (id + suc w ≤ i)) [
      | inl below ↦ elim (cases_lt i id) as (λ _. (i < id) ⊎ (id + suc w ≤ i)) [
        | inl less ↦ inl less
        | inr more ↦
            let same : id ≡ i = omega (arith, below, more) in
            absurd (both_ways (eqb id i) parts.0 (eq-eqb id i same))
      ]
      | inr above ↦ inr (omega (arith, above))
    ]

-- what is held beside the first ids stays held
held_left : (id w m : ℕ) (db : Database) → AreHeld id m db → AreHeld (id + w) m (reduced db (range_with_len id w))
held_left id w m db held = record {
  live = λ i low high.
      ap is_some (at_reduced db (range_with_len id w) i (each_between (λ j. j ≢ i) id w (λ j least most same. omega (arith, most, same, low))))
      ∙ held.live i (omega (arith, low)) high;
  unmarked = reduced_all (λ (e : Entry). id + w ≤ e.id → e.id < m → e.out ≡ false) db (range_with_len id w) (λ k e w low high. held.unmarked k e w (omega (arith, low)) high);
}

-- what is left after the lines, and that the rest stayed
pub record Deleted (P : ℕ → Type 0) (db mid : Database) (width id n : ℕ) : Type 1 where
  pub end : Database
  pub runs : Runs mid (deletion_steps width id n) [] end
  pub later : IsLater P db end
  pub next : end.next ≡ mid.next
  pub kept : (Q : Entry → Type 0) → All Q mid.live → All Q end.live
  pub left : All (λ e. (e.id < id) ⊎ (id + width * n ≤ e.id)) end.live

outside_more : (id m k i : ℕ) → ((i < id) ⊎ (m ≤ i)) → ((i < m) ⊎ (k ≤ i)) → (i < id) ⊎ (k ≤ i)
outside_more id m k i (inl below) rest = inl below
outside_more id m k i (inr above) (inl below) = absurd (omega (arith, above, below))
outside_more id m k i (inr above) (inr far) = inr far

pub deleted : (P : ℕ → Type 0) (db mid : Database) (width id n : ℕ) → db.next ≤ id → IsLater P db mid → AreHeld id (id + width * n) mid → Deleted P db mid width id n
deleted P db mid width id zero low later held = record {
  end = mid;
  runs = (refl, refl);
  later = later;
  next = refl;
  kept = λ Q h. h;
  left = λ k d w. elim (cases_lt (get_or mid.live k d).id id) as (λ _. ((get_or mid.live k d).id < id) ⊎ (id + width * 0 ≤ (get_or mid.live k d).id)) [
    | inl below ↦ inl below
    | inr above ↦ inr (omega (arith, above))
  ];
}
deleted P db mid width id (suc n) low later held =
    let ids : List ℕ = range_with_len id width in
    let less : Database = reduced mid ids in
    let more : id + width * suc n ≡ id + width + width * n = omega arith in
    let live = each_between (IsLive mid.live) id width (λ i least most. held.live i least (omega (arith, most, more))) in
    let unmarked = each_between (λ i. is_out mid.live i ≡ false) id width (λ i least most. not_out id (id + width * suc n) i mid.live least (omega (arith, most, more)) held.unmarked) in
    let fresh = each_between (λ i. db.next ≤ i) id width (λ i least most. omega (arith, low, least)) in
    let rest = deleted P db less width (id + width) n (omega (arith, low)) (later_reduced P db mid ids fresh later) (subst (λ (m : ℕ). AreHeld (id + width) m less) more (held_left id width (id + width * suc n) mid held)) in
    let outside : All (λ e. (e.id < id) ⊎ (id + width ≤ e.id)) less.live =
    All-weaker (λ (e : Entry). is_left ids e.id ≡ true) (λ (e : Entry). (e.id < id) ⊎ (id + width ≤ e.id)) (λ e left. left_apart id width e.id left) less.live (filter_passes (λ (e : Entry). is_left ids e.id) mid.live) in
    let far = rest.kept (λ (e : Entry). (e.id < id) ⊎ (id + width ≤ e.id)) outside in
    record {
      end = rest.end;
      runs = (less, deletion_allowed mid ids _ live unmarked (range-apart id width), rest.runs);
      later = rest.later;
      next = rest.next;
      kept = λ Q h. rest.kept Q (reduced_all Q mid ids h);
      left = subst (λ (k : ℕ). All (λ (e : Entry). (e.id < id) ⊎ (k ≤ e.id)) rest.end.live) (sym more)
          (λ k d w. outside_more id (id + width) (id + width + width * n) (get_or rest.end.live k d).id (far k d w) (rest.left k d w));
    }
