-- Constraints that are held for a while: steps add some, put some out and delete others.
use Rattle.std.proofs.Common.{◌≡◌, ◌≢◌, ◌≤◌, ◌<◌, ◌⊎◌, inl, inr, ℕ, Bool, true, false, not, cond, List, [], ◌∷◌, refl, ap, sym, ◌∙◌, subst, arith, eqb, get_or}
use Rattle.std.specs.Prelude.{All, AllPairs, map, Option, Some, is_some}
use Rattle.std.proofs.lemmas.Bool.{cases_eq, eq-eqb, eqb-true, ne_eqb, or_from, or_left, or_right, or_parts, not-true, both_ways}
use Rattle.std.proofs.lemmas.List.Elements.{All-nil, All-cons, All-head, All-tail, All-map, All-weaker, filter_passes}
use Rattle.pb_base.specs.declared.literal.Lit.{Lit}
use Rattle.pb_norm.specs.ClauseForm.{clause_form}
use Rattle.pb_norm.specs.Constraints.{Constraint}
use Rattle.pb_steps.proofs.Keeping.{at-marked}
use Rattle.pb_steps.specs.declared.step.Step.{Step}
use Rattle.pb_steps.specs.declared.step.Step.TheVariants.{Out, Del}
use Rattle.pb_steps.specs.Allowed.{Allowed}
use Rattle.pb_steps.specs.Database.{Entry, Database, constraint_at, IsLive, is_out, is_listed, reduced, mark, marked}
use Rattle.pb_steps.specs.Operations.{Implies}
use Rattle.pb_steps.specs.Runs.{Runs}
use Rattle.pb_derive.specs.Later.{IsNumbered, IsLater, IsUnmarked, IsSwept}
use Rattle.pb_derive.specs.Outputs.{Output, clauses_of, output_steps}
use Rattle.pb_derive.proofs.Deleted.{at_reduced, reduced_all, deletion_allowed, later_reduced}
use Rattle.pb_derive.proofs.FollowedBy.{later_wider}
use Rattle.pb_derive.proofs.Held.{held_added, added_all, added_unmarked, added_swept}
use Rattle.pb_derive.proofs.IdRanges.{IsOff}
use Rattle.pb_derive.proofs.Laters.{later_same, later_then, later_marked, live_below}
use Rattle.pb_derive.proofs.Lines.{Added}

-- What stood before still does. Beside it nothing is left but what was put out, and constraints whose ids meet L, which were not.
pub record IsHolding (P : ℕ → Type 0) (base db : Database) (L : ℕ → Type 0) : Type 1 where
  pub later : IsLater P base db
  pub low : (i : ℕ) → L i → base.next ≤ i
  pub live : (i : ℕ) → L i → IsLive db.live i
  pub kept : All (λ e. L e.id → e.out ≡ false) db.live
  pub swept : (S : ℕ → Type 0) → IsSwept S base → IsSwept (λ i. S i ⊎ L i) db
  pub unmarked : (n m : ℕ) → m ≤ base.next → IsUnmarked n m base → IsUnmarked n m db

-- nothing is held at first
pub holding_none : (P : ℕ → Type 0) (db : Database) → IsNumbered db → IsHolding P db db (λ i. ⊥)
holding_none P db numbered = record {
  later = later_same P db numbered;
  low = λ i none. absurd none;
  live = λ i none. absurd none;
  kept = λ k d w none. absurd none;
  swept = λ S s k d w. elim (s k d w) as (λ _. (S (get_or db.live k d).id ⊎ ⊥) ⊎ ((get_or db.live k d).out ≡ true)) [ inl early ↦ inl (inl early) | inr out ↦ inr out ];
  unmarked = λ n m le u. u;
}

either_other : (S L M : ℕ → Type 0) (i : ℕ) (O : Type 0) → (L i → M i) → ((S i ⊎ L i) ⊎ O) → (S i ⊎ M i) ⊎ O
either_other S L M i O wider (inl (inl early)) = inl (inl early)
either_other S L M i O wider (inl (inr held)) = inl (inr (wider held))
either_other S L M i O wider (inr out) = inr out

-- the same ids in other words, and more variables
pub holding_same : (P Q : ℕ → Type 0) (base db : Database) (L M : ℕ → Type 0) → ((v : ℕ) → P v → Q v) → ((i : ℕ) → L i → M i) → ((i : ℕ) → M i → L i) → IsHolding P base db L → IsHolding Q base db M
holding_same P Q base db L M wider there back h = record {
  later = later_wider P Q wider base db h.later;
  low = λ i m. h.low i (back i m);
  live = λ i m. h.live i (back i m);
  kept = λ k d w m. h.kept k d w (back (get_or db.live k d).id m);
  swept = λ S s k d w. either_other S L M (get_or db.live k d).id ((get_or db.live k d).out ≡ true) (there (get_or db.live k d).id) (h.swept S s k d w);
  unmarked = h.unmarked;
}

-- ---- steps add constraints

-- what was held, and the ids from one number to another
pub data OrBetween (L : ℕ → Type 0) (n m i : ℕ) : Type 0 where
  before : L i → OrBetween L n m i
  between : n ≤ i → i < m → OrBetween L n m i

new_between : (S L : ℕ → Type 0) (n m : ℕ) (e : Entry) → e.id < m → ((((S e.id ⊎ L e.id) ⊎ (n ≤ e.id))) ⊎ (e.out ≡ true)) → (S e.id ⊎ OrBetween L n m e.id) ⊎ (e.out ≡ true)
new_between S L n m e below (inl (inl (inl early))) = inl (inl early)
new_between S L n m e below (inl (inl (inr held))) = inl (inr (before held))
new_between S L n m e below (inl (inr late)) = inl (inr (between late below))
new_between S L n m e below (inr out) = inr out

pub holding_added : (P : ℕ → Type 0) (base db : Database) (L : ℕ → Type 0) (ss : List Step) (k : ℕ) → IsHolding P base db L → (h : Added P db ss k) → IsHolding P base h.ran.end (OrBetween L db.next h.ran.end.next)
holding_added P base db L ss k holding h =
    let end : Database = h.ran.end in
    let M : ℕ → Type 0 = OrBetween L db.next end.next in
    let later = h.ran.later in
    let numbered = holding.later.numbered in
    let held = held_added db ss [] end numbered h.adding h.ran.runs in
    let start = holding.later.next in
    let Kept : Entry → Type 0 = λ e. M e.id → e.out ≡ false in
    let old : All Kept db.live = λ n d w m. elim m as (λ _. (get_or db.live n d).out ≡ false) [
      | before l ↦ holding.kept n d w l
      | between from to ↦ absurd (omega (arith, from, numbered n d w))
    ] in
    record {
      later = later_then P base db end holding.later later;
      low = λ i m. elim m as (λ _. base.next ≤ i) [ before l ↦ holding.low i l | between from to ↦ omega (arith, from, start) ];
      live = λ i m. elim m as (λ _. IsLive end.live i) [
        | before l ↦ ap is_some (later.stands i (live_below db i numbered (holding.live i l))) ∙ holding.live i l
        | between from to ↦ held.live i from to
      ];
      kept = added_all Kept (λ id c m. refl) db ss [] end h.adding h.ran.runs old;
      swept = λ S s.
          let all = added_swept (λ i. S i ⊎ L i) db ss [] end h.adding h.ran.runs (holding.swept S s) in
          λ n d w. new_between S L db.next end.next (get_or end.live n d) (later.numbered n d w) (all n d w);
      unmarked = λ n m le u. added_unmarked n m db ss [] end h.adding h.ran.runs (holding.unmarked n m le u);
    }

-- ---- some are put out

-- the constraint with the id gives the clause
abbrev pub IsOutput : Database → Output → Type 0
IsOutput db u = (c : Constraint) × (constraint_at db.live u.id ≡ Some c) × Implies c (clause_form u.clause)

abbrev pub LeftOut : (ℕ → Type 0) → List ℕ → ℕ → Type 0
LeftOut L ids i = L i × IsOff ids i

abbrev pub IsNotOut : List Output → ℕ → Type 0
IsNotOut us i = All (λ u. u.id ≢ i) us

-- all of them are marked
abbrev pub put_out : Database → List Output → Database
put_out db [] = db
put_out db (u ∷ us) = put_out (marked db u.id) us

-- one
marked-at : (db : Database) (id i : ℕ) → constraint_at (marked db id).live i ≡ constraint_at db.live i
marked-at db id i = at-marked id db.live i

marks : (Q R : Entry → Type 0) (id : ℕ) (es : List Entry) → ((e : Entry) → Q e → R (mark id e)) → All Q es → All R (map (mark id) es)
marks Q R id es each h = All-map R (mark id) es (All-weaker Q (λ (e : Entry). R (mark id e)) each es h)

one_out : (S L : ℕ → Type 0) (id : ℕ) (e : Entry) → ((S e.id ⊎ L e.id) ⊎ (e.out ≡ true)) → (S e.id ⊎ (L e.id × (id ≢ e.id))) ⊎ ((mark id e).out ≡ true)
one_out S L id e (inl (inl early)) = inl (inl early)
one_out S L id e (inl (inr held)) =
    elim (cases_eq e.id id) as (λ _. (S e.id ⊎ (L e.id × (id ≢ e.id))) ⊎ ((mark id e).out ≡ true)) [
      | inl same ↦ inr (or_left (eqb e.id id) e.out (eq-eqb e.id id same))
      | inr other ↦ inl (inr (held, λ same. other (sym same)))
    ]
one_out S L id e (inr out) = inr (or_right (eqb e.id id) e.out out)

holding_marked : (P : ℕ → Type 0) (base db : Database) (L : ℕ → Type 0) (id : ℕ) → base.next ≤ id → IsHolding P base db L → IsHolding P base (marked db id) (λ i. L i × (id ≢ i))
holding_marked P base db L id low h =
    let M : ℕ → Type 0 = λ i. L i × (id ≢ i) in
    record {
      later = later_then P base db (marked db id) h.later (later_marked P db id h.later.numbered);
      low = λ i m. h.low i m.0;
      live = λ i m. ap is_some (marked-at db id i) ∙ h.live i m.0;
      kept = marks (λ (e : Entry). L e.id → e.out ≡ false) (λ (e : Entry). M e.id → e.out ≡ false) id db.live
          (λ e kept m. or_from (eqb e.id id) e.out (ne_eqb e.id id (λ same. m.1 (sym same))) (kept m.0)) h.kept;
      swept = λ S s. marks (λ (e : Entry). (S e.id ⊎ L e.id) ⊎ (e.out ≡ true)) (λ (e : Entry). (S e.id ⊎ M e.id) ⊎ (e.out ≡ true)) id db.live (one_out S L id) (h.swept S s);
      unmarked = λ n m le u. marks (λ (e : Entry). n ≤ e.id → e.id < m → e.out ≡ false) (λ (e : Entry). n ≤ e.id → e.id < m → e.out ≡ false) id db.live
          (λ e out from to.
          let below : e.id < m = to in
          or_from (eqb e.id id) e.out (ne_eqb e.id id (λ same. omega (arith, below, same, le, low))) (out from to)) (h.unmarked n m le u);
    }

pub put_out-at : (db : Database) (us : List Output) (i : ℕ) → constraint_at (put_out db us).live i ≡ constraint_at db.live i
put_out-at db [] i = refl
put_out-at db (u ∷ us) i = put_out-at (marked db u.id) us i ∙ marked-at db u.id i

pub put_out-next : (db : Database) (us : List Output) → (put_out db us).next ≡ db.next
put_out-next db [] = refl
put_out-next db (u ∷ us) = put_out-next (marked db u.id) us

pub put_out_runs : (db : Database) (us : List Output) → All (IsOutput db) us → Runs db (output_steps us) (clauses_of us) (put_out db us)
put_out_runs db [] h = (refl, refl)
put_out_runs db (u ∷ us) h =
    let here = All-head (IsOutput db) u us h in
    let mid : Database = marked db u.id in
    let one : Allowed db (Out u.id) (Some u.clause) mid = record {
      vars = All-nil (λ v. v ≤ db.vars);
      ids = All-cons (IsLive db.live) u.id [] (ap is_some here.1) (All-nil (IsLive db.live));
      rule = record { literals = u.clause; is_next = refl; constraint = here.0; found = here.1; implied = here.2; after = refl };
    } in
    let rest : All (IsOutput mid) us = All-weaker (IsOutput db) (IsOutput mid) (λ x k. (k.0, marked-at db u.id x.id ∙ k.1, k.2)) us (All-tail (IsOutput db) u us h) in
    (mid, one, put_out_runs mid us rest)

pub holding_put_out : (P : ℕ → Type 0) (base db : Database) (L : ℕ → Type 0) (us : List Output) → All (λ u. base.next ≤ u.id) us → IsHolding P base db L → IsHolding P base (put_out db us) (λ i. L i × IsNotOut us i)
holding_put_out P base db L [] low h = holding_same P P base db L (λ i. L i × IsNotOut [] i) (λ v p. p) (λ i l. (l, All-nil (λ (u : Output). u.id ≢ i))) (λ i m. m.0) h
holding_put_out P base db L (u ∷ us) low h =
    let Low : Output → Type 0 = λ x. base.next ≤ x.id in
    let one = holding_marked P base db L u.id (All-head Low u us low) h in
    holding_same P P base (put_out (marked db u.id) us) (λ i. (L i × (u.id ≢ i)) × IsNotOut us i) (λ i. L i × IsNotOut (u ∷ us) i) (λ v p. p)
    (λ i l. (l.0.0, All-cons (λ (x : Output). x.id ≢ i) u us l.0.1 l.1))
    (λ i m. ((m.0, All-head (λ (x : Output). x.id ≢ i) u us m.1), All-tail (λ (x : Output). x.id ≢ i) u us m.1))
    (holding_put_out P base (marked db u.id) (λ i. L i × (u.id ≢ i)) us (All-tail Low u us low) one)

-- ---- others are deleted

none_off : (ids : List ℕ) (i : ℕ) → is_listed ids i ≡ false → IsOff ids i
none_off [] i h = All-nil (λ (j : ℕ). j ≢ i)
none_off (j ∷ ids) i h =
    let parts = or_parts (eqb j i) (is_listed ids i) h in
    All-cons (λ (k : ℕ). k ≢ i) j ids (λ same. both_ways (eqb j i) parts.0 (eq-eqb j i same)) (none_off ids i parts.1)

left_off : (db : Database) (ids : List ℕ) → All (λ e. IsOff ids e.id) (reduced db ids).live
left_off db ids =
    All-weaker (λ (e : Entry). not (is_listed ids e.id) ≡ true) (λ (e : Entry). IsOff ids e.id) (λ e left. none_off ids e.id (not-true (is_listed ids e.id) left)) (reduced db ids).live (filter_passes (λ (e : Entry). not (is_listed ids e.id)) db.live)

kept-out : (L : ℕ → Type 0) (i : ℕ) (es : List Entry) → L i → All (λ e. L e.id → e.out ≡ false) es → is_out es i ≡ false
kept-out L i [] l h = refl
kept-out L i (e ∷ es) l h =
    by_test (eqb e.id i) refl (All-head (λ (e : Entry). L e.id → e.out ≡ false) e es h) (kept-out L i es l (All-tail (λ (e : Entry). L e.id → e.out ≡ false) e es h))
  where
    by_test : (b : Bool) → eqb e.id i ≡ b → (L e.id → e.out ≡ false) → is_out es i ≡ false → cond {A = Bool} b e.out (is_out es i) ≡ false
    by_test true same here ih = here (subst L (sym (eqb-true e.id i same)) l)
    by_test false same here ih = ih

still_left : (S L : ℕ → Type 0) (ids : List ℕ) (e : Entry) → ((S e.id ⊎ L e.id) ⊎ (e.out ≡ true)) → IsOff ids e.id → (S e.id ⊎ LeftOut L ids e.id) ⊎ (e.out ≡ true)
still_left S L ids e (inl (inl early)) off = inl (inl early)
still_left S L ids e (inl (inr held)) off = inl (inr (held, off))
still_left S L ids e (inr out) off = inr out

pub holding_deleted : (P : ℕ → Type 0) (base db : Database) (L : ℕ → Type 0) (ids : List ℕ) → All L ids → IsHolding P base db L → IsHolding P base (reduced db ids) (LeftOut L ids)
holding_deleted P base db L ids all h =
    let end : Database = reduced db ids in
    let off = left_off db ids in
    record {
      later = later_reduced P base db ids (All-weaker L (λ i. base.next ≤ i) h.low ids all) h.later;
      low = λ i m. h.low i m.0;
      live = λ i m. ap is_some (at_reduced db ids i m.1) ∙ h.live i m.0;
      kept = λ n d w m. reduced_all (λ (e : Entry). L e.id → e.out ≡ false) db ids h.kept n d w m.0;
      swept = λ S s.
          let left = reduced_all (λ (e : Entry). (S e.id ⊎ L e.id) ⊎ (e.out ≡ true)) db ids (h.swept S s) in
          λ n d w. still_left S L ids (get_or end.live n d) (left n d w) (off n d w);
      unmarked = λ n m le u. reduced_all (λ (e : Entry). n ≤ e.id → e.id < m → e.out ≡ false) db ids (h.unmarked n m le u);
    }

pub deleted_allowed : (P : ℕ → Type 0) (base db : Database) (L : ℕ → Type 0) (ids : List ℕ) (next : Option (List Lit)) → All L ids → AllPairs (λ i j. i ≢ j) ids → IsHolding P base db L → Allowed db (Del ids) next (reduced db ids)
deleted_allowed P base db L ids next all apart h =
    deletion_allowed db ids next (All-weaker L (IsLive db.live) h.live ids all) (All-weaker L (λ i. is_out db.live i ≡ false) (λ i l. kept-out L i db.live l h.kept) ids all) apart
