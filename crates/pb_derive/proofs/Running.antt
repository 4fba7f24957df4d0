-- Steps one after the other.
use Rattle.std.proofs.Common.{◌≡◌, ◌+◌, ◌≤◌, ◌<◌, ◌⊎◌, inl, inr, ℕ, true, false, List, [], ◌∷◌, ◌++◌, refl, ap, sym, subst, arith, length, eqb}
use Rattle.std.specs.Prelude.{All, Contains, map, Some, is_some}
use Rattle.std.proofs.lemmas.Bool.{both_ways, eq-eqb, ne_eqb, or_from, or_left, or_right}
use Rattle.std.proofs.lemmas.List.Elements.{All-nil, All-cons, All-head, All-tail, All-weaker, All-map, All-append, All-contains}
use Rattle.pb_base.specs.declared.literal.Lit.{Lit}
use Rattle.pb_steps.specs.declared.step.Step.{Step}
use Rattle.pb_steps.specs.declared.step.Step.TheVariants.{Blank, Head, Loaded, Pol, Rup, Red, Del, Out, End}
use Rattle.pb_norm.specs.Constraints.{Weighted, Constraint}
use Rattle.pb_steps.specs.Steps.{takes_id}
use Rattle.pb_steps.specs.Database.{Entry, Database, constraint_at, IsLive, entry, grown, mark, marked}
use Rattle.pb_steps.specs.Allowed.{Allowed}
use Rattle.pb_steps.specs.Runs.{Runs, next_clause, clauses_after}
use Rattle.pb_derive.specs.Claims.{Claim, claim_steps}
use Rattle.pb_derive.specs.inner.Ran.{IsClaim, Ran, RanSwept}
use Rattle.pb_derive.specs.Later.{IsNumbered, IsLater, IsUnmarked, IsSwept}
use Rattle.pb_derive.proofs.Laters.{at_grown, later_same, later_then, later_grown, later_marked}

-- where no clause is left and one is to be put out
out_of_none : {A : Type 0} (db end : Database) (id : ℕ) → Allowed db (Out id) (next_clause []) end → A
out_of_none db end id h = cc h.rule.is_next

-- more clauses are to be put out behind them
more_clauses : (db : Database) (s : Step) (cs ds : List (List Lit)) (end : Database) → Allowed db s (next_clause cs) end → Allowed db s (next_clause (cs ++ ds)) end × (clauses_after s (cs ++ ds) ≡ clauses_after s cs ++ ds)
more_clauses db Blank cs ds end h = (record { vars = h.vars; ids = h.ids; rule = h.rule }, refl)
more_clauses db Head cs ds end h = absurd h.rule
more_clauses db (Loaded count) cs ds end h = absurd h.rule
more_clauses db (Pol ops) cs ds end h = (record { vars = h.vars; ids = h.ids; rule = h.rule }, refl)
more_clauses db (Rup ts right ids) cs ds end h = (record { vars = h.vars; ids = h.ids; rule = h.rule }, refl)
more_clauses db (Red ts right sets) cs ds end h = (record { vars = h.vars; ids = h.ids; rule = h.rule }, refl)
more_clauses db (Del ids) cs ds end h = (record { vars = h.vars; ids = h.ids; rule = h.rule }, refl)
more_clauses db (Out id) [] ds end h = out_of_none db end id h
more_clauses db (Out id) (c ∷ cs) ds end h = (h, refl)
more_clauses db End cs ds end h = absurd h.rule

-- what runs from where a run ended, runs after it
pub runs_append : (db mid end : Database) (ss ts : List Step) (cs ds : List (List Lit)) → Runs db ss cs mid → Runs mid ts ds end → Runs db (ss ++ ts) (cs ++ ds) end
runs_append db mid end [] ts cs ds h k =
    subst (λ (es : List (List Lit)). Runs db ts (es ++ ds) end) (sym h.0) (subst (λ (d : Database). Runs d ts ds end) h.1 k)
runs_append db mid end (s ∷ ss) ts cs ds h k =
    let more = more_clauses db s cs ds h.0 h.1 in
    (h.0, more.0, subst (λ (es : List (List Lit)). Runs h.0 (ss ++ ts) es end) (sym more.1) (runs_append h.0 mid end ss ts (clauses_after s cs) ds h.2 k))

-- what ran from where something ran, ran after it
pub ran_then : (P : ℕ → Type 0) (db : Database) (ss ts : List Step) (cs ds : List (List Lit)) (i j : ℕ) (h : Ran P db ss cs i) → Ran P h.end ts ds j → Ran P db (ss ++ ts) (cs ++ ds) (i + j)
ran_then P db ss ts cs ds i j h k = record {
  end = k.end;
  runs = runs_append db h.end k.end ss ts cs ds h.runs k.runs;
  later = later_then P db h.end k.end h.later k.later;
  next = omega (arith, h.next, k.next);
}

pub ran_none : (P : ℕ → Type 0) (db : Database) → IsNumbered db → Ran P db [] [] 0
ran_none P db numbered = record { end = db; runs = (refl, refl); later = later_same P db numbered; next = omega arith }

-- steps after which nothing is left but what was put out
pub swept_then : (P : ℕ → Type 0) (db : Database) (ss ts : List Step) (cs ds : List (List Lit)) (i j : ℕ) (h : RanSwept P db ss cs i) → RanSwept P h.ran.end ts ds j → RanSwept P db (ss ++ ts) (cs ++ ds) (i + j)
swept_then P db ss ts cs ds i j h k = record {
  ran = record {
    end = k.ran.end;
    runs = runs_append db h.ran.end k.ran.end ss ts cs ds h.ran.runs k.ran.runs;
    later = later_then P db h.ran.end k.ran.end h.ran.later k.ran.later;
    next = omega (arith, h.ran.next, k.ran.next);
  };
  swept = λ S s. k.swept S (h.swept S s);
  unmarked = λ n m le u. k.unmarked n m (omega (arith, le, h.ran.next)) (h.unmarked n m le u);
}

pub swept_none : (P : ℕ → Type 0) (db : Database) → IsNumbered db → RanSwept P db [] [] 0
swept_none P db numbered = record {
  ran = record { end = db; runs = (refl, refl); later = later_same P db numbered; next = omega arith };
  swept = λ S s. s;
  unmarked = λ n m le u. u;
}

-- ---- claims

-- a step that takes an id puts nothing out
pub takes_keeps : (s : Step) → takes_id s ≡ true → (cs : List (List Lit)) → clauses_after s cs ≡ cs
takes_keeps Blank h cs = refl
takes_keeps Head h cs = refl
takes_keeps (Loaded count) h cs = refl
takes_keeps (Pol ops) h cs = refl
takes_keeps (Rup ts right ids) h cs = refl
takes_keeps (Red ts right sets) h cs = refl
takes_keeps (Del ids) h cs = refl
takes_keeps (Out id) h cs = absurd (both_ways false refl h)
takes_keeps End h cs = refl

abbrev Left : (ℕ → Type 0) → Entry → Type 0
Left S e = S e.id ⊎ (e.out ≡ true)

-- the one new constraint is put out
put_swept : (S : ℕ → Type 0) (db : Database) (d : Constraint) → IsSwept S db → IsSwept S (marked (grown db d) db.next)
put_swept S db d h =
    let Then : Entry → Type 0 = λ e. Left S (mark db.next e) in
    All-map (Left S) (mark db.next) (db.live ++ entry db.next d ∷ [])
    (All-append Then db.live (entry db.next d ∷ [])
    (All-weaker (Left S) Then (λ e left. elim left as (λ _. Left S (mark db.next e)) [
      | inl early ↦ inl early
      | inr out ↦ inr (or_right (eqb e.id db.next) e.out out)
    ]) db.live h)
    (All-cons Then (entry db.next d) [] (inr (or_left (eqb db.next db.next) false (eq-eqb db.next db.next refl))) (All-nil Then)))

abbrev Unmarked : ℕ → ℕ → Entry → Type 0
Unmarked n m e = n ≤ e.id → e.id < m → e.out ≡ false

-- and none before it
put_unmarked : (n m : ℕ) (db : Database) (d : Constraint) → m ≤ db.next → IsUnmarked n m db → IsUnmarked n m (marked (grown db d) db.next)
put_unmarked n m db d le h =
    let Then : Entry → Type 0 = λ e. Unmarked n m (mark db.next e) in
    All-map (Unmarked n m) (mark db.next) (db.live ++ entry db.next d ∷ [])
    (All-append Then db.live (entry db.next d ∷ [])
    (All-weaker (Unmarked n m) Then (λ e u low high.
    let below : e.id < m = high in
    or_from (eqb e.id db.next) e.out (ne_eqb e.id db.next (λ same. omega (arith, below, same, le))) (u low high)) db.live h)
    (All-cons Then (entry db.next d) [] (λ low high. let below : db.next < m = high in absurd (omega (arith, below, le))) (All-nil Then)))

-- a claim and its clause
claim_ran : (P : ℕ → Type 0) (db : Database) (c : Claim) → IsNumbered db → IsClaim P db c → RanSwept P db (c.step ∷ Out db.next ∷ []) (c.clause ∷ []) 1
claim_ran P db c numbered h =
    let g = h.gives db (later_same P db numbered) in
    let d = g.constraint in
    let grows = later_grown P db d numbered (All-weaker (λ (t : Weighted). Contains c.clause t.lit) (λ (t : Weighted). P t.lit.var) (λ t m. All-contains (λ (l : Lit). P l.var) c.clause t.lit h.named m) d.terms g.among) in
    let found : constraint_at (grown db d).live db.next ≡ Some d = at_grown db d numbered in
    let out : Allowed (grown db d) (Out db.next) (Some c.clause) (marked (grown db d) db.next) = record {
      vars = All-nil (λ v. v ≤ db.vars);
      ids = All-cons (IsLive (grown db d).live) db.next [] (ap is_some found) (All-nil (IsLive (grown db d).live));
      rule = record { literals = c.clause; is_next = refl; constraint = d; found = found; implied = g.implies; after = refl };
    } in
    record {
      ran = record {
        end = marked (grown db d) db.next;
        runs = (
          grown db d,
          g.allowed (Some c.clause),
          subst (λ (cs : List (List Lit)). Runs (grown db d) (Out db.next ∷ []) cs (marked (grown db d) db.next)) (sym (takes_keeps c.step h.takes (c.clause ∷ []))) (marked (grown db d) db.next, out, (refl, refl)),
        );
        later = later_then P db (grown db d) (marked (grown db d) db.next) grows (later_marked P (grown db d) db.next grows.numbered);
        next = refl;
      };
      swept = λ S s. put_swept S db d s;
      unmarked = λ n m le u. put_unmarked n m db d le u;
    }

pub claim_later : (P : ℕ → Type 0) (db mid : Database) (c : Claim) → IsLater P db mid → IsClaim P db c → IsClaim P mid c
claim_later P db mid c later h = record { named = h.named; takes = h.takes; gives = λ end k. h.gives end (later_then P db mid end later k) }

-- claims run one after the other
pub claims_ran : (P : ℕ → Type 0) (db : Database) (cs : List Claim) → IsNumbered db → All (IsClaim P db) cs → RanSwept P db (claim_steps db.next cs) (map (λ c. c.clause) cs) (length cs)
claims_ran P db [] numbered h = swept_none P db numbered
claims_ran P db (c ∷ cs) numbered h =
    let first = claim_ran P db c numbered (All-head (IsClaim P db) c cs h) in
    let mid : Database = first.ran.end in
    let rest = claims_ran P mid cs first.ran.later.numbered (All-weaker (IsClaim P db) (IsClaim P mid) (λ d k. claim_later P db mid d first.ran.later k) cs (All-tail (IsClaim P db) c cs h)) in
    let whole = swept_then P db (c.step ∷ Out db.next ∷ []) (claim_steps mid.next cs) (c.clause ∷ []) (map (λ c. c.clause) cs) 1 (length cs) first rest in
    record {
      ran = record {
        end = whole.ran.end;
        runs = subst (λ (n : ℕ). Runs db (c.step ∷ Out db.next ∷ claim_steps n cs) (c.clause ∷ map (λ c. c.clause) cs) whole.ran.end) first.ran.next whole.ran.runs;
        later = whole.ran.later;
        next = omega (arith, whole.ran.next);
      };
      swept = whole.swept;
      unmarked = whole.unmarked;
    }
