-- How many ids steps take, and parts that follow one another.
use Rattle.std.proofs.Common.{◌≡◌, ◌+◌, ℕ, cond, List, [], ◌∷◌, ◌++◌, ap, ◌∙◌, subst, arith}
use Rattle.std.specs.Prelude.{Option, count_by}
use Rattle.std.proofs.lemmas.List.Sums.{sum_by-cons}
use Rattle.pb_base.specs.declared.literal.Lit.{Lit}
use Rattle.pb_steps.specs.declared.step.Step.{Step}
use Rattle.pb_steps.specs.declared.step.Step.TheVariants.{Blank, Head, Loaded, Pol, Rup, Red, Del, Out, End}
use Rattle.pb_steps.specs.Database.{Database}
use Rattle.pb_steps.specs.Allowed.{Allowed}
use Rattle.pb_steps.specs.Runs.{Runs, next_clause, clauses_after}
use Rattle.pb_derive.specs.FollowedBy.{followed_by}
use Rattle.pb_derive.specs.inner.Ran.{Ran, RanSwept}
use Rattle.pb_steps.specs.Steps.{takes_id}
use Rattle.pb_derive.specs.Later.{IsLater}
use Rattle.pb_derive.proofs.Running.{ran_then, swept_then}

allowed_next : (db : Database) (s : Step) (c : Option (List Lit)) (end : Database) → Allowed db s c end → end.next ≡ db.next + cond (takes_id s) 1 0
allowed_next db Blank c end h = ap (λ (d : Database). d.next) h.rule ∙ (omega arith)
allowed_next db Head c end h = absurd h.rule
allowed_next db (Loaded count) c end h = absurd h.rule
allowed_next db (Pol ops) c end h = ap (λ (d : Database). d.next) h.rule.after
allowed_next db (Rup ts right ids) c end h = ap (λ (d : Database). d.next) h.rule.after
allowed_next db (Red ts right sets) c end h = ap (λ (d : Database). d.next) h.rule.after
allowed_next db (Del ids) c end h = ap (λ (d : Database). d.next) h.rule.after ∙ (omega arith)
allowed_next db (Out id) c end h = ap (λ (d : Database). d.next) h.rule.after ∙ (omega arith)
allowed_next db End c end h = absurd h.rule

-- the next id has risen by the steps that take one
pub runs_next : (db : Database) (ss : List Step) (cs : List (List Lit)) (end : Database) → Runs db ss cs end → end.next ≡ db.next + count_by takes_id ss
runs_next db [] cs end h = ap (λ (d : Database). d.next) h.1 ∙ (omega arith)
runs_next db (s ∷ ss) cs end h =
    omega (arith, allowed_next db s (next_clause cs) h.0 h.1, runs_next h.0 ss (clauses_after s cs) end h.2, sum_by-cons (λ (s : Step). cond (takes_id s) 1 0) s ss)

module _ (P : ℕ → Type 0) where
  pub followed_ran : (db : Database) (f g : ℕ → List Step) (cs ds : List (List Lit)) (i j : ℕ) (h : Ran P db (f db.next) cs i) → Ran P h.end (g h.end.next) ds j → Ran P db (followed_by f g db.next) (cs ++ ds) (i + j)
  followed_ran db f g cs ds i j h k =
      subst (λ (n : ℕ). Ran P db (f db.next ++ g n) (cs ++ ds) (i + j)) (runs_next db (f db.next) cs h.end h.runs) (ran_then P db (f db.next) (g h.end.next) cs ds i j h k)

  pub followed_swept : (db : Database) (f g : ℕ → List Step) (cs ds : List (List Lit)) (i j : ℕ) (h : RanSwept P db (f db.next) cs i) → RanSwept P h.ran.end (g h.ran.end.next) ds j → RanSwept P db (followed_by f g db.next) (cs ++ ds) (i + j)
  followed_swept db f g cs ds i j h k =
      let whole = swept_then P db (f db.next) (g h.ran.end.next) cs ds i j h k in
      record {
        ran = record {
          end = whole.ran.end;
          runs = subst (λ (n : ℕ). Runs db (f db.next ++ g n) (cs ++ ds) whole.ran.end) (runs_next db (f db.next) cs h.ran.end h.ran.runs) whole.ran.runs;
          later = whole.ran.later;
          next = whole.ran.next;
        };
        swept = whole.swept;
        unmarked = whole.unmarked;
      }

pub swept_counted : (P : ℕ → Type 0) (db : Database) (ss : List Step) (cs : List (List Lit)) (i : ℕ) → RanSwept P db ss cs i → RanSwept P db ss cs (count_by takes_id ss)
swept_counted P db ss cs i h = record {
  ran = record { end = h.ran.end; runs = h.ran.runs; later = h.ran.later; next = runs_next db ss cs h.ran.end h.ran.runs };
  swept = h.swept;
  unmarked = h.unmarked;
}

-- what names few variables, names few of more
pub later_wider : (P Q : ℕ → Type 0) → ((v : ℕ) → P v → Q v) → (db end : Database) → IsLater P db end → IsLater Q db end
later_wider P Q wider db end h = record {
  original = h.original;
  vars = h.vars;
  next = h.next;
  numbered = h.numbered;
  stands = h.stands;
  unnamed = λ v other none. h.unnamed v (λ named. other (wider v named)) none;
}

pub swept_wider : (P Q : ℕ → Type 0) → ((v : ℕ) → P v → Q v) → (db : Database) (ss : List Step) (cs : List (List Lit)) (i : ℕ) → RanSwept P db ss cs i → RanSwept Q db ss cs i
swept_wider P Q wider db ss cs i h = record {
  ran = record { end = h.ran.end; runs = h.ran.runs; later = later_wider P Q wider db h.ran.end h.ran.later; next = h.ran.next };
  swept = h.swept;
  unmarked = h.unmarked;
}
