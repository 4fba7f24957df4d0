-- What holds of a desk holds of it as it is seen from a later state.
use Rattle.std.proofs.Common.{◌≡◌, ◌∙◌, ℕ, Bool, true, false, List, take, refl, sym, ap, subst}
use Rattle.std.specs.Prelude.{IfSome, IsTrue, is_some, if◌then◌else◌}
use Rattle.std.proofs.lemmas.Bool.{false≢true}
use Rattle.pb_desk.specs.View.{Told, View}
use Rattle.pb_desk.specs.Desk.{DeskState, FailsToRead, FailsToWrite, IfKept, IfTold, IsClosed, IsSteady, Reaches, Reads, StopsIn}
use Rattle.pb_suite.specs.Seen.{hidden, seen_from, Stays}

-- the change does to a view that tells nothing what it does to one that tells
abbrev pub Commutes : (View → View) → Type 0
Commutes f = (v : View) → hidden (f v) ≡ f (hidden v)

view_seen : (f : View → View) (keeps : Bool) (v w : View) → Commutes f → w ≡ f v → (if keeps then w else hidden w) ≡ f (if keeps then v else hidden v)
view_seen f true v w goes is = is
view_seen f false v w goes is = ap hidden is ∙ goes v

tells_seen : (keeps : Bool) (v w : View) → is_some w.told ≡ is_some v.told → is_some (if keeps then w else hidden w).told ≡ is_some (if keeps then v else hidden v).told
tells_seen true v w is = is
tells_seen false v w is = refl

module _ (f : View → View) (goes : Commutes f) (a b d : DeskState) where
  pub reads_seen : Reads f a b → Reads f (seen_from d a) (seen_from d b)
  reads_seen h = record { view = view_seen f d.keeps a.view b.view goes h.view; tells = tells_seen d.keeps a.view b.view h.tells; reads = h.reads; writes = h.writes; kept = λ k. refl }

  pub reaches_seen : Reaches f a b → Reaches f (seen_from d a) (seen_from d b)
  reaches_seen h = record { view = view_seen f d.keeps a.view b.view goes h.view; tells = tells_seen d.keeps a.view b.view h.tells; reads = h.reads; writes = h.writes; ended = h.ended; keeps = refl }

  pub unread_seen : FailsToRead f a b → FailsToRead f (seen_from d a) (seen_from d b)
  unread_seen h = record { view = view_seen f d.keeps a.view b.view goes h.view; tells = tells_seen d.keeps a.view b.view h.tells; reads = h.reads; writes = h.writes; kept = λ k. refl }

  pub unwritten_seen : FailsToWrite f a b → FailsToWrite f (seen_from d a) (seen_from d b)
  unwritten_seen h = record { view = view_seen f d.keeps a.view b.view goes h.view; tells = tells_seen d.keeps a.view b.view h.tells; reads = h.reads; writes = h.writes; ended = h.ended; keeps = refl }

pub stops_seen : (text : List ℕ) (change : List ℕ → View → View) → ((xs : List ℕ) → Commutes (change xs)) → (a b d : DeskState) → StopsIn text change a b → StopsIn text change (seen_from d a) (seen_from d b)
stops_seen text change goes a b d h = record { count = h.count; in_text = h.in_text; fails = unwritten_seen (change (take h.count text)) (goes (take h.count text)) a b d h.fails }

-- what is told, seen from a state up to which all was so
pub told_seen : (a b d : DeskState) (P : Told → Type 0) → (IsTrue d.keeps → IsTrue b.keeps) → IfKept a b P → IfTold (seen_from d a) P
told_seen a b d P before holds = by_cases d.keeps (λ k. holds (before k))
  where
    by_cases : (keeps : Bool) → (IsTrue keeps → IfTold a P) → IfSome (if keeps then a.view else hidden a.view).told P
    by_cases true h = h refl
    by_cases false h = tt

-- and back, where all was so
pub seen_told : (a b : DeskState) (P : Told → Type 0) → IfTold (seen_from b a) P → IfKept a b P
seen_told a b P holds k = subst (λ (keeps : Bool). IfSome (if keeps then a.view else hidden a.view).told P) k holds

-- seen from a later state still
pub told_on : (a b d : DeskState) (P : Told → Type 0) → (IsTrue d.keeps → IsTrue b.keeps) → IfTold (seen_from b a) P → IfTold (seen_from d a) P
told_on a b d P before holds = told_seen a b d P before (seen_told a b P holds)

-- what is so of a steady desk's view is so of it as it is seen
pub steady_seen : (a d : DeskState) (P : View → Type 0) → (IsSteady a → P a.view) → IsSteady (seen_from d a) → P (seen_from d a).view
steady_seen a d P gives = by_cases d.keeps
  where
    by_cases : (keeps : Bool) → IsTrue (if keeps then a.view else hidden a.view).steady → P (if keeps then a.view else hidden a.view)
    by_cases true steady = gives steady
    by_cases false steady = absurd (false≢true steady)

-- which slots are open is seen from every state
pub reading_seen : {known : Bool} (slot : ℕ) (a d : DeskState) → a.view.reading slot ≡ known → (seen_from d a).view.reading slot ≡ known
reading_seen {known} slot a d is = elim d.keeps as (λ (keeps : Bool). (if keeps then a.view else hidden a.view).reading slot ≡ known) [ true ↦ is | false ↦ is ]

-- seen from a state up to which all was as the desk tells, a desk is what it is
pub seen_whole : (a d : DeskState) → IsTrue d.keeps → IsTrue a.keeps → seen_from d a ≡ a
seen_whole a d later now = ap (λ (k : Bool). record a { view = if k then a.view else hidden a.view; keeps = true }) later ∙ ap (λ (k : Bool). record a { keeps = k }) (sym now)

-- so is what holds of it before and after
pub seen_both : (a d : DeskState) (P : DeskState → DeskState → Type 0) → IsTrue d.keeps → IsTrue a.keeps → P (seen_from d a) (seen_from d d) → P a d
seen_both a d P later now holds = subst (λ (s : DeskState). P s d) (seen_whole a d later now) (subst (P (seen_from d a)) (seen_whole d d later later) holds)

-- what is so of a steady desk is so of it as it is seen
pub so_seen : (a d : DeskState) → (IsTrue d.keeps → IsTrue a.keeps) → (P : DeskState → Type 0) → (IsSteady a → P a) → IsSteady (seen_from d a) → P (seen_from d a)
so_seen a d before P gives steady = by_cases d.keeps refl steady
  where
    by_cases : (keeps : Bool) → d.keeps ≡ keeps → IsTrue (if keeps then a.view else hidden a.view).steady → P (seen_from d a)
    by_cases true is still = subst P (sym (seen_whole a d is (before is))) (gives still)
    by_cases false is still = absurd (false≢true still)

pub steady_was : (a d : DeskState) → IsSteady (seen_from d a) → IsSteady a
steady_was a d steady = by_cases d.keeps steady
  where
    by_cases : (keeps : Bool) → IsTrue (if keeps then a.view else hidden a.view).steady → IsSteady a
    by_cases true still = still
    by_cases false still = absurd (false≢true still)

pub writing_seen : {known : Bool} (slot : ℕ) (a d : DeskState) → a.view.writing slot ≡ known → (seen_from d a).view.writing slot ≡ known
writing_seen {known} slot a d is = elim d.keeps as (λ (keeps : Bool). (if keeps then a.view else hidden a.view).writing slot ≡ known) [ true ↦ is | false ↦ is ]

-- and is what is seen
pub writing_was : {known : Bool} (slot : ℕ) (a d : DeskState) → (seen_from d a).view.writing slot ≡ known → a.view.writing slot ≡ known
writing_was {known} slot a d = elim d.keeps as (λ (keeps : Bool). (if keeps then a.view else hidden a.view).writing slot ≡ known → a.view.writing slot ≡ known) [ true ↦ λ is. is | false ↦ λ is. is ]

pub closed_seen : (a d : DeskState) → IsClosed a → IsClosed (seen_from d a)
closed_seen a d closed = record { reading = λ slot. reading_seen slot a d (closed.reading slot); writing = λ slot. writing_seen slot a d (closed.writing slot) }

-- ---- what stays

-- the change makes no desk steady, and ends it for none
abbrev pub KeepsSteady : (View → View) → Type 0
KeepsSteady f = (v : View) → (f v).steady ≡ v.steady

module _ (f : View → View) (steadies : KeepsSteady f) (a b : DeskState) where
  steady_still : b.view ≡ f a.view → b.view.steady ≡ a.view.steady
  steady_still is = ap (λ (v : View). v.steady) is ∙ steadies a.view

  pub reads_stays : Reads f a b → Stays a b
  reads_stays h = record { kept = h.kept; still = steady_still h.view }

  pub reaches_stays : Reaches f a b → Stays a b
  reaches_stays h = record { kept = λ k. sym h.keeps ∙ k; still = steady_still h.view }

  pub unread_stays : FailsToRead f a b → Stays a b
  unread_stays h = record { kept = h.kept; still = steady_still h.view }

  pub unwritten_stays : FailsToWrite f a b → Stays a b
  unwritten_stays h = record { kept = λ k. sym h.keeps ∙ k; still = steady_still h.view }

pub stays_same : (a : DeskState) → Stays a a
stays_same a = record { kept = λ k. k; still = refl }

pub stays_then : (a b d : DeskState) → Stays a b → Stays b d → Stays a d
stays_then a b d first second = record { kept = λ k. first.kept (second.kept k); still = second.still ∙ first.still }
