-- What steps of a derivation leave of a database.
use Rattle.std.proofs.Common.{◌≡◌, ◌≤◌, ◌<◌, ◌+◌, ◌⊎◌, inl, inr, ℕ, true, List, [], ◌∷◌, sym, subst, arith, get_or, eqb}
use Rattle.std.specs.Prelude.{All, count_by}
use Rattle.std.proofs.lemmas.Bool.{or_right}
use Rattle.std.proofs.lemmas.List.Elements.{All-nil, All-cons, All-append, All-map, All-weaker}
use Rattle.pb_base.specs.declared.literal.Lit.{Lit}
use Rattle.pb_norm.specs.Constraints.{Constraint}
use Rattle.pb_norm.specs.Halves.{written}
use Rattle.pb_steps.specs.declared.step.Step.{Step}
use Rattle.pb_steps.specs.declared.step.Step.TheVariants.{Blank, Head, Loaded, Pol, Rup, Red, Del, Out, End}
use Rattle.pb_steps.specs.Steps.{takes_id}
use Rattle.pb_steps.specs.Database.{Entry, Database, entry, grown, mark}
use Rattle.pb_steps.specs.Allowed.{Allowed}
use Rattle.pb_steps.specs.Runs.{Runs, next_clause, clauses_after}
use Rattle.pb_derive.specs.Derivations.{Derives}
use Rattle.pb_derive.specs.inner.Ran.{RanSwept}
use Rattle.pb_derive.proofs.Deleted.{reduced_all}
use Rattle.pb_derive.proofs.FollowedBy.{runs_next}

-- its id meets S or is new, or it was put out
abbrev Left : (ℕ → Type 0) → ℕ → Entry → Type 0
Left S n e = (S e.id ⊎ (n ≤ e.id)) ⊎ (e.out ≡ true)

abbrev AreLeft : (ℕ → Type 0) → ℕ → Database → Type 0
AreLeft S n db = (n ≤ db.next) × All (Left S n) db.live

left_grown : (S : ℕ → Type 0) (n : ℕ) (db end : Database) (d : Constraint) → end ≡ grown db d → AreLeft S n db → AreLeft S n end
left_grown S n db end d is h =
    let low = h.0 in
    let up : n ≤ db.next + 1 = omega (arith, low) in
    subst (AreLeft S n) (sym is) (up, All-append (Left S n) db.live (entry db.next d ∷ []) h.1 (All-cons (Left S n) (entry db.next d) [] (inl (inr low)) (All-nil (Left S n))))

left_marked : (S : ℕ → Type 0) (n id : ℕ) (e : Entry) → Left S n e → Left S n (mark id e)
left_marked S n id e (inl kept) = inl kept
left_marked S n id e (inr out) = inr (or_right (eqb e.id id) e.out out)

left_allowed : (S : ℕ → Type 0) (n : ℕ) (db end : Database) (s : Step) (cs : List (List Lit)) → Allowed db s (next_clause cs) end → AreLeft S n db → AreLeft S n end
left_allowed S n db end Blank cs h left = subst (AreLeft S n) (sym h.rule) left
left_allowed S n db end Head cs h left = absurd h.rule
left_allowed S n db end (Loaded count) cs h left = absurd h.rule
left_allowed S n db end (Pol ops) cs h left = left_grown S n db end h.rule.sum h.rule.after left
left_allowed S n db end (Rup ts right ids) cs h left = left_grown S n db end (written ts right) h.rule.after left
left_allowed S n db end (Red ts right sets) cs h left = left_grown S n db end (written ts right) h.rule.after left
left_allowed S n db end (Del ids) cs h left = subst (AreLeft S n) (sym h.rule.after) (left.0, reduced_all (Left S n) db ids left.1)
left_allowed S n db end (Out id) cs h left =
    subst (AreLeft S n) (sym h.rule.after) (left.0, All-map (Left S n) (mark id) db.live (All-weaker (Left S n) (λ e. Left S n (mark id e)) (left_marked S n id) db.live left.1))
left_allowed S n db end End cs h left = absurd h.rule

left_runs : (S : ℕ → Type 0) (n : ℕ) (db end : Database) (ss : List Step) (cs : List (List Lit)) → Runs db ss cs end → AreLeft S n db → AreLeft S n end
left_runs S n db end [] cs h left = subst (AreLeft S n) (sym h.1) left
left_runs S n db end (s ∷ ss) cs h left = left_runs S n h.0 end ss (clauses_after s cs) h.2 (left_allowed S n db h.0 s cs h.1 left)

early : (S : ℕ → Type 0) (n : ℕ) (e : Entry) → Left S n e → (e.id < n) ⊎ (e.out ≡ true) → S e.id ⊎ (e.out ≡ true)
early S n e (inr out) known = inr out
early S n e (inl (inl own)) known = inl own
early S n e (inl (inr new)) (inl old) = absurd (omega (arith, new, old))
early S n e (inl (inr new)) (inr out) = inr out

-- what stood before is left, whatever it is
pub derives_swept : (db : Database) (ss : List Step) (cs : List (List Lit)) (limit : ℕ) → Derives db ss cs limit → RanSwept (λ v. v < limit) db ss cs (count_by takes_id ss)
derives_swept db ss cs limit h = record {
  ran = record { end = h.end; runs = h.runs; later = h.later; next = runs_next db ss cs h.end h.runs };
  swept = λ S s.
      let first : AreLeft S db.next db = ((let same : db.next ≤ db.next = omega arith in same), All-weaker (λ (e : Entry). S e.id ⊎ (e.out ≡ true)) (Left S db.next) (λ e known. elim known as (λ _. Left S db.next e) [ inl own ↦ inl (inl own) | inr out ↦ inr out ]) db.live s) in
      let last : AreLeft S db.next h.end = left_runs S db.next db h.end ss cs h.runs first in
      λ k d w. early S db.next (get_or h.end.live k d) (last.1 k d w) (h.swept k d w);
  unmarked = h.unmarked;
}

pub swept_derives : (db : Database) (ss : List Step) (cs : List (List Lit)) (limit n : ℕ) → All (λ e. e.id < db.next) db.live → RanSwept (λ v. v < limit) db ss cs n → Derives db ss cs limit
swept_derives db ss cs limit n numbered h = record {
  end = h.ran.end;
  runs = h.ran.runs;
  later = h.ran.later;
  swept = h.swept (λ id. id < db.next) (All-weaker (λ (e : Entry). e.id < db.next) (λ (e : Entry). (e.id < db.next) ⊎ (e.out ≡ true)) (λ e below. inl below) db.live numbered);
  unmarked = h.unmarked;
}
