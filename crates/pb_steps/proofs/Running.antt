-- Every solution of the loaded constraints extends to a model of the clauses that an accepted run put out.
use Rattle.std.proofs.Common.{◌≡◌, ◌<◌, ◌+◌, ℕ, true, List, [], ◌∷◌, refl, ap, sym, ◌∙◌, subst}
use Rattle.std.specs.Prelude.{All, Some}
use Rattle.std.proofs.lemmas.List.Elements.{All-nil, All-cons, All-weaker}
use Rattle.pb_base.specs.declared.literal.Lit.{Lit}
use Rattle.pb_base.specs.Literals.{Assignment, clause_value}
use Rattle.pb_norm.specs.Constraints.{Constraint, IsAscending, Solves}
use Rattle.pb_norm.specs.ClauseForm.{clause_form}
use Rattle.pb_norm.proofs.ClauseLaws.{clause_holds}
use Rattle.pb_steps.specs.declared.step.Step.{Step}
use Rattle.pb_steps.specs.declared.step.Step.TheVariants.{Blank, Head, Loaded, Pol, Rup, Red, Del, Out, End}
use Rattle.pb_steps.specs.Operations.{Implies}
use Rattle.pb_steps.specs.Database.{Entry, Database, live_constraints, constraint_at, numbered_from, loaded_database}
use Rattle.pb_steps.specs.Runs.{next_clause, clauses_after, Runs}
use Rattle.pb_steps.specs.RunLaws.{AcceptedExtends}
use Rattle.pb_steps.proofs.Implying.{implied_holds}
use Rattle.pb_steps.proofs.Good.{IsGood, AllGood, OptionGood, at-good}
use Rattle.pb_steps.proofs.Growing.{Extended, unchanged, step-extended}
use Rattle.pb_steps.proofs.Keeping.{Kept, put_out-kept, step-kept}

pub run-extended : (db : Database) (ss : List Step) (cs : List (List Lit)) (end : Database) (a : Assignment) → Runs db ss cs end → AllGood a (live_constraints db.live) → Extended db a end
run-extended db [] cs end a run h = subst (Extended db a) (sym run.1) (unchanged db a db h refl)
run-extended db (s ∷ ss) cs end a run h =
    let first = step-extended db s (next_clause cs) run.0 a run.1.rule h in
    let rest = run-extended run.0 ss (clauses_after s cs) end first.assignment run.2 first.good in
    record {
      assignment = rest.assignment;
      agrees = λ v k. first.agrees v k ∙ rest.agrees v (subst (λ (n : ℕ). v < n + 1) (sym first.original) k);
      good = rest.good;
      original = rest.original ∙ first.original;
    }

run-kept : (db : Database) (ss : List Step) (cs : List (List Lit)) (end : Database) (id : ℕ) (c : Constraint) → Runs db ss cs end → Kept id c db.live → Kept id c end.live
run-kept db [] cs end id c run k = subst (λ (d : Database). Kept id c d.live) (sym run.1) k
run-kept db (s ∷ ss) cs end id c run k = run-kept run.0 ss (clauses_after s cs) end id c run.2 (step-kept db s (next_clause cs) run.0 id c run.1.rule k)

-- ---- each clause has a constraint that stands at the end

record IsBacked (end : Database) (clause : List Lit) : Type 0 where
  pub id : ℕ
  pub constraint : Constraint
  pub kept : Kept id constraint end.live
  pub implied : Implies constraint (clause_form clause)

run-backed : (db : Database) (ss : List Step) (cs : List (List Lit)) (end : Database) → Runs db ss cs end → All (IsBacked end) cs
run-backed db [] cs end run = subst (All (IsBacked end)) (sym run.0) (All-nil (IsBacked end))
run-backed db (Blank ∷ ss) cs end run = run-backed run.0 ss cs end run.2
run-backed db (Pol ops ∷ ss) cs end run = run-backed run.0 ss cs end run.2
run-backed db (Rup ts right ids ∷ ss) cs end run = run-backed run.0 ss cs end run.2
run-backed db (Red ts right sets ∷ ss) cs end run = run-backed run.0 ss cs end run.2
run-backed db (Del ids ∷ ss) cs end run = run-backed run.0 ss cs end run.2
run-backed db (Out id ∷ ss) [] end run = All-nil (IsBacked end)
run-backed db (Out id ∷ ss) (c ∷ cs) end run =
    let rule = run.1.rule in
    let same : c ≡ rule.literals = cc rule.is_next in
    let now : Kept id rule.constraint run.0.live = subst (λ (d : Database). Kept id rule.constraint d.live) (sym rule.after) (put_out-kept db.live id rule.constraint rule.found) in
    let backed : IsBacked end c = record {
      id = id;
      constraint = rule.constraint;
      kept = run-kept run.0 ss cs end id rule.constraint run.2 now;
      implied = subst (λ (ls : List Lit). Implies rule.constraint (clause_form ls)) (sym same) rule.implied;
    } in
    All-cons (IsBacked end) c cs backed (run-backed run.0 ss cs end run.2)
run-backed db (Head ∷ ss) cs end run = absurd run.1.rule
run-backed db (Loaded count ∷ ss) cs end run = absurd run.1.rule
run-backed db (End ∷ ss) cs end run = absurd run.1.rule

-- ---- the theorem

found-good : (b : Assignment) (es : List Entry) (id : ℕ) (c : Constraint) → AllGood b (live_constraints es) → constraint_at es id ≡ Some c → IsGood b c
found-good b es id c h e = subst (OptionGood b) e (at-good b es id h)

numbered_from-constraints : (n : ℕ) (cs : List Constraint) → live_constraints (numbered_from n cs) ≡ cs
numbered_from-constraints n [] = refl
numbered_from-constraints n (c ∷ cs) = ap (λ (ds : List Constraint). c ∷ ds) (numbered_from-constraints (n + 1) cs)

good-loaded : (a : Assignment) (cs : List Constraint) → All (λ c. IsAscending c.terms) cs → Solves a cs → AllGood a cs
good-loaded a cs ascending h = λ k d below. record { holds = h k d below; ascending = ascending k d below }

pub accepted_extends : AcceptedExtends
accepted_extends original vars loaded steps cs end ascending run a solves =
    let good : AllGood a (live_constraints (numbered_from 1 loaded)) = subst (AllGood a) (sym (numbered_from-constraints 1 loaded)) (good-loaded a loaded ascending solves) in
    let extended = run-extended (loaded_database original vars loaded) steps cs end a run good in
    let b : Assignment = extended.assignment in (
      b,
      extended.agrees,
      All-weaker (IsBacked end) (λ c. clause_value b c ≡ true)
          (λ c backed.
          let live : IsGood b backed.constraint = found-good b end.live backed.id backed.constraint extended.good backed.kept.found in
          (clause_holds c (clause_form c) refl b).0 (implied_holds b backed.constraint (clause_form c) live.ascending backed.implied live.holds))
          cs (run-backed (loaded_database original vars loaded) steps cs end run),
    )
