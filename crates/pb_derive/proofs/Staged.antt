-- A stage of a derivation runs: what it adds is held, but for what it puts out and deletes.
use Rattle.std.proofs.Common.{◌≡◌, ◌≢◌, ◌≤◌, ℕ, List, [], ◌∷◌, ◌++◌, refl, ◌∙◌, subst, append-nil}
use Rattle.std.specs.Prelude.{All, AllPairs, None}
use Rattle.pb_base.specs.declared.literal.Lit.{Lit}
use Rattle.pb_norm.specs.Constraints.{Constraint}
use Rattle.pb_steps.specs.declared.step.Step.{Step}
use Rattle.pb_steps.specs.declared.step.Step.TheVariants.{Del}
use Rattle.pb_steps.specs.Database.{Database, constraint_at, reduced}
use Rattle.pb_steps.specs.Runs.{Runs}
use Rattle.pb_derive.specs.Later.{Knows}
use Rattle.pb_derive.specs.Outputs.{Output, clauses_of, output_steps}
use Rattle.pb_derive.specs.Stages.{stage_steps}
use Rattle.pb_derive.proofs.Deleted.{at_reduced}
use Rattle.pb_derive.proofs.Holding.{IsHolding, IsOutput, IsNotOut, OrBetween, LeftOut, put_out, put_out-at, put_out-next, put_out_runs, holding_same, holding_added, holding_put_out, holding_deleted, deleted_allowed}
use Rattle.pb_derive.proofs.IdRanges.{IsOff}
use Rattle.pb_derive.proofs.Lines.{Added}
use Rattle.pb_derive.proofs.Running.{runs_append}

-- Where L is held and the ids from n to m are added, M is what is left without the outputs and what is deleted.
pub record IsLeft (L : ℕ → Type 0) (n m : ℕ) (outputs : List Output) (deleted : List ℕ) (M : ℕ → Type 0) : Type 0 where
  pub deleted_held : All (λ i. OrBetween L n m i × IsNotOut outputs i) deleted
  pub once : AllPairs (λ i j. i ≢ j) deleted
  pub left : (i : ℕ) → OrBetween L n m i → IsNotOut outputs i → IsOff deleted i → M i
  pub kept : (i : ℕ) → M i → OrBetween L n m i × IsNotOut outputs i × IsOff deleted i

pub record Staged (P : ℕ → Type 0) (base db mid : Database) (steps : List Step) (outputs : List Output) (deleted : List ℕ) (M : ℕ → Type 0) : Type 1 where
  pub end : Database
  pub runs : Runs db steps (clauses_of outputs) end
  pub holding : IsHolding P base end M
  pub next : end.next ≡ mid.next
  pub stands : (i : ℕ) → IsOff deleted i → constraint_at end.live i ≡ constraint_at mid.live i

pub staged : (P : ℕ → Type 0) (base db : Database) (L M : ℕ → Type 0) (ss : List Step) (k : ℕ) (outputs : List Output) (deleted : List ℕ) → IsHolding P base db L → (h : Added P db ss k) → All (IsOutput h.ran.end) outputs
    → All (λ u. base.next ≤ u.id) outputs → IsLeft L db.next h.ran.end.next outputs deleted M → Staged P base db h.ran.end (stage_steps ss outputs deleted) outputs deleted M
staged P base db L M ss k outputs deleted holding h given low left =
    let mid : Database = h.ran.end in
    let top : Database = put_out mid outputs in
    let end : Database = reduced top deleted in
    let Now : ℕ → Type 0 = OrBetween L db.next mid.next in
    let InTop : ℕ → Type 0 = λ i. Now i × IsNotOut outputs i in
    let clauses = clauses_of outputs in
    let more = holding_added P base db L ss k holding h in
    let out = holding_put_out P base mid Now outputs low more in
    let less = holding_deleted P base top InTop deleted left.deleted_held out in
    let last : Runs top (Del deleted ∷ []) [] end = (end, deleted_allowed P base top InTop deleted None left.deleted_held left.once out, (refl, refl)) in
    let tail : Runs mid (output_steps outputs ++ Del deleted ∷ []) clauses end =
    subst (λ (cs : List (List Lit)). Runs mid (output_steps outputs ++ Del deleted ∷ []) cs end) (append-nil clauses) (runs_append mid top end (output_steps outputs) (Del deleted ∷ []) clauses [] (put_out_runs mid outputs given) last) in
    record {
      end = end;
      runs = runs_append db mid end ss (output_steps outputs ++ Del deleted ∷ []) [] clauses h.ran.runs tail;
      holding = holding_same P P base end (LeftOut InTop deleted) M (λ v p. p) (λ i m. left.left i m.0.0 m.0.1 m.1) (λ i m. let k = left.kept i m in ((k.0, k.1), k.2)) less;
      next = put_out-next mid outputs;
      stands = λ i off. at_reduced top deleted i off ∙ put_out-at mid outputs i;
    }

-- what is known and not deleted stays known
pub staged_knows : (P : ℕ → Type 0) (base db mid : Database) (steps : List Step) (outputs : List Output) (deleted : List ℕ) (M : ℕ → Type 0) (h : Staged P base db mid steps outputs deleted M) (id : ℕ) (s : Constraint) → IsOff deleted id → Knows mid id s → Knows h.end id s
staged_knows P base db mid steps outputs deleted M h id s off known = (known.0, h.stands id off ∙ known.1, known.2)
