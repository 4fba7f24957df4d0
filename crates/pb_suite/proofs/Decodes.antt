-- A command that is to decode a solution says its text.
use Rattle.std.proofs.Common.{◌≡◌, ◌∙◌, ◌∷◌, ◌++◌, ℕ, ℤ, List, Option, Some, None, Result, Ok, Err, refl, subst, sym}
use Rattle.std.specs.Prelude.{All, IfSome}
use Rattle.std.proofs.lemmas.List.Elements.{All-contains, Contains-append_right}
use Rattle.pb_base.specs.declared.problem.Problem.{Problem}
use Rattle.pb_base.specs.declared.problem.Raw.{Raw}
use Rattle.pb_base.specs.Literals.{assigned_by, Assignment}
use Rattle.pb_base.specs.Problems.{Satisfies, widened}
use Rattle.pb_base.proofs.Members.{Contains-here}
use Rattle.pb_desk.specs.View.{Told}
use Rattle.pb_desk.specs.Desk.{DeskState, IfTold}
use Rattle.pb_desk.proofs.Tells.{in_told}
use Rattle.pb_model.specs.declared.decoding.Decoded.TheVariants as decoded
use Rattle.pb_model.specs.declared.model.Model.{Model}
use Rattle.pb_model.specs.Decoding.{IsDecoded, IsFirstViolated}
use Rattle.pb_model.specs.ModelReading.{told}
use Rattle.pb_model.specs.SolutionText.{solution_text}
use Rattle.pb_words.specs.DecodeWords.{DecodeWords}
use Rattle.pb_suite.specs.declared.outcome.Outcome.{Outcome}
use Rattle.pb_suite.specs.Implementing.{Answers, Implements}
use Rattle.pb_suite.specs.Implementing.Answers.{done as all_done, refused, read_fault as not_read, write_fault as unwritten, no_memory as wanting}
use Rattle.pb_suite.specs.Outputs.{only_words, Adds, Output}
use Rattle.pb_suite.specs.CommandSpec.{CommandSpec, Shelf}
use Rattle.pb_suite.specs.DecodeSpec.{decode_spec, IsAnswered, StopsDecode}
use Rattle.pb_suite.specs.DecodeSpec.StopsDecode.{unread, unanswered, no_model, violated}
use Rattle.pb_suite.specs.Denoted.{IsDenoted, Denotes}
use Rattle.pb_suite.specs.Refusals.{IsUnread, RefusesModel}
use Rattle.pb_suite.specs.Refusals.RefusesModel.{token as model_token, limit as model_limit}
use Rattle.pb_suite.specs.SaidSolutions.{IsDue, SaidOf, SaysOnly}
use Rattle.pb_suite.specs.SaidSolutions.SaysOnly.{done, read_fault, write_fault, no_memory}
use Rattle.pb_suite.proofs.DenotedProblems.{denotes_one}
use Rattle.pb_suite.proofs.Unread.{same_some, unread_posed, unread_read}

-- ---- what texts say is one thing

pub same_ok : {X Y : Type 0} (r : Result X Y) (x y : X) → r ≡ Ok x → r ≡ Ok y → x ≡ y
same_ok r x y first second = let same : Ok x ≡ Ok y = sym first ∙ second in cc

pub not_err : {X Y : Type 0} (r : Result X Y) (x : X) (y : Y) → r ≡ Ok x → r ≡ Err y → ⊥
not_err r x y first second = let no : Ok x ≡ Err y = sym first ∙ second in cc

pub same_posed : (shelf : Shelf) (name : List ℕ) (bound : Option ℤ) (p q : Problem) → IsDenoted shelf name bound p → IsDenoted shelf name bound q → p ≡ q
same_posed shelf name bound p q denoted other =
    let text : other.text ≡ denoted.text = same_some (shelf name) other.text denoted.text other.on_shelf denoted.on_shelf in
    denotes_one bound denoted.text p q denoted.denotes (subst (λ (xs : List ℕ). Denotes bound xs q) text other.denotes)

pub same_told : (shelf : Shelf) (w : DecodeWords) (p : Problem) (m n : Model) → IsAnswered shelf w p m → IsAnswered shelf w p n → m ≡ n
same_told shelf w p m n answered other =
    let text : other.text ≡ answered.text = same_some (shelf w.model) other.text answered.text other.on_shelf answered.on_shelf in
    same_ok (told p.vars answered.text) m n answered.says (subst (λ (xs : List ℕ). told p.vars xs ≡ Ok n) text other.says)

pub model_refuses_none : (vars : ℕ) (text : List ℕ) (m : Model) (answer : Outcome) → told vars text ≡ Ok m → RefusesModel vars text answer → ⊥
model_refuses_none vars text m _ says (model_token place e first) = not_err (told vars text) m _ says first
model_refuses_none vars text m _ says (model_limit place which first) = not_err (told vars text) m _ says first

-- values that are a solution violate nothing
pub none_violated : (a : Assignment) (statements : List Raw) (number : ℕ) → All (Satisfies a) statements → IsFirstViolated a statements number → ⊥
none_violated a statements number all first =
    first.violated (All-contains (Satisfies a) (first.before ++ first.statement ∷ first.after) first.statement (subst (λ (xs : List Raw). All (Satisfies a) xs) first.cut all)
    (Contains-append_right first.before (first.statement ∷ first.after) first.statement (Contains-here first.statement first.after)))

-- ---- what is due

module _ (w : DecodeWords) (shelf : Shelf) (p : Problem) (m : Model) (answered : IsAnswered shelf w p m) (solution : IsDecoded p m decoded.Solution) where
  -- what holds of the problem and the model that the texts say
  of_same : (q : Problem) (n : Model) (P : Problem → Model → Type 0) → IsAnswered shelf w q n → P q n → P p m
  of_same q n P other holds =
      let problems : q ≡ p = same_posed shelf w.opb w.bound q p other.denoted answered.denoted in
      let models : n ≡ m = sym (same_told shelf w p m n answered (subst (λ (r : Problem). IsAnswered shelf w r n) problems other)) in
      subst (P p) models (subst (λ (r : Problem). P r n) problems holds)

  only_due : (out : Output) → (decode_spec w).done shelf out → out ≡ only_words (solution_text p m.values)
  only_due out (q, n, comes, is) = of_same q n (λ r k. out ≡ only_words (solution_text r k.values)) comes.answered is

  never_stops : (answer : Outcome) → StopsDecode shelf w answer → ⊥
  never_stops answer (unread _ is) = unread_posed shelf w.opb w.bound p answer is answered.denoted
  never_stops answer (unanswered q _ denoted is) =
      unread_read shelf w.model answered.text (RefusesModel p.vars) answer answered.on_shelf (model_refuses_none p.vars answered.text m answer answered.says)
      (subst (λ (r : Problem). IsUnread shelf w.model (RefusesModel r.vars) answer) (same_posed shelf w.opb w.bound q p denoted answered.denoted) is)
  never_stops _ (no_model q n comes) = of_same q n (λ r k. IsDecoded r k decoded.NoModel) comes.answered comes.decoded solution.0
  never_stops _ (violated q n statement comes) =
      none_violated (assigned_by (widened p m.values)) p.statements statement solution.1.statements (of_same q n (λ r k. IsDecoded r k (decoded.Violates statement)) comes.answered comes.decoded).1

  solution_is_due : IsDue (decode_spec w) shelf (only_words (solution_text p m.values))
  solution_is_due = record {
    done = (p, m, record { answered = answered; decoded = solution }, refl);
    only = only_due;
    goes_on = never_stops;
  }

-- ---- how a run ends

-- where exactly this line is due, it was said, or a call failed, or memory was wanting
pub ends_saying : (o : CommandSpec) (a b : DeskState) (t : Told) (line : List ℕ) → a.view.told ≡ Some t → IsDue o t.shelf (only_words line) → (answer : Outcome) → Answers o a b answer → SaysOnly line a b answer
ends_saying o a b t line is due _ (all_done out has adds keeps) = done (subst (λ (x : Output). Adds x a b) (due.only out (in_told a t (λ u. o.done u.shelf out) is has)) adds)
ends_saying o a b t line is due answer (refused _ refusal stops adds) = absurd (due.goes_on answer (in_told a t (λ u. o.stops u.shelf answer) is stops))
ends_saying o a b t line is due _ (not_read adds) = read_fault adds
ends_saying o a b t line is due _ (unwritten out part adds) = write_fault
ends_saying o a b t line is due _ (wanting out part adds held silent) = no_memory

pub obeyed_says : (w : DecodeWords) (a b : DeskState) (answer : Outcome) → Implements (decode_spec w) a b answer → IfTold a (SaidOf w a b answer)
obeyed_says w a b answer implements = by_told a.view.told refl
  where
    by_told : (told : Option Told) → a.view.told ≡ told → IfSome told (SaidOf w a b answer)
    by_told None is = tt
    by_told (Some t) is = λ p m answered says solution.
        let due = solution_is_due w t.shelf p m answered (says, solution) in
        (due, ends_saying (decode_spec w) a b t (solution_text p m.values) is due answer implements.answers)
