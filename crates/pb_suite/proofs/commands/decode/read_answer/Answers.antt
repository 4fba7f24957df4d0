use Rattle.std.proofs.Common.{◌≡◌, ℕ, List, Some, None, Err, ap, length, refl, sym, subst}
use Rattle.pb_base.specs.declared.file.File.TheVariants.{Model}
use Rattle.pb_base.specs.declared.limit.LimitKind.TheVariants.{Text}
use Rattle.pb_desk.specs.Desk.{DeskState, IfTold}
use Rattle.pb_model.specs.declared.fault.ModelFault.{ModelFault}
use Rattle.pb_model.specs.declared.fault.ModelFault.TheVariants as model
use Rattle.pb_model.specs.ModelReading.{told, IsFaultOf}
use Rattle.pb_suite.specs.declared.outcome.Outcome.{Outcome}
use Rattle.pb_suite.specs.declared.outcome.Outcome.TheVariants as outcome
use Rattle.pb_suite.specs.Refusals.{RefusesModel}
use Rattle.pb_suite.specs.inner.Runs.{fetched, model_refusal, Fetches, IsTooLong, StopsReading}
use Rattle.pb_suite.specs.inner.Runs.RefusesFile.{token as at_token, limit as at_limit}
use Rattle.pb_suite.specs.Refusals.RefusesModel.{token, limit}
use Rattle.pb_suite.specs.inner.Runs.StopsReading.{no_memory, refused}
use Rattle.pb_suite.proofs.DecodeSpecs.{too_long as told_too_long}
use Rattle.pb_suite.proofs.Fetching.{reading_weaker}
use Rattle.pb_suite.specs.Seen.{seen_from}
use Rattle.pb_suite.proofs.SeenLemmas.{reads_seen}
use Rattle.pb_suite.proofs.Texts.{has_text}
use Rattle.pb_suite.proofs.commands.decode.read_answer.Goals as goal

-- a text that was read whole, and has a fault
stops_at : (vars slot : ℕ) (name text : List ℕ) (a b : DeskState) (fault : ModelFault) → Fetches slot name (length text) a b → IfTold a (λ t. t.shelf name ≡ Some text)
    → IsFaultOf (told vars text) fault → StopsReading Model slot name (RefusesModel vars) a b (model_refusal fault)
stops_at vars slot name text a b (model.Token place e) reached is first =
    refused (length text) _ (at_token place e) reached (has_text a name text (λ xs. RefusesModel vars xs (model_refusal (model.Token place e))) (token place e (first (λ no. cc))) is)
stops_at vars slot name text a b (model.Limit place which) reached is first =
    refused (length text) _ (at_limit place which) reached (has_text a name text (λ xs. RefusesModel vars xs (model_refusal (model.Limit place which))) (limit place which (first (λ no. cc))) is)
stops_at vars slot name text a b model.NoMemory reached is first = no_memory (length text) reached

too_long : (vars : ℕ) (text : List ℕ) (answer : Outcome) → IsTooLong Model text answer → RefusesModel vars text answer
too_long vars text answer is = subst (RefusesModel vars text) (sym is.0) (limit None Text (told_too_long vars text is.1))

pub returns-in-Err-clause-stopped : goal.returns-in-Err-clause-stopped
returns-in-Err-clause-stopped g c = reading_weaker Model c.args.slot c.args.name.now (IsTooLong Model) (RefusesModel c.args.vars) (too_long c.args.vars) _ _ c.in-Err.outcome c.in-Err.ensures.stopped

pub returns-in-Err-clause-steady : goal.returns-in-Err-clause-steady
returns-in-Err-clause-steady g c = λ steady is.
    let same : c.in-Err.outcome ≡ outcome.ReadFault = cc in
    c.in-Err.ensures.steady steady (ap Err same)

pub returns-in-Err-clause-unended : goal.returns-in-Err-clause-unended
returns-in-Err-clause-unended g c = λ is.
    let same : c.in-Err.outcome ≡ outcome.ReadFault = cc in
    c.in-Err.ensures.unended (ap Err same)

pub returns-clause-stopped : goal.returns-clause-stopped
returns-clause-stopped g c =
    let d = g.D.Desk.state c.read_text.new.desk in
    let a = seen_from d (g.D.Desk.state c.args.desk.now) in
    let b = seen_from d d in
    let fetches = reads_seen (fetched c.args.slot c.args.name.now (length c.in-Ok.text)) (λ v. refl) (g.D.Desk.state c.args.desk.now) d d c.in-Ok.ensures.fetched in
    let name = c.args.name.now in
    let text = c.in-Ok.text in
    let first = subst (λ (xs : List ℕ). IsFaultOf (told c.args.vars xs) c.in-Err-read_model.fault) c.as_slice.ensures c.in-Err-read_model.ensures.fault in
    subst (StopsReading Model c.args.slot name (RefusesModel c.args.vars) a b) (sym c.model_refusal.ensures)
    (stops_at c.args.vars c.args.slot name text a b c.in-Err-read_model.fault fetches c.in-Ok.ensures.text first)
