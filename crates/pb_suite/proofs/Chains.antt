-- What a solver answers is carried back.
use Rattle.std.proofs.Common.{◌≡◌, ◌≢◌, ◌∙◌, inl, inr, ◌∷◌, ◌++◌, [], ℕ, ℤ, Bool, true, false, cond, List, Option, Some, None, Result, Ok, Err, length, take, refl, subst, sym, ap, leb}
use Rattle.std.specs.Prelude.{Contains, nat_lt, ◌^◌, codes}
use Rattle.std.proofs.lemmas.List.Elements.{Contains-append_right}
use Rattle.pb_base.specs.declared.literal.Lit.{Lit}
use Rattle.pb_base.specs.declared.problem.Problem.{Problem}
use Rattle.pb_base.specs.Problems.{originals, IsSolution}
use Rattle.pb_base.proofs.Members.{Contains-here}
use Rattle.pb_desk.specs.View.{Made}
use Rattle.pb_desk.specs.Desk.{DeskState, IsTold}
use Rattle.pb_desk.proofs.Tells.{in_told}
use Rattle.pb_dimacs.specs.declared.head.CnfHead.{CnfHead}
use Rattle.pb_dimacs.specs.CnfReading.{CnfReads}
use Rattle.pb_dimacs.specs.CnfRows.{rows_of}
use Rattle.pb_dimacs.specs.CnfSymbols.{CnfSymbol, Start, start_of}
use Rattle.pb_dimacs.specs.CnfSymbols.Start.{told, wrong}
use Rattle.pb_dimacs.specs.CnfWhole.{told_after, told_of}
use Rattle.pb_dimacs.specs.CnfWhole.CnfTold.{says}
use Rattle.pb_dimacs.proofs.Unique.{says_one_thing}
use Rattle.pb_dimacs.proofs.Whole.{told_is_said}
use Rattle.pb_check.specs.KeptClauses.{SaysClauses}
use Rattle.pb_check.specs.Walk.{task_of, Accepts, WalksFrom, WalksBy}
use Rattle.pb_check.proofs.Accepted.{accepted, no-fault, no-cnf, head-run}
use Rattle.pb_encode.specs.Models.{IsModelOver}
use Rattle.pb_lrat.specs.LratWalk.{LratEnding as ending}
use Rattle.pb_base.specs.declared.limit.LimitKind.TheVariants.{Text}
use Rattle.pb_model.specs.declared.fault.ModelFault.{ModelFault}
use Rattle.pb_model.specs.declared.fault.ModelFault.TheVariants as fault
use Rattle.pb_model.specs.declared.model.Model.{Model}
use Rattle.pb_model.specs.ModelLines.{symbols_of}
use Rattle.pb_model.specs.ModelReading.{told as model_told, told_in}
use Rattle.pb_model.proofs.Told.{ok_covers}
use Rattle.pb_words.specs.EncodeWords.{EncodeWords}
use Rattle.pb_words.specs.RefuteWords.{RefuteWords}
use Rattle.pb_suite.specs.declared.outcome.Outcome.{Outcome}
use Rattle.pb_suite.specs.declared.outcome.Outcome.TheVariants as outcome
use Rattle.pb_suite.specs.Chain.{AmpleDesksSay, IsEncoded, IsRefutation, ModelsAreDecoded, RefutationsAreAnswered, RefutesOf, SaysOrWants}
use Rattle.pb_suite.specs.CommandSpec.{Shelf}
use Rattle.pb_suite.specs.CommandSpecs.{spec_of}
use Rattle.pb_suite.specs.Denoted.{Denotes}
use Rattle.pb_suite.specs.EncodeSpec.{file_of, proof_files}
use Rattle.pb_suite.specs.Headline.{MakesDerivation, MakesEncoding}
use Rattle.pb_suite.specs.Outputs.{only_words}
use Rattle.pb_suite.specs.RefuteSpec.{refute_spec, IsFollowed}
use Rattle.pb_suite.specs.SaidSolutions.{IsDue, SaysOnly}
use Rattle.pb_suite.specs.SaidSolutions.SaysOnly.{done, read_fault, write_fault, no_memory}
use Rattle.pb_suite.proofs.Amples.{ample_reads, ample_writes, in_is_told}
use Rattle.pb_suite.proofs.Decodes.{ends_saying, obeyed_says, same_posed}
use Rattle.pb_suite.proofs.Derives.{obeyed_derives}
use Rattle.pb_suite.proofs.Encodes.{obeyed_encodes}
use Rattle.pb_suite.proofs.OneDues.{one_refute}
use Rattle.pb_suite.proofs.Refutes.{no_solution}
use Rattle.pb_suite.proofs.Unread.{same_some}

-- ---- a CNF beside which a derivation is accepted tells all its clauses

from_head : (p : Problem) (cnf proof : List ℕ) (head : CnfHead) (symbols : List CnfSymbol) → start_of (rows_of cnf) ≡ told head symbols →
    (b : Bool) → leb (originals p) head.vars ≡ b → WalksFrom p (rows_of proof) head symbols b accepted → (clauses : List (List Lit)) × (told_of cnf ≡ says head clauses)
from_head p cnf proof head symbols starts true e w =
    let r = head-run (task_of p head) head refl (rows_of proof) (record { left = head.clauses; symbols = symbols }) w in
    (r.told, ap told_after starts ∙ r.tells)
from_head p cnf proof head symbols starts false e w = absurd (no-fault _ w)

from_start : (p : Problem) (cnf proof : List ℕ) (s : Start) → start_of (rows_of cnf) ≡ s → WalksBy p (rows_of proof) s accepted → (head : CnfHead) × (clauses : List (List Lit)) × (told_of cnf ≡ says head clauses)
from_start p cnf proof (told head symbols) starts w =
    let found = from_head p cnf proof head symbols starts (leb (originals p) head.vars) refl w in
    (head, found.0, found.1)
from_start p cnf proof (wrong fault) starts w = absurd (no-cnf fault w)

pub accepted_says : (p : Problem) (cnf proof : List ℕ) (vars : ℕ) (clauses : List (List Lit)) → Accepts p cnf proof → CnfReads cnf vars clauses → SaysClauses cnf vars clauses
accepted_says p cnf proof vars clauses w reads =
    let (head, found, tells) = from_start p cnf proof (start_of (rows_of cnf)) refl w in
    let same = says_one_thing cnf vars head.vars clauses found reads (told_is_said cnf head found tells).0 in
    record { head = head; says_all = tells ∙ ap (says head) (sym same.1); vars_are = same.0 }

-- ---- what stands on the later shelf

pub made_encoding : (w : EncodeWords) (a b : DeskState) (shelf : Shelf) (e : IsEncoded w a b shelf) → MakesEncoding w e.before e.after
made_encoding w a b shelf e = in_is_told b e.after (MakesEncoding w e.before) e.tells_after (in_told a e.before (λ t. IsTold b (MakesEncoding w t)) e.tells_before (obeyed_encodes e.derive w a b outcome.Done refl e.implements))

made_derivation : (w : EncodeWords) (name : List ℕ) (a b : DeskState) (shelf : Shelf) (e : IsEncoded w a b shelf) → w.proof ≡ Some name → MakesDerivation w name e.before e.after
made_derivation w name a b shelf e named =
    in_is_told b e.after (MakesDerivation w name e.before) e.tells_after (in_told a e.before (λ t. IsTold b (MakesDerivation w name t)) e.tells_before (obeyed_derives e.derive e.accepted w a b outcome.Done refl e.implements name named))

pub has_first : (made newer older : List Made) (file : Made) → made ≡ newer ++ file ∷ older → Contains made file
has_first made newer older file is = subst (λ (xs : List Made). Contains xs file) (sym is) (Contains-append_right newer (file ∷ older) file (Contains-here file older))

-- ---- decoding

-- a model has a value for each variable
values_cover : (vars : ℕ) (text : List ℕ) (m : Model) → model_told vars text ≡ Ok m → length m.values ≡ vars
values_cover vars text m tells = by_length (nat_lt (2 ^ 32) (length text)) tells
  where
    by_length : (long : Bool) → cond {A = Result Model ModelFault} long (Err (fault.Limit None Text)) (told_in vars (symbols_of vars text)) ≡ Ok m → length m.values ≡ vars
    by_length true e = cc
    by_length false e = ok_covers vars (symbols_of vars text) (Ok m) (sym e)

pub models_are_decoded : ModelsAreDecoded
models_are_decoded w d a b x y answer now cnf text p of tells e implements denoted has_cnf has_text m =
    let made = made_encoding w a b now.shelf e in
    let encoding = made.encoding in
    let same_cnf : cnf ≡ made.cnf = same_some (now.shelf w.cnf) cnf made.cnf has_cnf (e.files (file_of 0 w.cnf made.cnf) (has_first e.after.made (proof_files w.proof made.proof) e.before.made (file_of 0 w.cnf made.cnf) made.made_is)) in
    let on_shelf : now.shelf w.opb ≡ Some made.text = e.opb ∙ made.on_shelf in
    let there : now.shelf d.opb ≡ Some made.text = ap now.shelf of.opb ∙ on_shelf in
    let bound : Denotes d.bound made.text encoding.problem = subst (λ (o : Option ℤ). Denotes o made.text encoding.problem) (sym of.bound) encoding.denotes in
    let same : p ≡ encoding.problem = same_posed now.shelf d.opb d.bound p encoding.problem denoted (record { text = made.text; on_shelf = there; denotes = bound }) in
    let clauses = says_one_thing made.cnf m.vars encoding.vars m.clauses encoding.clauses (subst (λ (xs : List ℕ). CnfReads xs m.vars m.clauses) same_cnf m.reads) encoding.says in
    let model : IsModelOver encoding.vars encoding.clauses m.model =
    subst (λ (cs : List (List Lit)). IsModelOver encoding.vars cs m.model) clauses.1 (subst (λ (n : ℕ). IsModelOver n m.clauses m.model) clauses.0 m.is_model) in
    let covers : length m.answer.values ≡ p.vars = values_cover p.vars text m.answer m.tells in
    let solution : IsSolution p m.answer.values =
    subst (λ (q : Problem). IsSolution q m.answer.values) (sym same)
    ((encoding.solutions m.answer.values (subst (λ (q : Problem). length m.answer.values ≡ q.vars) same covers)).1
    (m.model, model, subst (λ (q : Problem). take q.vars m.model ≡ m.answer.values) same m.cut)) in
    let ends = in_told x now _ tells (obeyed_says d x y answer implements) p m.answer (record { denoted = denoted; text = text; on_shelf = has_text; says = m.tells }) m.says solution in
    record { solution = solution; due = ends.0; said = ends.1 }

-- ---- refuting

-- what is done is due, and nothing else
refuted_due : (r : RefuteWords) (shelf : Shelf) → IsFollowed shelf r ending.refuted → IsDue (refute_spec r) shelf (only_words (codes "refuted\n"))
refuted_due r shelf f =
    let one = one_refute r shelf in
    record {
      done = (f, refl);
      only = λ other due. due.1;
      goes_on = λ answer stops. one.not_both (only_words (codes "refuted\n")) answer (f, refl) stops;
    }

-- the texts that were made are followed
pub encoded_followed : (w : EncodeWords) (r : RefuteWords) (a b : DeskState) (shelf : Shelf) (cnf lrat : List ℕ) → RefutesOf w r → IsEncoded w a b shelf → shelf w.cnf ≡ Some cnf → shelf r.lrat ≡ Some lrat → IsRefutation cnf lrat → IsFollowed shelf r ending.refuted
encoded_followed w r a b shelf cnf lrat of e has_cnf has_lrat is =
    let made = made_derivation w r.checked.proof a b shelf e of.proof in
    let cnf_stands = e.files (file_of 0 w.cnf made.cnf) (has_first e.after.made (file_of 1 r.checked.proof made.proof ∷ []) e.before.made (file_of 0 w.cnf made.cnf) made.made_is) in
    let proof_stands = e.files (file_of 1 r.checked.proof made.proof) (has_first e.after.made [] (file_of 0 w.cnf made.cnf ∷ e.before.made) (file_of 1 r.checked.proof made.proof) made.made_is) in
    let same_cnf : cnf ≡ made.cnf = same_some (shelf w.cnf) cnf made.cnf has_cnf cnf_stands in
    let there : shelf r.checked.opb ≡ Some made.denoted.text = ap shelf of.opb ∙ (e.opb ∙ made.denoted.on_shelf) in
    let denotes : Denotes r.checked.bound made.denoted.text made.problem = subst (λ (o : Option ℤ). Denotes o made.denoted.text made.problem) (sym of.bound) made.denoted.denotes in
    record {
      vars = is.vars;
      clauses = is.clauses;
      lrat = lrat;
      accepted = record {
        judged = record {
          problem = made.problem;
          cnf = made.cnf;
          proof = made.proof;
          denoted = record { text = made.denoted.text; on_shelf = there; denotes = denotes };
          has_cnf = ap shelf of.cnf ∙ cnf_stands;
          has_proof = proof_stands;
          judged = made.accepted;
        };
        says_all = accepted_says made.problem made.cnf made.proof is.vars is.clauses made.accepted (subst (λ (xs : List ℕ). CnfReads xs is.vars is.clauses) same_cnf is.reads);
      };
      has_lrat = has_lrat;
      ends = is.ends;
    }

pub refutations_are_answered : RefutationsAreAnswered
refutations_are_answered w r a b x y answer now cnf lrat of tells e implements has_cnf has_lrat is =
    let f = encoded_followed w r a b now.shelf cnf lrat of e has_cnf has_lrat is in
    let due = refuted_due r now.shelf f in
    record {
      none = no_solution r now.shelf f;
      due = due;
      said = ends_saying (refute_spec r) x y now (codes "refuted\n") tells due answer implements.answers;
    }

-- ---- over an ample desk

says_or_wants : (line : List ℕ) (a b : DeskState) (answer : Outcome) → answer ≢ outcome.ReadFault → answer ≢ outcome.WriteFault → SaysOnly line a b answer → SaysOrWants line a b answer
says_or_wants line a b _ read write (done adds) = inl (refl, adds)
says_or_wants line a b _ read write (read_fault adds) = absurd (read refl)
says_or_wants line a b _ read write write_fault = absurd (write refl)
says_or_wants line a b _ read write no_memory = inr refl

pub ample_desks_say : AmpleDesksSay
ample_desks_say derive w t a b answer line fresh steady enough implements said =
    says_or_wants line a b answer (ample_reads (spec_of derive w) t a fresh enough b answer steady implements) (ample_writes (spec_of derive w) t a fresh enough b answer steady implements) said
