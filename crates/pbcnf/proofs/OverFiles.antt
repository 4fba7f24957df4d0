-- How a run ends over files, from how it does over a desk that tells what the calls show.
use Rattle.std.proofs.Common.{◌≡◌, ◌∙◌, ◌++◌, ℕ, List, [], Option, Some, None, refl, sym, ap, subst}
use Rattle.std.specs.Prelude.{true, IsSomeAnd, IsTrue}
use Rattle.std.specs.Option.{option_map, option_map_or}
use Rattle.std.proofs.lemmas.List.{append-nil}
use Rattle.pb_desk.specs.View.{Made, Told}
use Rattle.pb_desk.specs.Desk.{DeskState, IfTold, IsTold}
use Rattle.pb_desk.proofs.Tells.{in_told}
use Rattle.pb_files.specs.Calls.{Call}
use Rattle.pb_files.specs.Replay.{answers_as, made_of, told_of}
use Rattle.pb_words.specs.Parsed.{Wanted}
use Rattle.pb_words.specs.Parsed.Wanted.{Encode, Check, Decode, Probe, Bench, Refute, Map, Wcnf, Optimum}
use Rattle.pb_suite.specs.declared.outcome.Outcome.{Outcome}
use Rattle.pb_suite.specs.declared.outcome.Outcome.TheVariants as outcome
use Rattle.pb_suite.specs.CommandSpec.{CommandSpec, MayStand, Shelf}
use Rattle.pb_suite.specs.CommandSpecs.{spec_of}
use Rattle.pb_suite.specs.Derivations.{AreAccepted, Derivations}
use Rattle.pb_suite.specs.Headline.{HasNoSolution, IsExtended, MakesDerivation, MakesEncoding, MakesWeighing}
use Rattle.pb_suite.specs.Implementing.{Answers, Implements}
use Rattle.pb_suite.specs.Implementing.Answers.{done, refused, read_fault, write_fault, no_memory}
use Rattle.pb_suite.specs.Outputs.{nothing, Adds, IsMore, Output}
use Rattle.pb_suite.specs.Programs.{AnswersSome, Exits}
use Rattle.pb_suite.specs.Programs.AnswersSome.{asked, usage, no_memory as no_words}
use Rattle.pb_suite.specs.SaidBounds.{SaysBounds}
use Rattle.pb_suite.specs.SaidOptima.{SaysOptimum}
use Rattle.pb_suite.proofs.Amples.{in_is_told}
use Rattle.pb_suite.proofs.Derives.{obeyed_derives}
use Rattle.pb_suite.proofs.Encodes.{obeyed_encodes}
use Rattle.pb_suite.proofs.Extends.{obeyed_extends}
use Rattle.pb_suite.proofs.Optima.{done_says_optimum}
use Rattle.pb_suite.proofs.Refutes.{obeyed_refutes}
use Rattle.pb_suite.proofs.SaidRows.{obeyed_bounds}
use Rattle.pb_suite.proofs.SeenLemmas.{seen_both}
use Rattle.pb_suite.proofs.Weighs.{obeyed_weighs}
use Rattle.pbcnf.specs.OverFiles.{output_of, EndsOver, EndsSome, ExitsOver, Headline}
use Rattle.pbcnf.specs.OverFiles.EndsOver.{done as all_done, refused as is_refused, read_fault as unread, write_fault as unwritten, no_memory as wanting}
use Rattle.pbcnf.specs.OverFiles.EndsSome.{asked as is_asked, usage as no_request, no_memory as no_room}

-- what was added, however a command ended
added : (o : CommandSpec) (a b : DeskState) (answer : Outcome) → Answers o a b answer → (out : Output) × Adds out a b
added o a b _ (done out due adds stays) = (out, adds)
added o a b _ (refused answer is due adds) = (nothing, adds)
added o a b _ (read_fault adds) = (nothing, adds)
added o a b _ (write_fault out part adds) = (out, adds)
added o a b _ (no_memory out part adds held silent) = (out, adds)

abbrev made_and_said : List Made → List ℕ → Output
made_and_said made said = record { made = made; said = said }

-- a desk that told nothing yet of these files, and then what the calls show
module _ (before files : Shelf) (calls : List Call) (a b : DeskState) (old : a.view.told ≡ Some (told_of before [])) (new : b.view.told ≡ Some (told_of files calls)) where
  -- what is so of both is so of what they tell
  in_both : (P : Told → Told → Type 0) → IfTold a (λ t. IsTold b (P t)) → P (told_of before []) (told_of files calls)
  in_both P holds = in_is_told b (told_of files calls) (P (told_of before [])) new (in_told a (told_of before []) (λ t. IsTold b (P t)) old holds)

  same_files : (out : Output) → Adds out a b → files ≡ before
  same_files out adds = (in_both (IsMore out) adds.told).shelf

  output_is : (out : Output) → Adds out a b → out ≡ output_of calls
  output_is out adds =
      let more = in_both (IsMore out) adds.told in
      ap (λ (made : List Made). made_and_said made out.said) (sym (append-nil out.made) ∙ sym more.made) ∙ ap (made_and_said (made_of calls)) (sym more.said)

  nothing_is : b ≡ a → output_of calls ≡ nothing
  nothing_is same =
      let told : Some (told_of files calls) ≡ Some (told_of before []) = sym new ∙ ap (λ (desk : DeskState). desk.view.told) same ∙ old in
      let tells : told_of files calls ≡ told_of before [] = cc in
      ap (λ (t : Told). made_and_said t.made t.said) tells

module _ (files : Shelf) (calls : List Call) (a b : DeskState) (old : a.view.told ≡ Some (told_of files [])) (new : b.view.told ≡ Some (told_of files calls)) where
  before : (P : Told → Type 0) → IfTold a P → P (told_of files [])
  before P holds = in_told a (told_of files []) P old holds

  both : (P : Told → Told → Type 0) → IfTold a (λ t. IsTold b (P t)) → P (told_of files []) (told_of files calls)
  both P holds = in_both files files calls a b old new P holds

  is_output : (out : Output) → Adds out a b → out ≡ output_of calls
  is_output out adds = output_is files files calls a b old new out adds

  ends_over : (o : CommandSpec) (answer : Outcome) → Answers o a b answer → EndsOver files (output_of calls) o answer
  ends_over o _ (done out due adds stays) = all_done (subst (o.done files) (is_output out adds) (before (λ t. o.done t.shelf out) due))
  ends_over o _ (refused answer is due adds) = is_refused answer is (before (λ t. o.stops t.shelf answer) due) (sym (is_output nothing adds))
  ends_over o _ (read_fault adds) = unread (sym (is_output nothing adds))
  ends_over o _ (write_fault out part adds) = unwritten (subst (MayStand o files) (is_output out adds) (before (λ t. MayStand o t.shelf out) part))
  ends_over o _ (no_memory out part adds held silent) = wanting (subst (MayStand o files) (is_output out adds) (before (λ t. MayStand o t.shelf out) part)) (subst (λ (x : Output). x.said ≡ []) (is_output out adds) silent)

  says_headline : (derive : Derivations) → AreAccepted derive → (w : Wanted) (answer : Outcome) → Implements (spec_of derive w) a b answer → answer ≡ outcome.Done → Headline w (told_of files []) (told_of files calls)
  says_headline derive accepted (Encode w) answer implements is = record {
    encoding = both (MakesEncoding w) (obeyed_encodes derive w a b answer is implements);
    derivation = λ name named. both (MakesDerivation w name) (obeyed_derives derive accepted w a b answer is implements name named);
    bounds = λ table. both (SaysBounds w) (obeyed_bounds derive w a b answer table is implements);
  }
  says_headline derive accepted (Check w) answer implements is = before (λ t. IsExtended w t.shelf) (obeyed_extends w a b answer is implements)
  says_headline derive accepted (Decode w) answer implements is = tt
  says_headline derive accepted (Probe w) answer implements is = tt
  says_headline derive accepted (Bench w) answer implements is = tt
  says_headline derive accepted (Refute w) answer implements is = before (λ t. HasNoSolution w t.shelf) (obeyed_refutes w a b answer is implements)
  says_headline derive accepted (Map w) answer implements is = tt
  says_headline derive accepted (Wcnf w) answer implements is = both (MakesWeighing w) (obeyed_weighs w a b answer is implements)
  says_headline derive accepted (Optimum w) answer implements is = both (SaysOptimum w) (done_says_optimum w a b answer is implements)

  ends_asked : (derive : Derivations) → AreAccepted derive → (w : Wanted) (answer : Outcome) → Implements (spec_of derive w) a b answer → EndsSome files calls answer
  ends_asked derive accepted w answer implements = is_asked derive accepted w answer (ends_over (spec_of derive w) answer implements.answers) (says_headline derive accepted w answer implements)

ends_some : (start files : Shelf) (calls : List Call) (a b : DeskState) → a.view.told ≡ Some (told_of start []) → b.view.told ≡ Some (told_of files calls) → IsTrue a.keeps → IsTrue b.keeps → (answer : Outcome) → AnswersSome a b answer → EndsSome files calls answer
ends_some start files calls a b old new was is _ (asked derive accepted w answer implements) =
    let so = seen_both a b (λ x y. Implements (spec_of derive w) x y answer) is was implements in
    let adds = added (spec_of derive w) a b answer so.answers in
    let same = same_files start files calls a b old new adds.0 adds.1 in
    ends_asked files calls a b (subst (λ (shelf : Shelf). a.view.told ≡ Some (told_of shelf [])) (sym same) old) new derive accepted w answer so
ends_some start files calls a b old new was is _ (usage same) = no_request (nothing_is start files calls a b old new same)
ends_some start files calls a b old new was is _ (no_words same) = no_room (nothing_is start files calls a b old new same)

-- a desk that told something still does
still_tells : (a b : DeskState) (t : Told) → a.view.told ≡ Some t → b.view.told ≡ None → IsTrue a.keeps → IsTrue b.keeps → (answer : Outcome) → AnswersSome a b answer → ⊥
still_tells a b t old new was is _ (asked derive accepted w answer implements) =
    let so = seen_both a b (λ x y. Implements (spec_of derive w) x y answer) is was implements in
    let adds = added (spec_of derive w) a b answer so.answers in
    subst (λ (o : Option Told). IsSomeAnd o (IsMore adds.0 t)) new (in_told a t (λ u. IsTold b (IsMore adds.0 u)) old adds.1.told)
still_tells a b t old new was is _ (usage same) = let no : Some t ≡ None = sym old ∙ sym (ap (λ (desk : DeskState). desk.view.told) same) ∙ new in cc
still_tells a b t old new was is _ (no_words same) = let no : Some t ≡ None = sym old ∙ sym (ap (λ (desk : DeskState). desk.view.told) same) ∙ new in cc

-- a run, by the laws of what the desk of a system shows
pub exits_over : (start files : Shelf) (first last : Option (List Call)) (a b : DeskState) → a.view.told ≡ option_map (told_of start) first → b.view.told ≡ option_map (told_of files) last → a.keeps ≡ option_map_or (answers_as start) first true → b.keeps ≡ option_map_or (answers_as files) last true
    → (told now : Option (List ℕ)) (status : ℕ) → Exits a b told now status → first ≡ Some [] → IsSomeAnd last (λ calls. IsTrue (answers_as files calls) → ExitsOver files calls told now status)
exits_over start files first last a b old new was is told now status exits begun = by_record last new is
  where
    shows : a.view.told ≡ Some (told_of start [])
    shows = old ∙ ap (option_map (told_of start)) begun

    kept : IsTrue a.keeps
    kept = was ∙ ap (λ (o : Option (List Call)). option_map_or (answers_as start) o true) begun

    by_record : (last : Option (List Call)) → b.view.told ≡ option_map (told_of files) last → b.keeps ≡ option_map_or (answers_as files) last true → IsSomeAnd last (λ calls. IsTrue (answers_as files calls) → ExitsOver files calls told now status)
    by_record None new is = absurd (still_tells a b (told_of start []) shows new kept is exits.answer exits.answers)
    by_record (Some calls) new is = λ answers. record {
      answer = exits.answer;
      ends = ends_some start files calls a b shows new kept (is ∙ answers) exits.answer exits.answers;
      status_is = exits.status_is;
      line = exits.line;
    }
