-- How storing an encoding ends a command that is to do so.
use Rattle.pb_encode.specs.BoundLines.{words_of}
use Rattle.std.proofs.Common.{◌≡◌, ◌∙◌, ℕ, List, [], ◌∷◌, ◌++◌, Option, Some, None, take, length, inl, inr, refl, ap, sym, subst, false}
use Rattle.std.proofs.Math.Seq.{take-length}
use Rattle.std.specs.Prelude.{Contains, IsSome}
use Rattle.pb_base.specs.declared.limit.LimitKind.{LimitKind}
use Rattle.pb_base.specs.declared.problem.Problem.{Problem}
use Rattle.pb_base.proofs.Members.{Contains-here, Contains-there}
use Rattle.pb_desk.specs.View.{View}
use Rattle.pb_desk.specs.Desk.{DeskState, IfTold, IsSteady, Reaches, same}
use Rattle.pb_desk.proofs.Steps.{then, then_fails_to_write}
use Rattle.pb_base.specs.declared.options.Options.{Options}
use Rattle.pb_encode.specs.Encodings.{begun, derivation_text, made, made_files, problem_text, FileNames, LacksToMake, LeavesPart, StopsMaking}
use Rattle.pb_encode.specs.Encodings.Lacks.{equal_names, for_cnf, for_proof}
use Rattle.pb_encode.specs.Encodings.LacksToMake.{is_taken as making_taken, no_room as making_room}
use Rattle.pb_encode.specs.Encodings.LeavesPart.{cut_off, left}
use Rattle.pb_encode.specs.Encodings.StopsEncoding.{in_cnf as stops_in_cnf, in_proof as stops_in_proof}
use Rattle.pb_encode.specs.Encodings.StopsMaking.{not_made as making_not, in_text as making_in}
use Rattle.pb_encode.specs.Encodings.WantsMemory.{not_made as wanting_not, in_cnf as wants_in_cnf, in_proof as wants_in_proof}
use Rattle.pb_encode.specs.Summaries.{IsEncodable, IsOver}
use Rattle.pb_encode.proofs.EncodedFiles.{proof_lacks}
use Rattle.pb_suite.specs.declared.outcome.Outcome.{Outcome}
use Rattle.pb_suite.specs.declared.outcome.Outcome.TheVariants as outcome
use Rattle.pb_suite.specs.Implementing.{Implements}
use Rattle.pb_suite.specs.Outputs.{nothing, IsPartOf, LacksFor, Output}
use Rattle.pb_suite.specs.Outputs.IsPartOf.{of_file, of_words}
use Rattle.pb_suite.specs.Outputs.LacksFor.{is_taken, no_room, no_words as no_word_room}
use Rattle.pb_suite.specs.CommandSpec.{LacksSpace, MayStand, CommandSpec}
use Rattle.pb_suite.specs.EncodeSpec.{encoded_output, file_of, proof_files}
use Rattle.pb_suite.specs.inner.Runs.{stored, stored_whole, EndsStoring, LacksToStore, StopsStoring}
use Rattle.pb_suite.specs.inner.Runs.EndsStoring.{whole as all_stored, stopped}
use Rattle.pb_suite.specs.inner.Runs.LacksToStore.{to_make, to_say}
use Rattle.pb_suite.specs.inner.Runs.StopsStoring.{over as storing_over, not_made, in_words, no_memory, no_words}
use Rattle.pb_suite.proofs.Endings.{all_done, bare_memory, is_refused, is_unheld, is_unwritten, wants_memory, always}
use Rattle.pb_suite.proofs.Filing.{by_begun, by_begun_proof, by_files, by_made, by_stored, only_files, stored_keeps}
use Rattle.pb_suite.proofs.Going.{by_same, goes_by}
use Rattle.pb_suite.proofs.Texts.{is_told_so, told_more}

module _ (o : CommandSpec) (options : Options) (p : Problem) (names : FileNames) (b d : DeskState) (tells : IsSteady b → IsSome b.view.told) (others : names.proof ≡ Some names.cnf → ⊥)
    (due : IsEncodable options p → IfTold b (λ t. o.done t.shelf (encoded_output derivation_text names options p))) (stops : (which : LimitKind) → IsOver which options p → IfTold b (λ t. o.stops t.shelf (outcome.Limit None which None))) where
  abbrev name : List ℕ
  name = names.cnf

  abbrev cnf : List ℕ
  cnf = problem_text options p

  abbrev derivation : List ℕ
  derivation = derivation_text options p

  abbrev summary : List ℕ
  summary = words_of options p

  abbrev whole : Output
  whole = encoded_output derivation_text names options p

  -- ---- first parts

  part_of : (out : Output) → IsPartOf whole out → IsEncodable options p → IfTold b (λ t. MayStand o t.shelf out)
  part_of out is_part is = told_more b (λ t. o.done t.shelf whole) (λ t. MayStand o t.shelf out) (λ t holds. inr (whole, holds, is_part)) (due is)

  cnf_part : (n : ℕ) → IsEncodable options p → IfTold b (λ t. MayStand o t.shelf (only_files name (take n cnf) None []))
  cnf_part n is = part_of (only_files name (take n cnf) None []) (of_file (proof_files names.proof derivation) (file_of 0 name cnf) [] n refl) is

  cnf_whole : IsEncodable options p → IfTold b (λ t. MayStand o t.shelf (only_files name cnf None []))
  cnf_whole is = subst (λ (bytes : List ℕ). IfTold b (λ t. MayStand o t.shelf (only_files name bytes None []))) (take-length cnf) (cnf_part (length cnf) is)

  proof_part : (proof : List ℕ) (n : ℕ) → names.proof ≡ Some proof → IsEncodable options p → IfTold b (λ t. MayStand o t.shelf (only_files name cnf (Some proof) (take n derivation)))
  proof_part proof n named is =
      part_of (only_files name cnf (Some proof) (take n derivation))
      (of_file [] (file_of 1 proof derivation) (file_of 0 name cnf ∷ []) n (ap (λ (x : Option (List ℕ)). proof_files x derivation ++ file_of 0 name cnf ∷ []) named)) is

  words_part : (n : ℕ) → IsEncodable options p → IfTold b (λ t. MayStand o t.shelf (record { made = whole.made; said = take n summary }))
  words_part n is = part_of (record { made = whole.made; said = take n summary }) (of_words n) is

  bare_part : IfTold b (λ t. MayStand o t.shelf nothing)
  bare_part = always b (λ t. MayStand o t.shelf nothing) (λ t. inl refl)

  -- ---- what lacks

  has_cnf : (proof : Option (List ℕ)) → Contains (proof_files proof derivation ++ file_of 0 name cnf ∷ []) (file_of 0 name cnf)
  has_cnf None = Contains-here (file_of 0 name cnf) []
  has_cnf (Some proof) = Contains-there (file_of 1 proof derivation) (file_of 0 name cnf ∷ []) (file_of 0 name cnf) (Contains-here (file_of 0 name cnf) [])

  has_proof : (proof : List ℕ) → names.proof ≡ Some proof → Contains whole.made (file_of 1 proof derivation)
  has_proof proof named =
      subst (λ (x : Option (List ℕ)). Contains (proof_files x derivation ++ file_of 0 name cnf ∷ []) (file_of 1 proof derivation)) (sym named) (Contains-here (file_of 1 proof derivation) (file_of 0 name cnf ∷ []))

  lacks_file : (slot : ℕ) (own text : List ℕ) → Contains whole.made (file_of slot own text) → LacksToMake slot own text b → LacksFor whole b
  lacks_file slot own text has (making_taken taken) = is_taken (file_of slot own text) has taken
  lacks_file slot own text has (making_room lacks) = no_room (file_of slot own text) has lacks

  lacks_for : LacksToStore options p names b → LacksFor whole b
  lacks_for (to_make (for_cnf lacks)) = lacks_file 0 name cnf (has_cnf names.proof) lacks
  lacks_for (to_make (equal_names equal)) = absurd (others equal)
  lacks_for (to_make (for_proof proof named lacks)) = lacks_file 1 proof derivation (has_proof proof named) lacks
  lacks_for (to_say lacks) = no_word_room lacks

  lacks : IsEncodable options p → (IsSteady b → LacksToStore options p names b) → IsSteady b → LacksSpace o b
  lacks is why steady = (whole, is_told_so b (λ t. o.done t.shelf whole) (λ t. o.done t.shelf whole) (λ t holds. holds) (tells steady) (due is), lacks_for (why steady))

  -- ---- how it ends

  stored_implements : IsEncodable options p → Reaches (stored_whole options p names) b d → ((slot : ℕ) → b.view.writing slot ≡ false) → Implements o b d outcome.Done
  stored_implements is far free = all_done o b d whole (goes_by (length o.texts) whole (stored_whole options p names) b d (by_stored options p (length o.texts) names summary) far) (stored_keeps options p names summary b d far.view free) (due is)

  cnf_stops : IsEncodable options p → (IsSteady b → LacksToStore options p names b) → StopsMaking 0 name cnf b d → Implements o b d outcome.WriteFault
  cnf_stops is why (making_not fails) = is_unwritten o b d nothing same (by_same (length o.texts)) fails bare_part (lacks is why)
  cnf_stops is why (making_in n fails) = is_unwritten o b d _ (begun 0 name (take n cnf)) (by_begun (length o.texts) name (take n cnf)) fails (cnf_part n is) (lacks is why)

  proof_stops : IsEncodable options p → (IsSteady b → LacksToStore options p names b) → (proof : List ℕ) (between : DeskState) → names.proof ≡ Some proof → Reaches (made 0 name cnf) b between → StopsMaking 1 proof derivation between d → Implements o b d outcome.WriteFault
  proof_stops is why proof between named made_is (making_not fails) =
      is_unwritten o b d _ (made 0 name cnf) (by_made (length o.texts) name cnf) (then_fails_to_write (made 0 name cnf) same (made 0 name cnf) b between d (λ v. refl) made_is fails) (cnf_whole is) (lacks is why)
  proof_stops is why proof between named made_is (making_in n fails) =
      let both : View → View = λ v. begun 1 proof (take n derivation) (made 0 name cnf v) in
      is_unwritten o b d _ both (by_begun_proof (length o.texts) name cnf proof (take n derivation)) (then_fails_to_write (made 0 name cnf) (begun 1 proof (take n derivation)) both b between d (λ v. refl) made_is fails) (proof_part proof n named is) (lacks is why)

  cnf_wants : IsEncodable options p → LeavesPart 0 name cnf b d → Implements o b d outcome.NoMemory
  cnf_wants is (left n reached) = wants_memory o b d _ (goes_by (length o.texts) _ (begun 0 name (take n cnf)) b d (by_begun (length o.texts) name (take n cnf)) reached) (cnf_part n is) refl
  cnf_wants is (cut_off n fails why) = is_unheld o b d _ (begun 0 name (take n cnf)) (by_begun (length o.texts) name (take n cnf)) (λ e. cc) fails (cnf_part n is) (lacks is (λ steady. to_make (for_cnf (why steady)))) refl

  proof_wants : IsEncodable options p → (proof : List ℕ) (between : DeskState) → names.proof ≡ Some proof → Reaches (made 0 name cnf) b between → LeavesPart 1 proof derivation between d → Implements o b d outcome.NoMemory
  proof_wants is proof between named made_is (left n reached) =
      let text = take n derivation in
      let both : View → View = λ v. begun 1 proof text (made 0 name cnf v) in
      wants_memory o b d _ (goes_by (length o.texts) _ both b d (by_begun_proof (length o.texts) name cnf proof text) (then (made 0 name cnf) (begun 1 proof text) both b between d (λ v. refl) made_is reached)) (proof_part proof n named is) refl
  proof_wants is proof between named made_is (cut_off n fails why) =
      let text = take n derivation in
      let both : View → View = λ v. begun 1 proof text (made 0 name cnf v) in
      is_unheld o b d _ both (by_begun_proof (length o.texts) name cnf proof text) (λ e. cc) (then_fails_to_write (made 0 name cnf) (begun 1 proof text) both b between d (λ v. refl) made_is fails) (proof_part proof n named is)
      (lacks is (λ steady. to_make (proof_lacks options p names b between proof named made_is (why (ap (λ (v : View). v.steady) made_is.view ∙ steady))))) refl

  stopped_implements : (answer : Outcome) → StopsStoring options p names b d answer → (IsSteady b → answer ≡ outcome.WriteFault → LacksToStore options p names b) → Implements o b d answer
  stopped_implements _ (storing_over which is far) why = is_refused o b d (outcome.Limit None which None) (goes_by (length o.texts) nothing same b d (by_same (length o.texts)) far) tt (stops which is)
  stopped_implements _ (not_made is (stops_in_cnf ends)) why = cnf_stops is (λ steady. why steady refl) ends
  stopped_implements _ (not_made is (stops_in_proof later)) why = proof_stops is (λ steady. why steady refl) later.proof later.between later.named later.whole later.ends
  stopped_implements _ (in_words is n fails) why = is_unwritten o b d _ (stored options p names (take n summary)) (by_stored options p (length o.texts) names (take n summary)) fails (words_part n is) (lacks is (λ steady. why steady refl))
  stopped_implements _ (no_memory (wanting_not far)) why = bare_memory o b d (goes_by (length o.texts) nothing same b d (by_same (length o.texts)) far)
  stopped_implements _ (no_memory (wants_in_cnf is part)) why = cnf_wants is part
  stopped_implements _ (no_memory (wants_in_proof is later)) why = proof_wants is later.proof later.between later.named later.whole later.ends
  stopped_implements _ (no_words is far) why = wants_memory o b d _ (goes_by (length o.texts) _ (made_files options p names) b d (by_files options p (length o.texts) names) far) (words_part 0 is) refl

  pub storing_implements : ((slot : ℕ) → b.view.writing slot ≡ false) → (answer : Outcome) → EndsStoring options p names b d answer → Implements o b d answer
  storing_implements free _ (all_stored is far) = stored_implements is far free
  storing_implements free _ (stopped answer stops why) = stopped_implements answer stops why
