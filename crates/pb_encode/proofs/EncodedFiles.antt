-- What went wrong with the derivation, once the CNF was made, went wrong with both.
use Rattle.std.proofs.Common.{◌≡◌, ◌∙◌, ◌<◌, ℕ, List, ◌∷◌, Some, None, inl, inr, ap, subst, sym, length}
use Rattle.std.specs.Prelude.{◌⊎◌, Option, IsSomeAnd}
use Rattle.pb_base.specs.declared.problem.Problem.{Problem}
use Rattle.pb_desk.specs.View.{Made, Told, View}
use Rattle.pb_desk.specs.Desk.{DeskState, IsTaken, Reaches}
use Rattle.pb_base.specs.declared.options.Options.{Options}
use Rattle.pb_encode.specs.Encodings.{derivation_text, made, problem_text, AfterCnf, FileNames, IsCutOff, Lacks, LacksToMake, LeavesPart, StopsMaking, WantsMemory}
use Rattle.pb_encode.specs.Encodings.Lacks.{equal_names, for_proof}
use Rattle.pb_encode.specs.Encodings.LacksToMake.{is_taken, no_room}
use Rattle.pb_encode.specs.Encodings.StopsEncoding.{in_proof as stops_in_proof}
use Rattle.pb_encode.specs.Encodings.WantsMemory.{in_proof}
use Rattle.pb_encode.specs.Summaries.{IsEncodable}

module _ (o : Options) (p : Problem) (names : FileNames) (a : DeskState) where
  module _ (b : DeskState) (proof : List ℕ) (named : names.proof ≡ Some proof) (whole : Reaches (made 0 names.cnf (problem_text o p)) a b) where
    after : (Ends : List ℕ → DeskState → Type 0) → Ends proof b → AfterCnf o p names Ends a
    after Ends ends = record { proof = proof; named = named; between = b; whole = whole; ends = ends }

    pub proof_cut_off : (d : DeskState) → IsEncodable o p → StopsMaking 1 proof (derivation_text o p) b d → IsCutOff o p names a d
    proof_cut_off d encodable stops = record { encodable = encodable; stops = stops_in_proof (after (λ name between. StopsMaking 1 name (derivation_text o p) between d) stops) }

    pub proof_left_off : (d : DeskState) → IsEncodable o p → LeavesPart 1 proof (derivation_text o p) b d → WantsMemory o p names a d
    proof_left_off d encodable part = in_proof encodable (after (λ name between. LeavesPart 1 name (derivation_text o p) between d) part)

    -- the CNF takes its name, and no slot but its own
    taken_before : (others : List Made) → IsTaken 1 proof (record { slot = 0; name = names.cnf; bytes = problem_text o p } ∷ others) → (names.cnf ≡ proof) ⊎ IsTaken 1 proof others
    taken_before others (inl (inl same)) = inl same
    taken_before others (inl (inr named)) = inr (inl named)
    taken_before others (inr (inl long)) = inr (inr (inl long))
    taken_before others (inr (inr (inl own))) = let no : ⊥ = cc in absurd no
    taken_before others (inr (inr (inr used))) = inr (inr (inr used))

    taken_was : (told : Option Told) → IsSomeAnd (made 0 names.cnf (problem_text o p) (record a.view { told = told })).told (λ t. IsTaken 1 proof t.made) → (names.cnf ≡ proof) ⊎ IsSomeAnd told (λ t. IsTaken 1 proof t.made)
    taken_was None h = absurd h
    taken_was (Some t) h = taken_before t.made h

    pub proof_lacks : LacksToMake 1 proof (derivation_text o p) b → Lacks o p names a
    proof_lacks (is_taken taken) =
        elim (taken_was a.view.told (subst (λ (v : View). IsSomeAnd v.told (λ t. IsTaken 1 proof t.made)) whole.view taken)) as (λ _. Lacks o p names a) [
          | inl same ↦ equal_names (named ∙ ap Some (sym same))
          | inr used ↦ for_proof proof named (is_taken used)
        ]
    proof_lacks (no_room full) = for_proof proof named (no_room (subst (λ (v : View). IsSomeAnd v.room (λ most. most < length (derivation_text o p))) whole.view full))
