-- What making the files of a problem adds to a desk.
use Rattle.std.proofs.Common.{◌≡◌, ◌∙◌, ℕ, Bool, true, false, List, [], ◌∷◌, ◌++◌, Option, Some, None, inl, inr, refl, sym, ap}
use Rattle.std.specs.Prelude.{◌==◌, ◌⊎◌}
use Rattle.std.proofs.lemmas.List.{append-nil}
use Rattle.std.proofs.lemmas.Bool.{eqb-true}
use Rattle.pb_base.specs.declared.problem.Problem.{Problem}
use Rattle.pb_base.specs.declared.options.Options.{Options}
use Rattle.pb_desk.specs.View.{View, spoke}
use Rattle.pb_desk.specs.Desk.{DeskState}
use Rattle.pb_encode.specs.Encodings.{begun, derivation_text, made, made_files, problem_text, FileNames}
use Rattle.pb_suite.specs.Outputs.{Output}
use Rattle.pb_suite.specs.EncodeSpec.{file_of, proof_files}
use Rattle.pb_suite.specs.inner.Runs.{stored}
use Rattle.pb_suite.proofs.Going.{AddsBy}

-- files, and no words
abbrev pub only_files : (name text : List ℕ) → (proof : Option (List ℕ)) → List ℕ → Output
only_files name text proof bytes = record { made = proof_files proof bytes ++ file_of 0 name text ∷ []; said = [] }

-- the slot of the one file, or another
first_or : {R : Type 0} (slot : ℕ) → ((slot == 0) ≡ false → R) → ((0 ≡ slot) ⊎ ⊥) ⊎ R
first_or {R} slot other = by_test (slot == 0) refl
  where
    by_test : (found : Bool) → (slot == 0) ≡ found → ((0 ≡ slot) ⊎ ⊥) ⊎ R
    by_test true is = inl (inl (sym (eqb-true slot 0 is)))
    by_test false is = inr (other is)

-- the slots of both files, or another
second_or : {R : Type 0} (slot : ℕ) → ((slot == 1) ≡ false → (slot == 0) ≡ false → R) → ((1 ≡ slot) ⊎ ((0 ≡ slot) ⊎ ⊥)) ⊎ R
second_or {R} slot other = by_tests (slot == 1) (slot == 0) refl refl
  where
    by_tests : (one none : Bool) → (slot == 1) ≡ one → (slot == 0) ≡ none → ((1 ≡ slot) ⊎ ((0 ≡ slot) ⊎ ⊥)) ⊎ R
    by_tests true none is first = inl (inl (sym (eqb-true slot 1 is)))
    by_tests false true is first = inl (inr (inl (sym (eqb-true slot 0 first))))
    by_tests false false is first = inr (other is first)

-- ---- the CNF

pub by_begun : (few : ℕ) (name bytes : List ℕ) → AddsBy few (only_files name bytes None []) (begun 0 name bytes)
by_begun few name bytes = record {
  reading = λ v slot le. refl;
  told = λ v t. record { shelf = refl; made = refl; said = sym (append-nil t.said) };
  slots = λ v slot. first_or slot (λ other. simp other);
  room = λ v. refl;
  steady = λ v. refl;
}

pub by_made : (few : ℕ) (name bytes : List ℕ) → AddsBy few (only_files name bytes None []) (made 0 name bytes)
by_made few name bytes = record {
  reading = λ v slot le. refl;
  told = λ v t. record { shelf = refl; made = refl; said = sym (append-nil t.said) };
  slots = λ v slot. first_or slot (λ other. simp other);
  room = λ v. refl;
  steady = λ v. refl;
}

-- the file, and words
pub by_spoken : (few : ℕ) (name bytes said : List ℕ) → AddsBy few (record { made = file_of 0 name bytes ∷ []; said = said }) (λ v. spoke said (made 0 name bytes v))
by_spoken few name bytes said = record {
  reading = λ v slot le. refl;
  told = λ v t. record { shelf = refl; made = refl; said = refl };
  slots = λ v slot. first_or slot (λ other. simp other);
  room = λ v. refl;
  steady = λ v. refl;
}

-- a file that was made and ended leaves its slot as it was
pub spoken_keeps : (name bytes said : List ℕ) (a b : DeskState) → b.view ≡ spoke said (made 0 name bytes a.view) → ((slot : ℕ) → a.view.writing slot ≡ false) → (slot : ℕ) → b.view.writing slot ≡ a.view.writing slot
spoken_keeps name bytes said a b is free slot = ap (λ (v : View). v.writing slot) is ∙ by_test (slot == 0) refl
  where
    by_test : (found : Bool) → (slot == 0) ≡ found → (spoke said (made 0 name bytes a.view)).writing slot ≡ a.view.writing slot
    by_test true at = simp at (sym (free slot))
    by_test false at = simp at

-- ---- the derivation behind it

pub by_begun_proof : (few : ℕ) (name text proof bytes : List ℕ) → AddsBy few (only_files name text (Some proof) bytes) (λ v. begun 1 proof bytes (made 0 name text v))
by_begun_proof few name text proof bytes = record {
  reading = λ v slot le. refl;
  told = λ v t. record { shelf = refl; made = refl; said = sym (append-nil t.said) };
  slots = λ v slot. second_or slot (λ one none. simp (one, none));
  room = λ v. refl;
  steady = λ v. refl;
}

-- ---- all files, and words

module _ (o : Options) (p : Problem) where
  abbrev with_words : FileNames → List ℕ → Output
  with_words names said = record { made = proof_files names.proof (derivation_text o p) ++ file_of 0 names.cnf (problem_text o p) ∷ []; said = said }

  by_stored_cnf : (few : ℕ) (name said : List ℕ) → AddsBy few (with_words (record { cnf = name; proof = None }) said) (stored o p (record { cnf = name; proof = None }) said)
  by_stored_cnf few name said = by_spoken few name (problem_text o p) said

  by_stored_both : (few : ℕ) (name proof said : List ℕ) → AddsBy few (with_words (record { cnf = name; proof = Some proof }) said) (stored o p (record { cnf = name; proof = Some proof }) said)
  by_stored_both few name proof said = record {
    reading = λ v slot le. refl;
    told = λ v t. record { shelf = refl; made = refl; said = refl };
    slots = λ v slot. second_or slot (λ one none. simp (one, none));
    room = λ v. refl;
    steady = λ v. refl;
  }

  by_stored_as : (few : ℕ) (name : List ℕ) (proof : Option (List ℕ)) (said : List ℕ) → AddsBy few (with_words (record { cnf = name; proof = proof }) said) (stored o p (record { cnf = name; proof = proof }) said)
  by_stored_as few name None said = by_stored_cnf few name said
  by_stored_as few name (Some proof) said = by_stored_both few name proof said

  pub by_stored : (few : ℕ) (names : FileNames) (said : List ℕ) → AddsBy few (with_words names said) (stored o p names said)
  by_stored few names said = by_stored_as few names.cnf names.proof said

  by_files_as : (few : ℕ) (name : List ℕ) (proof : Option (List ℕ)) → AddsBy few (only_files name (problem_text o p) proof (derivation_text o p)) (made_files o p (record { cnf = name; proof = proof }))
  by_files_as few name None = by_made few name (problem_text o p)
  by_files_as few name (Some proof) = record {
    reading = λ v slot le. refl;
    told = λ v t. record { shelf = refl; made = refl; said = sym (append-nil t.said) };
    slots = λ v slot. second_or slot (λ one none. simp (one, none));
    room = λ v. refl;
    steady = λ v. refl;
  }

  pub by_files : (few : ℕ) (names : FileNames) → AddsBy few (only_files names.cnf (problem_text o p) names.proof (derivation_text o p)) (made_files o p names)
  by_files few names = by_files_as few names.cnf names.proof

  -- files that were made and ended leave their slots as they were
  stored_keeps_as : (name : List ℕ) (proof : Option (List ℕ)) (said : List ℕ) (v : View) → ((slot : ℕ) → v.writing slot ≡ false) → (slot : ℕ) → (stored o p (record { cnf = name; proof = proof }) said v).writing slot ≡ v.writing slot
  stored_keeps_as name None said v free slot = by_test (slot == 0) refl
    where
      by_test : (found : Bool) → (slot == 0) ≡ found → (stored o p (record { cnf = name; proof = None }) said v).writing slot ≡ v.writing slot
      by_test true at = simp at (sym (free slot))
      by_test false at = simp at
  stored_keeps_as name (Some proof) said v free slot = by_tests (slot == 1) (slot == 0) refl refl
    where
      by_tests : (one none : Bool) → (slot == 1) ≡ one → (slot == 0) ≡ none → (stored o p (record { cnf = name; proof = Some proof }) said v).writing slot ≡ v.writing slot
      by_tests true none one_is none_is = simp one_is (sym (free slot))
      by_tests false true one_is none_is = simp (one_is, none_is) (sym (free slot))
      by_tests false false one_is none_is = simp (one_is, none_is)

  pub stored_keeps : (names : FileNames) (said : List ℕ) (a b : DeskState) → b.view ≡ stored o p names said a.view → ((slot : ℕ) → a.view.writing slot ≡ false) → (slot : ℕ) → b.view.writing slot ≡ a.view.writing slot
  stored_keeps names said a b is free slot = ap (λ (v : View). v.writing slot) is ∙ stored_keeps_as names.cnf names.proof said a.view free slot
