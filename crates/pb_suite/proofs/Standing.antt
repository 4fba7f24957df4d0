-- What stands of a derivation that a command made.
use Rattle.pb_steps.proofs.LineLaws.{written_line_reads}
use Rattle.pb_steps.specs.StepLines.{IsReadBack}
use Rattle.pb_steps.specs.Sayable.{IsSayable}
use Rattle.std.proofs.lemmas.List.Elements.{All-weaker}
use Rattle.std.proofs.Common.{◌≡◌, ◌∙◌, ◌++◌, ℕ, ℤ, List, [], ◌∷◌, Option, Some, None, ap, arith, inl, inr, length, refl, subst, sym, take, ◌⊎◌}
use Rattle.std.specs.Prelude.{IfSome, IsSomeAnd}
use Rattle.std.proofs.lemmas.List.{append_cancel_right}
use Rattle.std.proofs.Math.Seq.{take-length}
use Rattle.pb_base.specs.declared.problem.Problem.{Problem}
use Rattle.pb_desk.specs.View.{Made, Told}
use Rattle.pb_desk.specs.Desk.{DeskState, IfTold, IsTold}
use Rattle.pb_base.specs.declared.options.Options.{Options}
use Rattle.pb_encode.specs.Clauses.{problem_clauses, problem_fresh}
use Rattle.pb_encode.specs.Encodings.{derivation_text, problem_text}
use Rattle.pb_encode.specs.Steps.{problem_steps}
use Rattle.pb_encode.specs.Summaries.{IsEncodable}
use Rattle.pb_encode.proofs.DerivedProblems.{problem_derived}
use Rattle.pb_encode.proofs.Solutions.{clauses-count}
use Rattle.pb_words.specs.EncodeWords.{EncodeWords}
use Rattle.pb_suite.specs.declared.outcome.Outcome.{Outcome}
use Rattle.pb_suite.specs.Implementing.{Answers, Implements}
use Rattle.pb_suite.specs.Implementing.Answers.{done, refused, read_fault, write_fault, no_memory}
use Rattle.pb_suite.specs.Outputs.{nothing, IsMore, IsPartOf, Output}
use Rattle.pb_suite.specs.Outputs.IsPartOf.{none, of_file, of_words}
use Rattle.pb_suite.specs.CommandSpec.{MayStand}
use Rattle.pb_suite.specs.EncodeSpec.{encoded_output, file_of, names_in, encode_spec, proof_files}
use Rattle.pb_suite.specs.Denoted.{Denotes, IsDenoted}
use Rattle.pb_suite.specs.Standing.{AreFirstLines, IsBegun, IsShortDerivation, Stands}
use Rattle.pb_suite.proofs.Derives.{texts_accepted}
use Rattle.pb_suite.proofs.Encodes.{problem_reads}
use Rattle.pb_suite.proofs.Endings.{always}
use Rattle.pb_suite.proofs.FirstLines.{first_lines}
use Rattle.pb_suite.proofs.DenotedProblems.{denotes_within}
use Rattle.pb_suite.proofs.Texts.{told_more}

-- ---- the derivation of a problem

short : (o : Options) (bound : Option ℤ) (text : List ℕ) (p : Problem) → Denotes bound text p → IsEncodable o p → IsShortDerivation p (problem_text o p) (problem_steps o p)
short o bound text p denotes encodable =
    let within = denotes_within bound text p denotes in
    let count = clauses-count o p within in
    let derived = problem_derived o p within encodable in
    record {
      accepted = texts_accepted o bound text p denotes encodable;
      read_back = All-weaker IsSayable IsReadBack written_line_reads (problem_steps o p) derived.sayable;
      fresh = problem_fresh o p;
      clauses = problem_clauses o p;
      says = problem_reads o p within encodable;
      few = omega (arith, count, derived.few);
    }

-- ---- lists of files

parts : (x y : Made) (xs ys : List Made) → x ∷ xs ≡ y ∷ ys → (x ≡ y) × (xs ≡ ys)
parts x y xs ys is = (cc, cc)

-- where one file was to be made
of_one : (one : Made) (newer : List Made) (file : Made) (older : List Made) → one ∷ [] ≡ newer ++ file ∷ older → one ≡ file
of_one one [] file older is = cc
of_one one (a ∷ []) file older is = cc
of_one one (a ∷ b ∷ newer) file older is = cc

-- where two were: the newer one, or the older
of_two : (new old : Made) (newer : List Made) (file : Made) (older : List Made) → new ∷ old ∷ [] ≡ newer ++ file ∷ older → ((new ≡ file) × (old ∷ [] ≡ older)) ⊎ (old ≡ file)
of_two new old [] file older is = inl (cc, cc)
of_two new old (a ∷ []) file older is = inr cc
of_two new old (a ∷ b ∷ []) file older is = cc
of_two new old (a ∷ b ∷ c ∷ newer) file older is = cc

slots_apart : (x y : Made) → x.slot ≡ 0 → y.slot ≡ 1 → x ≡ y → ⊥
slots_apart x y zero_is one_is is = let no : 0 ≡ 1 = sym zero_is ∙ ap (λ (f : Made). f.slot) is ∙ one_is in cc

-- ---- a part of the files of which the newest is in slot 1

module _ (w : EncodeWords) (t : Told) (p : Problem) (denoted : IsDenoted t.shelf w.opb w.bound p) (encodable : IsEncodable w.options p) (name bytes : List ℕ) (before : List Made) where
  abbrev cnf : List ℕ
  cnf = problem_text w.options p

  abbrev derivation : List ℕ
  derivation = derivation_text w.options p

  begun : w.proof ≡ Some name → before ≡ file_of 0 w.cnf cnf ∷ [] → AreFirstLines (problem_steps w.options p) bytes → IsBegun w t name bytes before
  begun named behind lines = record {
    named = named;
    problem = p;
    cnf = cnf;
    denoted = denoted;
    behind = behind;
    steps = problem_steps w.options p;
    derivation = short w.options w.bound denoted.text p denoted.denotes encodable;
    first_lines = lines;
  }

  some_lines : (n : ℕ) → bytes ≡ take n derivation → AreFirstLines (problem_steps w.options p) bytes
  some_lines n is = subst (AreFirstLines (problem_steps w.options p)) (sym is) (first_lines (problem_steps w.options p) n)

  -- all files
  of_all : (proof : Option (List ℕ)) → w.proof ≡ proof → proof_files proof derivation ++ file_of 0 w.cnf cnf ∷ [] ≡ file_of 1 name bytes ∷ before → IsBegun w t name bytes before
  of_all None named is = absurd (slots_apart (file_of 0 w.cnf cnf) (file_of 1 name bytes) refl refl (parts (file_of 0 w.cnf cnf) (file_of 1 name bytes) [] before is).0)
  of_all (Some own) named is =
      let both = parts (file_of 1 own derivation) (file_of 1 name bytes) (file_of 0 w.cnf cnf ∷ []) before is in
      begun (named ∙ ap (λ (f : Made). Some f.name) both.0) (sym both.1) (some_lines (length derivation) (sym (ap (λ (f : Made). f.bytes) both.0) ∙ sym (take-length derivation)))

  -- the older files, and a first part of one
  of_part : (proof : Option (List ℕ)) → w.proof ≡ proof → (newer : List Made) (file : Made) (older : List Made) (n : ℕ) → proof_files proof derivation ++ file_of 0 w.cnf cnf ∷ [] ≡ newer ++ file ∷ older
      → record file { bytes = take n file.bytes } ∷ older ≡ file_of 1 name bytes ∷ before → IsBegun w t name bytes before
  of_part None named newer file older n whole is =
      let both = parts (record file { bytes = take n file.bytes }) (file_of 1 name bytes) older before is in
      absurd (slots_apart (file_of 0 w.cnf cnf) file refl (ap (λ (f : Made). f.slot) both.0) (of_one (file_of 0 w.cnf cnf) newer file older whole))
  of_part (Some own) named newer file older n whole is =
      let both = parts (record file { bytes = take n file.bytes }) (file_of 1 name bytes) older before is in
      by_place both.0 both.1 (of_two (file_of 1 own derivation) (file_of 0 w.cnf cnf) newer file older whole)
    where
      by_place : record file { bytes = take n file.bytes } ≡ file_of 1 name bytes → older ≡ before → ((file_of 1 own derivation ≡ file) × (file_of 0 w.cnf cnf ∷ [] ≡ older)) ⊎ (file_of 0 w.cnf cnf ≡ file) → IsBegun w t name bytes before
      by_place made rest (inr first) = absurd (slots_apart (file_of 0 w.cnf cnf) file refl (ap (λ (f : Made). f.slot) made) first)
      by_place made rest (inl (same, behind)) =
          begun (named ∙ ap (λ (f : Made). Some f.name) same ∙ ap (λ (f : Made). Some f.name) made) (sym rest ∙ sym behind) (some_lines n (sym (ap (λ (f : Made). f.bytes) made) ∙ ap (λ (f : Made). take n f.bytes) (sym same)))

  of_output : (whole out : Output) → whole ≡ encoded_output derivation_text (names_in w) w.options p → IsPartOf whole out → out.made ≡ file_of 1 name bytes ∷ before → IsBegun w t name bytes before
  of_output whole _ due none is = cc
  of_output whole _ due (of_file newer file older n parts) is = of_part w.proof refl newer file older n (sym (ap (λ (o : Output). o.made) due) ∙ parts) is
  of_output whole _ due (of_words n) is = of_all w.proof refl (sym (ap (λ (o : Output). o.made) due) ∙ is)

-- ---- a run

module _ (w : EncodeWords) (a b : DeskState) where
  stands_of : (t u : Told) (out : Output) → MayStand (encode_spec derivation_text w) t.shelf out → IsMore out t u → Stands w t u
  stands_of t u out may more name bytes before is = by_part may
    where
      made_is : out.made ≡ file_of 1 name bytes ∷ before
      made_is = append_cancel_right out.made (file_of 1 name bytes ∷ before) t.made (sym more.made ∙ is)

      by_part : MayStand (encode_spec derivation_text w) t.shelf out → IsBegun w t name bytes before
      by_part (inl bare) = let no : [] ≡ file_of 1 name bytes ∷ before = sym (ap (λ (o : Output). o.made) bare) ∙ made_is in cc
      by_part (inr part) = of_output w t part.1.0 part.1.1 part.1.2 name bytes before part.0 out part.1.3 part.2 made_is

  told_stands : (x y : Option Told) (out : Output) → IfSome x (λ t. MayStand (encode_spec derivation_text w) t.shelf out) → IfSome x (λ t. IsSomeAnd y (IsMore out t)) → IfSome x (λ t. IsSomeAnd y (Stands w t))
  told_stands None y out may more = tt
  told_stands (Some t) None out may more = absurd more
  told_stands (Some t) (Some u) out may more = stands_of t u out may more

  whole_may : (out : Output) → IfTold a (λ t. (encode_spec derivation_text w).done t.shelf out) → IfTold a (λ t. MayStand (encode_spec derivation_text w) t.shelf out)
  whole_may out due = told_more a (λ t. (encode_spec derivation_text w).done t.shelf out) (λ t. MayStand (encode_spec derivation_text w) t.shelf out) (λ t h. inr (out, h, subst (λ (said : List ℕ). IsPartOf out (record { made = out.made; said = said })) (take-length out.said) (of_words (length out.said)))) due

  bare_may : IfTold a (λ t. MayStand (encode_spec derivation_text w) t.shelf nothing)
  bare_may = always a (λ t. MayStand (encode_spec derivation_text w) t.shelf nothing) (λ t. inl refl)

  answers_stand : (answer : Outcome) → Answers (encode_spec derivation_text w) a b answer → IfTold a (λ t. IsTold b (Stands w t))
  answers_stand _ (done out due adds stays) = told_stands a.view.told b.view.told out (whole_may out due) adds.told
  answers_stand _ (refused answer is due adds) = told_stands a.view.told b.view.told nothing bare_may adds.told
  answers_stand _ (read_fault adds) = told_stands a.view.told b.view.told nothing bare_may adds.told
  answers_stand _ (write_fault out part adds) = told_stands a.view.told b.view.told out part adds.told
  answers_stand _ (no_memory out part adds held silent) = told_stands a.view.told b.view.told out part adds.told

  pub obeyed_stands : (answer : Outcome) → Implements (encode_spec derivation_text w) a b answer → IfTold a (λ t. IsTold b (Stands w t))
  obeyed_stands answer implements = answers_stand answer implements.answers
