-- That what a solver answers is carried back, from the files that encode made to the text that it read. Our own.
use Rattle.std.specs.Prelude.{ℕ, ◌≡◌, ◌⊎◌, ◌≤◌, ◌<◌, ◌^◌, Bool, List, Contains, take, Some, Ok, codes}
use Rattle.pb_base.specs.declared.literal.Lit.{Lit}
use Rattle.pb_base.specs.declared.problem.Problem.{Problem}
use Rattle.pb_base.specs.Problems.{IsSolution}
use Rattle.pb_desk.specs.View.{Made, Told}
use Rattle.pb_desk.specs.Desk.{DeskState, IsFresh, IsSteady}
use Rattle.pb_dimacs.specs.CnfReading.{CnfReads}
use Rattle.pb_encode.specs.Models.{IsModelOver}
use Rattle.pb_lrat.specs.LratWalk.{lrat_walk}
use Rattle.pb_lrat.specs.LratWalk.{LratEnding as ending}
use Rattle.pb_model.specs.declared.model.Model.{Model}
use Rattle.pb_model.specs.declared.model.Says.TheVariants.{Satisfiable}
use Rattle.pb_model.specs.ModelReading.{told}
use Rattle.pb_model.specs.SolutionText.{optimum_text, solution_text}
use Rattle.pb_words.specs.DecodeWords.{DecodeWords}
use Rattle.pb_words.specs.EncodeWords.{EncodeWords}
use Rattle.pb_words.specs.OptimumWords.{OptimumWords}
use Rattle.pb_words.specs.RefuteWords.{RefuteWords}
use Rattle.pb_words.specs.Parsed.{Wanted}
use Rattle.pb_suite.specs.declared.outcome.Outcome.{Outcome}
use Rattle.pb_suite.specs.declared.outcome.Outcome.TheVariants as outcome
use Rattle.pb_suite.specs.CommandSpec.{Shelf, Suffices}
use Rattle.pb_suite.specs.CommandSpecs.{spec_of}
use Rattle.pb_suite.specs.DecodeSpec.{decode_spec}
use Rattle.pb_suite.specs.Denoted.{IsDenoted}
use Rattle.pb_suite.specs.Derivations.{AreAccepted, Derivations}
use Rattle.pb_suite.specs.EncodeSpec.{encode_spec}
use Rattle.pb_suite.specs.Headline.{HasNoSolution}
use Rattle.pb_suite.specs.Implementing.{Implements}
use Rattle.pb_suite.specs.OptimumSpec.{next_below, optimum_spec, refuting_of, IsReached}
use Rattle.pb_suite.specs.Outputs.{only_words, Adds}
use Rattle.pb_suite.specs.RefuteSpec.{refute_spec}
use Rattle.pb_suite.specs.SaidOptima.{IsOptimum}
use Rattle.pb_suite.specs.SaidSolutions.{IsDue, SaysOnly}

-- A run that encoded is done, with derivations that are accepted. On a shelf, later, stand the text that it read and each file that it made, under its name: files return what was written.
pub record IsEncoded (w : EncodeWords) (old new : DeskState) (shelf : Shelf) : Type 0 where
  pub derive : Derivations
  pub accepted : AreAccepted derive
  pub implements : Implements (encode_spec derive w) old new outcome.Done
  pub before : Told
  pub after : Told
  pub tells_before : old.view.told ≡ Some before
  pub tells_after : new.view.told ≡ Some after
  pub opb : shelf w.opb ≡ before.shelf w.opb
  pub files : (file : Made) → Contains after.made file → shelf file.name ≡ Some file.bytes

-- the text says that there is a model, and its values of the first variables are the cut of a model of the clauses that the CNF says
pub record TellsModel (cnf text : List ℕ) (first : ℕ) : Type 0 where
  pub answer : Model
  pub tells : told first text ≡ Ok answer
  pub says : answer.says ≡ Satisfiable
  pub vars : ℕ
  pub clauses : List (List Lit)
  pub reads : CnfReads cnf vars clauses
  pub model : List Bool
  pub is_model : IsModelOver vars clauses model
  pub cut : take first model ≡ answer.values

-- the values of the text are a solution, and exactly its text is due, and was said unless a call failed or memory was wanting
pub record IsDecodedBack (d : DecodeWords) (shelf : Shelf) (p : Problem) (m : Model) (old new : DeskState) (answer : Outcome) : Type 0 where
  pub solution : IsSolution p m.values
  pub due : IsDue (decode_spec d) shelf (only_words (solution_text p m.values))
  pub said : SaysOnly (solution_text p m.values) old new answer

-- what is decoded beside the text that was encoded
pub record DecodesOf (w : EncodeWords) (d : DecodeWords) : Type 0 where
  pub opb : d.opb ≡ w.opb
  pub bound : d.bound ≡ w.bound

-- a model of the CNF that was made is decoded, whoever wrote its text
abbrev pub ModelsAreDecoded : Type 0
ModelsAreDecoded =
    (w : EncodeWords) (d : DecodeWords) (a b x y : DeskState) (answer : Outcome) (now : Told) (cnf text : List ℕ) (p : Problem)
    → DecodesOf w d → x.view.told ≡ Some now → IsEncoded w a b now.shelf → Implements (decode_spec d) x y answer
    → IsDenoted now.shelf d.opb d.bound p → now.shelf w.cnf ≡ Some cnf → now.shelf d.model ≡ Some text
    → (m : TellsModel cnf text p.vars) → IsDecodedBack d now.shelf p m.answer x y answer

-- the text refutes the clauses that the CNF says
pub record IsRefutation (cnf lrat : List ℕ) : Type 0 where
  pub vars : ℕ
  pub clauses : List (List Lit)
  pub reads : CnfReads cnf vars clauses
  pub ends : lrat_walk vars clauses lrat ≡ ending.refuted

-- the problem has no solution, and exactly that it is refuted is due, and was said unless a call failed or memory was wanting
pub record IsRefutedBack (r : RefuteWords) (shelf : Shelf) (old new : DeskState) (answer : Outcome) : Type 0 where
  pub none : HasNoSolution r shelf
  pub due : IsDue (refute_spec r) shelf (only_words (codes "refuted\n"))
  pub said : SaysOnly (codes "refuted\n") old new answer

-- what is refuted is the text that was encoded, beside both files that were made of it
pub record RefutesOf (w : EncodeWords) (r : RefuteWords) : Type 0 where
  pub opb : r.checked.opb ≡ w.opb
  pub bound : r.checked.bound ≡ w.bound
  pub cnf : r.checked.cnf ≡ w.cnf
  pub proof : w.proof ≡ Some r.checked.proof

-- a refutation of the CNF that was made is answered so, whoever wrote it: nothing but memory and failed calls stand between
abbrev pub RefutationsAreAnswered : Type 0
RefutationsAreAnswered =
    (w : EncodeWords) (r : RefuteWords) (a b x y : DeskState) (answer : Outcome) (now : Told) (cnf lrat : List ℕ)
    → RefutesOf w r → x.view.told ≡ Some now → IsEncoded w a b now.shelf → Implements (refute_spec r) x y answer
    → now.shelf w.cnf ≡ Some cnf → now.shelf r.lrat ≡ Some lrat → IsRefutation cnf lrat
    → IsRefutedBack r now.shelf x y answer

-- the values are an optimum, and exactly that is due, and was said unless a call failed or memory was wanting
pub record IsOptimumBack (o : OptimumWords) (shelf : Shelf) (p : Problem) (values : List Bool) (old new : DeskState) (answer : Outcome) : Type 0 where
  pub optimum : IsOptimum o shelf p values
  pub due : IsDue (optimum_spec o) shelf (only_words (optimum_text p values))
  pub said : SaysOnly (optimum_text p values) old new answer

-- a solution is answered to be an optimum beside the files that were made with the bound below its value and a refutation of their CNF, whoever wrote that
abbrev pub OptimaAreAnswered : Type 0
OptimaAreAnswered =
    (w : EncodeWords) (o : OptimumWords) (a b x y : DeskState) (answer : Outcome) (now : Told) (cnf lrat : List ℕ) (p : Problem) (m : Model)
    → RefutesOf w (refuting_of o (next_below p m)) → x.view.told ≡ Some now → IsEncoded w a b now.shelf → Implements (optimum_spec o) x y answer → IsReached now.shelf o p m
    → now.shelf w.cnf ≡ Some cnf → now.shelf o.lrat ≡ Some lrat → IsRefutation cnf lrat
    → IsOptimumBack o now.shelf p m.values x y answer

-- what a text tells beside more variables it tells of the first of them, too
pub record TellsFront (small : ℕ) (text : List ℕ) (all : Model) : Type 0 where
  pub front : Model
  pub tells : told small text ≡ Ok front
  pub says : front.says ≡ all.says
  pub values_are : front.values ≡ take small all.values

abbrev pub FrontsAreTold : Type 0
FrontsAreTold = (small great : ℕ) (text : List ℕ) (all : Model) → small ≤ great → great < 2 ^ 31 → told great text ≡ Ok all → TellsFront small text all

-- what a solver printed says that there is a model of the clauses that the CNF says, and gives the values of one
pub record IsModelText (cnf text : List ℕ) : Type 0 where
  pub vars : ℕ
  pub clauses : List (List Lit)
  pub reads : CnfReads cnf vars clauses
  pub answer : Model
  pub tells : told vars text ≡ Ok answer
  pub says : answer.says ≡ Satisfiable
  pub is_model : IsModelOver vars clauses answer.values

-- its cut to the problem's variables is a solution, and exactly the text of that is due, and was said unless a call failed or memory was wanting
pub record IsCarriedBack (d : DecodeWords) (shelf : Shelf) (model : List Bool) (old new : DeskState) (answer : Outcome) : Type 0 where
  pub problem : Problem
  pub denoted : IsDenoted shelf d.opb d.bound problem
  pub solution : IsSolution problem (take problem.vars model)
  pub due : IsDue (decode_spec d) shelf (only_words (solution_text problem (take problem.vars model)))
  pub said : SaysOnly (solution_text problem (take problem.vars model)) old new answer

-- what a solver printed of the CNF that was made, without the problem at hand, is decoded, whoever wrote it
abbrev pub AnswersAreDecoded : Type 0
AnswersAreDecoded =
    (w : EncodeWords) (d : DecodeWords) (a b x y : DeskState) (answer : Outcome) (now : Told) (cnf text : List ℕ)
    → DecodesOf w d → x.view.told ≡ Some now → IsEncoded w a b now.shelf → Implements (decode_spec d) x y answer
    → now.shelf w.cnf ≡ Some cnf → now.shelf d.model ≡ Some text
    → (m : IsModelText cnf text) → IsCarriedBack d now.shelf m.answer.values x y answer

-- the line was said and no file was made, or memory was wanting
abbrev pub SaysOrWants : List ℕ → DeskState → DeskState → Outcome → Type 0
SaysOrWants line old new answer = ((answer ≡ outcome.Done) × Adds (only_words line) old new) ⊎ (answer ≡ outcome.NoMemory)

-- over a fresh and steady desk with what is called for, a line that was said unless a call failed was said, or memory was wanting
abbrev pub AmpleDesksSay : Type 0
AmpleDesksSay =
    (derive : Derivations) (w : Wanted) (t : Told) (old new : DeskState) (answer : Outcome) (line : List ℕ)
    → IsFresh t old → IsSteady old → Suffices (spec_of derive w) t.shelf old.view.room → Implements (spec_of derive w) old new answer → SaysOnly line old new answer → SaysOrWants line old new answer
