-- What the steps of a run do to a desk. It serves proofs.
use Rattle.pb_encode.specs.BoundLines.{words_of}
use Rattle.std.specs.Prelude.{ℕ, ◌≡◌, ◌≤◌, ◌<◌, ◌^◌, List, take, length, Option, Some, None}
use Rattle.pb_base.specs.declared.expected.Expected.{Expected}
use Rattle.pb_base.specs.declared.file.File.{File}
use Rattle.pb_base.specs.declared.file.File.TheVariants.{Opb, Cnf, Model, Lrat}
use Rattle.pb_base.specs.declared.limit.LimitKind.{LimitKind}
use Rattle.pb_base.specs.declared.limit.LimitKind.TheVariants.{Weight, Text as LongText}
use Rattle.pb_base.specs.declared.place.Place.{Place}
use Rattle.pb_base.specs.declared.problem.Problem.{Problem}
use Rattle.pb_desk.specs.View.{View, opened, taken, spoke}
use Rattle.pb_desk.specs.Desk.{DeskState, Reads, Reaches, FailsToRead, FailsToWrite, IfTold, IsSteady, LacksRoom, words, same}
use Rattle.pb_opb.specs.declared.bound.BoundFault.{BoundFault}
use Rattle.pb_opb.specs.declared.bound.BoundFault.TheVariants as bound
use Rattle.pb_opb.specs.declared.fault.OpbFault.{OpbFault}
use Rattle.pb_opb.specs.declared.fault.OpbFault.TheVariants as opb
use Rattle.pb_dimacs.specs.declared.fault.CnfFault.{CnfFault}
use Rattle.pb_dimacs.specs.declared.fault.CnfFault.TheVariants as cnf
use Rattle.pb_check.specs.declared.verdict.CheckFault.{CheckFault}
use Rattle.pb_check.specs.declared.verdict.CheckFault.TheVariants as check
use Rattle.pb_model.specs.declared.fault.ModelFault.{ModelFault}
use Rattle.pb_model.specs.declared.fault.ModelFault.TheVariants as model
use Rattle.pb_lrat.specs.declared.refute_fault.RefuteFault.{RefuteFault}
use Rattle.pb_lrat.specs.declared.refute_fault.RefuteFault.TheVariants as lrat
use Rattle.pb_base.specs.declared.options.Options.{Options}
use Rattle.pb_encode.specs.declared.fault.EncodeFault.{EncodeFault}
use Rattle.pb_encode.specs.declared.fault.EncodeFault.TheVariants as encode
use Rattle.pb_encode.specs.Encodings.{made_files, FileNames, Lacks, StopsEncoding, WantsMemory}
use Rattle.pb_encode.specs.Summaries.{IsOver, IsEncodable}
use Rattle.pb_suite.specs.CommandSpec.{taken_in, IsUnended}
use Rattle.pb_suite.specs.declared.outcome.Outcome.{Outcome}
use Rattle.pb_suite.specs.declared.outcome.Outcome.TheVariants as outcome

-- the reading slots from a number on are as before
abbrev pub KeepsReading : ℕ → DeskState → DeskState → Type 0
KeepsReading few old new = (slot : ℕ) → few ≤ slot → new.view.reading slot ≡ old.view.reading slot

-- so many bytes of the file were read, in this slot
abbrev pub fetched : ℕ → List ℕ → ℕ → View → View
fetched slot name count view = taken slot count (opened slot name view)

-- the file was opened, and so many bytes of it were read
abbrev pub Fetches : ℕ → List ℕ → ℕ → DeskState → DeskState → Type 0
Fetches slot name count old new = Reads (fetched slot name count) old new

-- the outcome of an OPB text's fault
abbrev pub opb_refusal : OpbFault → Outcome
opb_refusal (opb.Token place e) = outcome.Refused Opb place e
opb_refusal (opb.Limit place which) = outcome.Limit (Some Opb) which place
opb_refusal opb.NoMemory = outcome.NoMemory

-- the outcome of the fault of a bound on the objective of an OPB text
abbrev pub bound_refusal : BoundFault → Outcome
bound_refusal bound.Weight = outcome.Limit (Some Opb) Weight None
bound_refusal bound.NoMemory = outcome.NoMemory

-- the outcome of a CNF text's fault
abbrev pub cnf_refusal : CnfFault → Outcome
cnf_refusal (cnf.Token place e) = outcome.Refused Cnf place e
cnf_refusal (cnf.Limit place which) = outcome.Limit (Some Cnf) which place
cnf_refusal cnf.Failed = outcome.ReadFault
cnf_refusal cnf.NoMemory = outcome.NoMemory

-- the outcome of a model text's fault
abbrev pub model_refusal : ModelFault → Outcome
model_refusal (model.Token place e) = outcome.Refused Model place e
model_refusal (model.Limit place which) = outcome.Limit (Some Model) which place
model_refusal model.NoMemory = outcome.NoMemory

-- the outcome of a fault of checking
abbrev pub check_refusal : CheckFault → Outcome
check_refusal (check.Refused file place e) = outcome.Refused file place e
check_refusal (check.Limit file place which) = outcome.Limit (Some file) which place
check_refusal check.ReadFault = outcome.ReadFault
check_refusal check.NoMemory = outcome.NoMemory

-- the outcome of a text that is no refutation
abbrev pub lrat_refusal : RefuteFault → Outcome
lrat_refusal (lrat.Token place e) = outcome.Refused Lrat place e
lrat_refusal (lrat.Limit place which) = outcome.Limit (Some Lrat) which place
lrat_refusal (lrat.NotRefuted line why) = outcome.NotRefuted line why
lrat_refusal lrat.Failed = outcome.ReadFault
lrat_refusal lrat.NoMemory = outcome.NoMemory

-- the outcome refuses a text of this kind
pub data RefusesFile (file : File) : Outcome → Type 0 where
  token : (place : Place) (expected : Expected) → RefusesFile file (outcome.Refused file place expected)
  limit : (place : Option Place) (which : LimitKind) → RefusesFile file (outcome.Limit (Some file) which place)

-- the file of the name has this text, if the desk tells
abbrev pub HasText : List ℕ → (List ℕ → Type 0) → DeskState → Type 0
HasText name P desk = IfTold desk (λ t. (text : List ℕ) × (t.shelf name ≡ Some text) × P text)

-- as the desk tells it, there was more to read of a text that is read whole
abbrev pub IsUnendedIn : ℕ → List ℕ → DeskState → Type 0
IsUnendedIn slot name desk = IfTold desk (λ t. IsUnended slot name (taken_in desk.view t) desk.ended)

-- A read failed: before the file was open, or in its bytes.
pub data StopsFetching (slot : ℕ) (name : List ℕ) (old new : DeskState) : Type 0 where
  not_open : FailsToRead same old new → StopsFetching slot name old new
  in_text : (count : ℕ) → FailsToRead (fetched slot name count) old new → StopsFetching slot name old new

-- How reading a text ended without what it says: a read failed, memory was wanting, or the text is refused.
pub data StopsReading (file : File) (slot : ℕ) (name : List ℕ) (refuses_text : List ℕ → Outcome → Type 0) (old new : DeskState) : Outcome → Type 0 where
  not_read : StopsFetching slot name old new → StopsReading file slot name refuses_text old new outcome.ReadFault
  no_memory : (count : ℕ) → Fetches slot name count old new → StopsReading file slot name refuses_text old new outcome.NoMemory
  refused : (count : ℕ) (answer : Outcome) → RefusesFile file answer → Fetches slot name count old new → HasText name (λ text. refuses_text text answer) old → StopsReading file slot name refuses_text old new answer

-- the text is too long to be read
abbrev pub IsTooLong : File → List ℕ → Outcome → Type 0
IsTooLong file text answer = (answer ≡ outcome.Limit (Some file) LongText None) × (2 ^ 32 < length text)

-- the files of a problem were made and ended, and these words said
abbrev pub stored : Options → Problem → FileNames → List ℕ → View → View
stored o p names said view = spoke said (made_files o p names view)

-- the outcome of a fault of encoding
abbrev pub outcome_of : EncodeFault → Outcome
outcome_of (encode.Limit which) = outcome.Limit None which None
outcome_of encode.WriteFault = outcome.WriteFault
outcome_of encode.NoMemory = outcome.NoMemory

-- how storing an encoding ended without it
pub data StopsStoring (o : Options) (p : Problem) (names : FileNames) (old new : DeskState) : Outcome → Type 0 where
  over : (which : LimitKind) → IsOver which o p → Reaches same old new → StopsStoring o p names old new (outcome.Limit None which None)
  not_made : IsEncodable o p → StopsEncoding o p names old new → StopsStoring o p names old new outcome.WriteFault
  in_words : IsEncodable o p → (count : ℕ) → FailsToWrite (stored o p names (take count (words_of o p))) old new → StopsStoring o p names old new outcome.WriteFault
  no_memory : WantsMemory o p names old new → StopsStoring o p names old new outcome.NoMemory
  no_words : IsEncodable o p → Reaches (made_files o p names) old new → StopsStoring o p names old new outcome.NoMemory

-- Why a steady desk may fail to store: something lacks for the files, or there is no room for the words.
pub data LacksToStore (o : Options) (p : Problem) (names : FileNames) (desk : DeskState) : Type 0 where
  to_make : Lacks o p names desk → LacksToStore o p names desk
  to_say : LacksRoom words (length (words_of o p)) desk → LacksToStore o p names desk

-- so many bytes of the file were read, of those that it has
pub record FetchesPart (slot : ℕ) (name : List ℕ) (count : ℕ) (old new : DeskState) : Type 0 where
  pub reached : Fetches slot name count old new
  pub on_shelf : IfTold old (λ t. (text : List ℕ) × (t.shelf name ≡ Some text) × (count ≤ length text))

-- more bytes than these were read
abbrev pub FetchesMore : ℕ → List ℕ → ℕ → DeskState → DeskState → Type 0
FetchesMore slot name most old new = (count : ℕ) × (most < count) × FetchesPart slot name count old new

-- all was made and said
abbrev pub stored_whole : Options → Problem → FileNames → View → View
stored_whole o p names = stored o p names (words_of o p)

-- how storing an encoding ended: with all made and said, or without it
pub data EndsStoring (o : Options) (p : Problem) (names : FileNames) (old new : DeskState) : Outcome → Type 0 where
  whole : IsEncodable o p → Reaches (stored_whole o p names) old new → EndsStoring o p names old new outcome.Done
  stopped : (answer : Outcome) → StopsStoring o p names old new answer → (IsSteady old → answer ≡ outcome.WriteFault → LacksToStore o p names old) → EndsStoring o p names old new answer
