-- Which outcome refuses a text. Our own.
use Rattle.std.specs.Prelude.{ℕ, ◌≡◌, ◌≤◌, ◌^◌, ℤ, List, Option, Some, None, Err}
use Rattle.pb_base.specs.declared.expected.Expected.{Expected}
use Rattle.pb_base.specs.declared.file.File.TheVariants.{Opb, Cnf, Model}
use Rattle.pb_base.specs.declared.limit.LimitKind.{LimitKind}
use Rattle.pb_base.specs.declared.limit.LimitKind.TheVariants.{Weight}
use Rattle.pb_base.specs.declared.place.Place.{Place}
use Rattle.pb_base.specs.declared.problem.Problem.{Problem}
use Rattle.pb_opb.specs.declared.fault.OpbFault.TheVariants as opb
use Rattle.pb_opb.specs.Bounded.{bound_weight}
use Rattle.pb_opb.specs.Faults.{IsFirstFault, Reads}
use Rattle.pb_dimacs.specs.declared.fault.CnfFault.TheVariants as cnf
use Rattle.pb_dimacs.specs.CnfWhole.{told_of}
use Rattle.pb_dimacs.specs.CnfWhole.CnfTold.{refuses as cnf_refuses}
use Rattle.pb_model.specs.declared.fault.ModelFault.TheVariants as model
use Rattle.pb_model.specs.ModelReading.{told}
use Rattle.pb_suite.specs.declared.outcome.Outcome.{Outcome}
use Rattle.pb_suite.specs.declared.outcome.Outcome.TheVariants as outcome
use Rattle.pb_suite.specs.CommandSpec.{Shelf}

-- the outcome tells the OPB text's first fault, or, of a text without one, that a bound on its objective is too heavy
pub data RefusesOpb (bound : Option ℤ) (text : List ℕ) : Outcome → Type 0 where
  token : (place : Place) (expected : Expected) → IsFirstFault text (opb.Token place expected) → RefusesOpb bound text (outcome.Refused Opb place expected)
  limit : (place : Option Place) (which : LimitKind) → IsFirstFault text (opb.Limit place which) → RefusesOpb bound text (outcome.Limit (Some Opb) which place)
  heavy : (p : Problem) (b : ℤ) → bound ≡ Some b → Reads text p → 2 ^ 100 ≤ bound_weight p b → RefusesOpb bound text (outcome.Limit (Some Opb) Weight None)

-- the outcome tells the CNF text's first fault
pub data RefusesCnf (text : List ℕ) : Outcome → Type 0 where
  token : (place : Place) (expected : Expected) → told_of text ≡ cnf_refuses (cnf.Token place expected) → RefusesCnf text (outcome.Refused Cnf place expected)
  limit : (place : Option Place) (which : LimitKind) → told_of text ≡ cnf_refuses (cnf.Limit place which) → RefusesCnf text (outcome.Limit (Some Cnf) which place)

-- the outcome tells the first fault of what a solver said, beside so many variables
pub data RefusesModel (vars : ℕ) (text : List ℕ) : Outcome → Type 0 where
  token : (place : Place) (expected : Expected) → told vars text ≡ Err (model.Token place expected) → RefusesModel vars text (outcome.Refused Model place expected)
  limit : (place : Option Place) (which : LimitKind) → told vars text ≡ Err (model.Limit place which) → RefusesModel vars text (outcome.Limit (Some Model) which place)

-- the text of this name is not there, or is refused
pub data IsUnread (shelf : Shelf) (name : List ℕ) (Refuses : List ℕ → Outcome → Type 0) : Outcome → Type 0 where
  lacks : shelf name ≡ None → IsUnread shelf name Refuses outcome.ReadFault
  refuses : (text : List ℕ) (answer : Outcome) → shelf name ≡ Some text → Refuses text answer → IsUnread shelf name Refuses answer
