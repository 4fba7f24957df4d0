-- The specification of propagating given literals over a CNF. Unit propagation is the usual one; what is said of it is our own.
-- It is stated over clauses, without coefficients. Conflicts are the same over clauses and over their forms as constraints, and so
-- is what is reached if there is none (`clauses_propagate_as_constraints`).
use Rattle.std.specs.Prelude.{ℕ, ◌≡◌, List, [], ◌∷◌, ◌++◌, Some, IfSome, codes}
use Rattle.pb_base.specs.declared.file.File.TheVariants.{Cnf}
use Rattle.pb_base.specs.declared.literal.Lit.{Lit}
use Rattle.pb_norm.specs.ClausePropagation.{ClauseConflict}
use Rattle.pb_unit.specs.Reached.{AreReached}
use Rattle.pb_family.specs.ClauseText.{clause_text}
use Rattle.pb_dimacs.specs.declared.head.CnfHead.{CnfHead}
use Rattle.pb_dimacs.specs.CnfForms.{LeavesTold}
use Rattle.pb_dimacs.specs.CnfWhole.{told_of}
use Rattle.pb_dimacs.specs.CnfWhole.CnfTold.{says}
use Rattle.pb_words.specs.ProbeWords.{ProbeWords}
use Rattle.pb_suite.specs.CommandSpec.{CommandSpec, Shelf}
use Rattle.pb_suite.specs.Refusals.{IsUnread, RefusesCnf}

-- what is said of literals that are given beside clauses; those that are fixed stand as in a clause of CNF text
pub data SaysOfLits (clauses : List (List Lit)) (given : List Lit) : List ℕ → Type 0 where
  conflict : ClauseConflict clauses given → SaysOfLits clauses given (codes "conflict\n")
  fixed : (ls : List Lit) → AreReached clauses given ls → SaysOfLits clauses given (codes "fixed " ++ clause_text ls)

-- the shelf has a text, and of its clauses this line is to be said
pub record IsProbed (shelf : Shelf) (w : ProbeWords) (line : List ℕ) : Type 0 where
  pub text : List ℕ
  pub head : CnfHead
  pub clauses : List (List Lit)
  pub on_shelf : shelf w.cnf ≡ Some text
  pub told : told_of text ≡ says head clauses
  pub of_lits : SaysOfLits clauses w.lits line

abbrev pub probe_spec : ProbeWords → CommandSpec
probe_spec w = record {
  texts = record { kind = Cnf; name = w.cnf } ∷ [];
  leaves_open = λ shelf taken ended. IfSome (taken 0 w.cnf) LeavesTold;
  stops = λ shelf answer. IsUnread shelf w.cnf RefusesCnf answer;
  done = λ shelf out. (out.made ≡ []) × IsProbed shelf w out.said;
}
