-- What is due of a text that says clauses.
use Rattle.std.proofs.Common.{◌≡◌, ℕ, List, Some, refl}
use Rattle.pb_desk.specs.View.{Told}
use Rattle.pb_desk.specs.Desk.{DeskState, IfTold}
use Rattle.pb_norm.specs.Constraints.{Constraint}
use Rattle.pb_dimacs.specs.declared.head.CnfHead.{CnfHead}
use Rattle.pb_dimacs.specs.CnfForms.{SaysForms}
use Rattle.pb_words.specs.ProbeWords.{ProbeWords}
use Rattle.pb_suite.specs.Outputs.{only_words}
use Rattle.pb_suite.specs.CommandSpec.{Shelf}
use Rattle.pb_suite.specs.ProbeSpec.{probe_spec, SaysOfLits}
use Rattle.pb_unit.specs.Reaching.{OfClauses}
use Rattle.pb_suite.proofs.Texts.{told_more}

-- the shelf has a text that says these forms
abbrev pub HasForms : ProbeWords → CnfHead → List Constraint → Shelf → Type 0
HasForms w head forms shelf = (text : List ℕ) × (shelf w.cnf ≡ Some text) × SaysForms head forms text

pub line_due : (w : ProbeWords) (head : CnfHead) (forms : List Constraint) (line : List ℕ) → OfClauses forms (λ clauses. SaysOfLits clauses w.lits line)
    → (b : DeskState) → IfTold b (λ t. HasForms w head forms t.shelf) → IfTold b (λ t. (probe_spec w).done t.shelf (only_words line))
line_due w head forms line is b has = told_more b (λ t. HasForms w head forms t.shelf) (λ t. (probe_spec w).done t.shelf (only_words line)) due_of has
  where
    due_of : (t : Told) → HasForms w head forms t.shelf → (probe_spec w).done t.shelf (only_words line)
    due_of t found =
        let told = found.2 in (
          refl,
          record {
            text = found.0;
            head = head;
            clauses = told.0;
            on_shelf = found.1;
            told = told.1;
            of_lits = is told.0 told.2;
          },
        )
