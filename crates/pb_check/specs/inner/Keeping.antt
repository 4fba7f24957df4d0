-- The clauses that are kept while a derivation is checked, and what a CNF tells with them.
use Rattle.std.specs.Prelude.{◌≡◌, ℕ, true, List, [], ◌∷◌, ◌++◌, Option, Some, None, if◌then◌else◌}
use Rattle.pb_base.specs.declared.literal.Lit.{Lit}
use Rattle.pb_desk.specs.Desk.{DeskState}
use Rattle.pb_desk.specs.LineReading.{TakesAhead}
use Rattle.pb_desk.specs.LineReaders.{Reader}
use Rattle.pb_desk.specs.TwoSlots.{ReadsBoth}
use Rattle.pb_dimacs.specs.declared.head.CnfHead.{CnfHead}
use Rattle.pb_dimacs.specs.CnfReaders.{CnfReader, symbols_left}
use Rattle.pb_dimacs.specs.CnfWhole.{told_from}
use Rattle.pb_dimacs.specs.CnfWhole.CnfTold.{says}
use Rattle.pb_check.specs.declared.kept.CollectedClauses.{CollectedClauses}
use Rattle.pb_check.specs.declared.taking.Taken.{Taken}
use Rattle.pb_check.specs.declared.taking.Taken.TheVariants as taken
use Rattle.pb_check.specs.declared.verdict.Verdict.{Verdict}
use Rattle.pb_check.specs.declared.verdict.Verdict.TheVariants.{Accepted, Rejected}

-- what is kept once the next clause was read, if there is one
abbrev pub with_next : CollectedClauses → Option (List Lit) → CollectedClauses
with_next k None = k
with_next k (Some ls) = if k.wanted then record { wanted = k.wanted; clauses = k.clauses ++ ls ∷ [] } else k

-- what is kept, and the clauses that what is left of the CNF tells behind it, are all these
pub record Completes (k : CollectedClauses) (r : CnfReader) (text : List ℕ) (all : List (List Lit)) : Type 0 where
  pub later : List (List Lit)
  pub all_are : all ≡ k.clauses ++ later
  pub tells : (head : CnfHead) → head.vars ≡ r.vars → told_from head r.left (symbols_left r text) ≡ says head later

-- the same, where clauses are wanted
abbrev pub Tells : CollectedClauses → CnfReader → List ℕ → List (List Lit) → Type 0
Tells k r text all = k.wanted ≡ true → Completes k r text all

-- what a line among the steps kept, from there on and from here on
abbrev pub Keeps : Taken → CollectedClauses → CnfReader → CollectedClauses → CnfReader → List ℕ → List ℕ → Type 0
Keeps taken.On k r k' r' text rest = (k'.wanted ≡ k.wanted) × ((all : List (List Lit)) → Tells k' r' rest all → Tells k r text all)
Keeps taken.Last k r k' r' text rest = Tells k r text k'.clauses
Keeps (taken.Denied d) k r k' r' text rest = Unit {0}

abbrev pub KeepsNext : Taken → CollectedClauses → CnfReader → CollectedClauses → CnfReader → DeskState → DeskState → Type 0
KeepsNext got k r k' r' a b = TakesAhead r.lines.slot r.lines.ahead r'.lines.ahead a b (Keeps got k r k' r')

abbrev pub KeepsLine : Taken → CollectedClauses → CnfReader → Reader → CollectedClauses → CnfReader → Reader → DeskState → DeskState → Type 0
KeepsLine got k r proof k' r' proof' a b = ReadsBoth r.lines proof r'.lines proof' a b (λ c p c' p'. Keeps got k r k' r' c c')

-- what is kept in the end, by the verdict: all, where the derivation is accepted
abbrev pub KeptAll : Verdict → CollectedClauses → CnfReader → CollectedClauses → List ℕ → Type 0
KeptAll Accepted k r k' text = Tells k r text k'.clauses
KeptAll (Rejected line denied) k r k' text = Unit {0}

abbrev pub KeptSoFar : Option Verdict → CollectedClauses → CnfReader → CollectedClauses → List ℕ → Type 0
KeptSoFar None k r k' text = Tells k r text k'.clauses
KeptSoFar (Some v) k r k' text = KeptAll v k r k' text

abbrev pub KeepsSteps : Option Verdict → CollectedClauses → CnfReader → Reader → CollectedClauses → CnfReader → Reader → DeskState → DeskState → Type 0
KeepsSteps v k r proof k' r' proof' a b = ReadsBoth r.lines proof r'.lines proof' a b (λ c p c' p'. KeptSoFar v k r k' c)

abbrev pub KeepsLines : Verdict → CollectedClauses → CnfReader → Reader → CollectedClauses → CnfReader → Reader → DeskState → DeskState → Type 0
KeepsLines v k r proof k' r' proof' a b = ReadsBoth r.lines proof r'.lines proof' a b (λ c p c' p'. KeptAll v k r k' c)
