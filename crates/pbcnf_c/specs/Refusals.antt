-- How a call ended, in numbers. Our own.
use Rattle.std.specs.Prelude.{ℕ, Option, Some, None}
use Rattle.pb_base.specs.declared.expected.Expected.{Expected}
use Rattle.pb_base.specs.declared.expected.Expected.TheVariants as expected
use Rattle.pb_base.specs.declared.file.File.{File}
use Rattle.pb_base.specs.declared.file.File.TheVariants as file
use Rattle.pb_base.specs.declared.limit.LimitKind.{LimitKind}
use Rattle.pb_base.specs.declared.limit.LimitKind.TheVariants as limit
use Rattle.pb_base.specs.declared.place.Place.{Place}
use Rattle.pb_steps.specs.declared.denied.Denied.{Denied}
use Rattle.pb_steps.specs.declared.denied.Denied.TheVariants as denied
use Rattle.pb_lrat.specs.declared.denied.LratDenied.{LratDenied}
use Rattle.pb_lrat.specs.declared.denied.LratDenied.TheVariants as lrat
use Rattle.pb_suite.specs.declared.outcome.Outcome.{Outcome}
use Rattle.pb_suite.specs.declared.outcome.Outcome.TheVariants as outcome
use Rattle.pbcnf_c.specs.declared.refusal.PbcnfRefusal.{PbcnfRefusal}

-- nothing but a status
abbrev pub blank : ℕ → PbcnfRefusal
blank status = record { line = 0; column = 0; number = 0; status = status; file = 0; expected = 0; limit = 0; denied = 0; unproved = 0 }

abbrev pub file_number : File → ℕ
file_number file.Opb = 1
file_number file.Cnf = 2
file_number file.Proof = 3
file_number file.Model = 4
file_number file.Lrat = 5

abbrev pub limit_number : LimitKind → ℕ
limit_number limit.Text = 1
limit_number limit.Statements = 2
limit_number limit.Terms = 3
limit_number limit.Weight = 4
limit_number limit.Bounds = 5
limit_number limit.Variables = 6
limit_number limit.Clauses = 7
limit_number limit.Line = 8
limit_number limit.Lines = 9
limit_number limit.Number = 10
limit_number limit.Name = 11

abbrev pub expected_number : Expected → ℕ
expected_number expected.Start = 1
expected_number expected.Next = 2
expected_number expected.TermOrRelation = 3
expected_number expected.TermOrSemicolon = 4
expected_number expected.Literal = 5
expected_number expected.Integer = 6
expected_number expected.Semicolon = 7
expected_number expected.PLine = 8
expected_number expected.CnfWord = 9
expected_number expected.VarCount = 10
expected_number expected.ClauseCount = 11
expected_number expected.LineEnd = 12
expected_number expected.ClauseWord = 13
expected_number expected.CnfEnd = 14
expected_number expected.ModelLine = 15
expected_number expected.ModelLiteral = 16
expected_number expected.Opposite = 17
expected_number expected.ModelZero = 18
expected_number expected.Head = 19
expected_number expected.Loaded = 20
expected_number expected.LoadedCount = 21
expected_number expected.StepWord = 22
expected_number expected.Operand = 23
expected_number expected.Factor = 24
expected_number expected.Term = 25
expected_number expected.Id = 26
expected_number expected.SetVar = 27
expected_number expected.Arrow = 28
expected_number expected.Bit = 29
expected_number expected.DerivationEnd = 30
expected_number expected.LratId = 31
expected_number expected.LratLiteral = 32
expected_number expected.LratHint = 33
expected_number expected.LratEnd = 34

-- the reason, and the variable or id that it names
abbrev pub denied_number : Denied → ℕ × ℕ
denied_number (denied.UnknownVar var) = (1, var)
denied_number (denied.UnknownId id) = (2, id)
denied_number denied.Stack = (3, 0)
denied_number denied.Width = (4, 0)
denied_number (denied.SetsOriginal var) = (5, var)
denied_number denied.NotPropagated = (6, 0)
denied_number (denied.Obligation id) = (7, id)
denied_number denied.NoClause = (8, 0)
denied_number (denied.NotImplied id) = (9, id)
denied_number (denied.OutDeleted id) = (10, id)
denied_number denied.ClausesLeft = (11, 0)

abbrev pub lrat_number : LratDenied → ℕ × ℕ
lrat_number (lrat.OldId id) = (1, id)
lrat_number (lrat.UnknownHint id) = (2, id)
lrat_number lrat.NoConflict = (3, 0)
lrat_number lrat.NoEmptyClause = (4, 0)

-- lines and columns count from 1, so that 0 is no place
abbrev pub line_at : Option Place → ℕ
line_at None = 0
line_at (Some place) = place.line

abbrev pub column_at : Option Place → ℕ
column_at None = 0
column_at (Some place) = place.column

abbrev pub file_at : Option File → ℕ
file_at None = 0
file_at (Some f) = file_number f

abbrev pub refused_told : File → Place → Expected → PbcnfRefusal
refused_told f place e = record { line = place.line; column = place.column; number = 0; status = 1; file = file_number f; expected = expected_number e; limit = 0; denied = 0; unproved = 0 }

abbrev pub limit_told : Option File → LimitKind → Option Place → PbcnfRefusal
limit_told f which place = record { line = line_at place; column = column_at place; number = 0; status = 3; file = file_at f; expected = 0; limit = limit_number which; denied = 0; unproved = 0 }

abbrev pub denied_told : ℕ → Denied → PbcnfRefusal
denied_told line d = record { line = line; column = 0; number = (denied_number d).1; status = 7; file = 0; expected = 0; limit = 0; denied = (denied_number d).0; unproved = 0 }

abbrev pub lrat_told : ℕ → LratDenied → PbcnfRefusal
lrat_told line why = record { line = line; column = 0; number = (lrat_number why).1; status = 10; file = 0; expected = 0; limit = 0; denied = 0; unproved = (lrat_number why).0 }

-- the text, which has no place where it lacks an objective
abbrev pub objective_told : PbcnfRefusal
objective_told = record (blank 1) { file = 1 }

abbrev pub refusal_of : Outcome → PbcnfRefusal
refusal_of outcome.Done = blank 0
refusal_of (outcome.Refused f place e) = refused_told f place e
refusal_of outcome.Usage = blank 2
refusal_of (outcome.Limit f which place) = limit_told f which place
refusal_of outcome.ReadFault = blank 4
refusal_of outcome.WriteFault = blank 5
refusal_of outcome.NoMemory = blank 6
refusal_of (outcome.Rejected line d) = denied_told line d
refusal_of (outcome.NotASolution statement) = record { line = 0; column = 0; number = statement; status = 8; file = 0; expected = 0; limit = 0; denied = 0; unproved = 0 }
refusal_of outcome.NoModel = blank 9
refusal_of outcome.NoObjective = objective_told
refusal_of (outcome.NotRefuted line why) = lrat_told line why
