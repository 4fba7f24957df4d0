-- The outcome that can have the numbers of a refusal. It serves proofs.
use Rattle.std.specs.Prelude.{ℕ, ◌==◌, ◌||◌, nat_le, Option, Some, None, option_and_then, if◌then◌else◌}
use Rattle.pb_base.specs.declared.expected.Expected.{Expected}
use Rattle.pb_base.specs.declared.expected.Expected.TheVariants as expected
use Rattle.pb_base.specs.declared.file.File.{File}
use Rattle.pb_base.specs.declared.file.File.TheVariants as file
use Rattle.pb_base.specs.declared.limit.LimitKind.{LimitKind}
use Rattle.pb_base.specs.declared.limit.LimitKind.TheVariants as limit
use Rattle.pb_base.specs.declared.place.Place.{Place}
use Rattle.pb_steps.specs.declared.denied.Denied.{Denied}
use Rattle.pb_steps.specs.declared.denied.Denied.TheVariants as denied
use Rattle.pb_lrat.specs.declared.denied.LratDenied.{LratDenied}
use Rattle.pb_lrat.specs.declared.denied.LratDenied.TheVariants as lrat
use Rattle.pb_suite.specs.declared.outcome.Outcome.{Outcome}
use Rattle.pb_suite.specs.declared.outcome.Outcome.TheVariants as outcome
use Rattle.pbcnf_c.specs.declared.refusal.PbcnfRefusal.{PbcnfRefusal}

abbrev pub file_at : ℕ → Option File
file_at n = if n == 1 then Some file.Opb else if n == 2 then Some file.Cnf else if n == 3 then Some file.Proof else if n == 4 then Some file.Model else if n == 5 then Some file.Lrat else None

abbrev pub limit_at : ℕ → Option LimitKind
limit_at n = if n == 1 then Some limit.Text else if n == 2 then Some limit.Statements else if n == 3 then Some limit.Terms else if n == 4 then Some limit.Weight else if n == 5 then Some limit.Bounds else if n == 6 then Some limit.Variables else if n == 7 then Some limit.Clauses else if n == 8 then Some limit.Line else if n == 9 then Some limit.Lines else if n == 10 then Some limit.Number else if n == 11 then Some limit.Name else None

abbrev pub expected_at : ℕ → Option Expected
expected_at n = if n == 1 then Some expected.Start else if n == 2 then Some expected.Next else if n == 3 then Some expected.TermOrRelation else if n == 4 then Some expected.TermOrSemicolon else if n == 5 then Some expected.Literal else if n == 6 then Some expected.Integer else if n == 7 then Some expected.Semicolon else if n == 8 then Some expected.PLine else if n == 9 then Some expected.CnfWord else if n == 10 then Some expected.VarCount else if n == 11 then Some expected.ClauseCount else if n == 12 then Some expected.LineEnd else if n == 13 then Some expected.ClauseWord else if n == 14 then Some expected.CnfEnd else if n == 15 then Some expected.ModelLine else if n == 16 then Some expected.ModelLiteral else if n == 17 then Some expected.Opposite else if n == 18 then Some expected.ModelZero else if n == 19 then Some expected.Head else if n == 20 then Some expected.Loaded else if n == 21 then Some expected.LoadedCount else if n == 22 then Some expected.StepWord else if n == 23 then Some expected.Operand else if n == 24 then Some expected.Factor else if n == 25 then Some expected.Term else if n == 26 then Some expected.Id else if n == 27 then Some expected.SetVar else if n == 28 then Some expected.Arrow else if n == 29 then Some expected.Bit else if n == 30 then Some expected.DerivationEnd else if n == 31 then Some expected.LratId else if n == 32 then Some expected.LratLiteral else if n == 33 then Some expected.LratHint else if n == 34 then Some expected.LratEnd else None

abbrev pub place_at : PbcnfRefusal → Option Place
place_at r = if r.line == 0 then None else Some (record { line = r.line; column = r.column })

abbrev pub var_at : ℕ → Option ℕ
var_at n = if (n == 0) || nat_le 2147483648 n then None else Some n

abbrev pub denied_at : ℕ → ℕ → Option Denied
denied_at why n = if why == 1 then option_and_then (λ var. Some (denied.UnknownVar var)) (var_at n) else if why == 2 then Some (denied.UnknownId n) else if why == 3 then Some denied.Stack else if why == 4 then Some denied.Width else if why == 5 then option_and_then (λ var. Some (denied.SetsOriginal var)) (var_at n) else if why == 6 then Some denied.NotPropagated else if why == 7 then Some (denied.Obligation n) else if why == 8 then Some denied.NoClause else if why == 9 then Some (denied.NotImplied n) else if why == 10 then Some (denied.OutDeleted n) else if why == 11 then Some denied.ClausesLeft else None

abbrev pub lrat_at : ℕ → ℕ → Option LratDenied
lrat_at why n = if why == 1 then Some (lrat.OldId n) else if why == 2 then Some (lrat.UnknownHint n) else if why == 3 then Some lrat.NoConflict else if why == 4 then Some lrat.NoEmptyClause else None

abbrev pub refused_at : PbcnfRefusal → Option Outcome
refused_at r = option_and_then (λ f. option_and_then (λ place. option_and_then (λ e. Some (outcome.Refused f place e)) (expected_at r.expected)) (place_at r)) (file_at r.file)

abbrev pub limited_at : PbcnfRefusal → Option Outcome
limited_at r = option_and_then (λ which. if r.file == 0 then Some (outcome.Limit None which None) else option_and_then (λ f. Some (outcome.Limit (Some f) which (place_at r))) (file_at r.file)) (limit_at r.limit)

abbrev pub rejected_at : PbcnfRefusal → Option Outcome
rejected_at r = option_and_then (λ d. Some (outcome.Rejected r.line d)) (denied_at r.denied r.number)

abbrev pub none_refuted_at : PbcnfRefusal → Option Outcome
none_refuted_at r = option_and_then (λ why. Some (outcome.NotRefuted r.line why)) (lrat_at r.unproved r.number)

abbrev pub outcome_at : PbcnfRefusal → Option Outcome
outcome_at r = if r.status == 0 then Some outcome.Done else if r.status == 1 then (if r.line == 0 then Some outcome.NoObjective else refused_at r) else if r.status == 2 then Some outcome.Usage else if r.status == 3 then limited_at r else if r.status == 5 then Some outcome.WriteFault else if r.status == 6 then Some outcome.NoMemory else if r.status == 7 then rejected_at r else if r.status == 8 then Some (outcome.NotASolution r.number) else if r.status == 9 then Some outcome.NoModel else if r.status == 10 then none_refuted_at r else None
