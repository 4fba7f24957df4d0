-- The words by which places, texts, limits and what was expected are told. Our own.
use Rattle.std.specs.Prelude.{ℕ, List, ◌++◌, codes, decimal}
use Rattle.pb_base.specs.declared.expected.Expected.{Expected}
use Rattle.pb_base.specs.declared.expected.Expected.TheVariants as expected
use Rattle.pb_base.specs.declared.file.File.{File}
use Rattle.pb_base.specs.declared.file.File.TheVariants as file
use Rattle.pb_base.specs.declared.limit.LimitKind.{LimitKind}
use Rattle.pb_base.specs.declared.limit.LimitKind.TheVariants as limit
use Rattle.pb_base.specs.declared.place.Place.{Place}

-- the line and the column
abbrev pub place_text : Place → List ℕ
place_text place = decimal place.line ++ codes ":" ++ decimal place.column

abbrev pub file_word : File → List ℕ
file_word file.Opb = codes "OPB"
file_word file.Cnf = codes "CNF"
file_word file.Proof = codes "PROOF"
file_word file.Model = codes "MODEL"
file_word file.Lrat = codes "LRAT"

abbrev pub limit_word : LimitKind → List ℕ
limit_word limit.Text = codes "text"
limit_word limit.Statements = codes "statements"
limit_word limit.Terms = codes "terms"
limit_word limit.Weight = codes "weight"
limit_word limit.Bounds = codes "bounds"
limit_word limit.Variables = codes "variables"
limit_word limit.Clauses = codes "clauses"
limit_word limit.Line = codes "line"
limit_word limit.Lines = codes "lines"
limit_word limit.Number = codes "number"
limit_word limit.Name = codes "name"

abbrev pub expected_words : Expected → List ℕ
expected_words expected.Start = codes "min:, a statement or the end"
expected_words expected.Next = codes "a statement or the end"
expected_words expected.TermOrRelation = codes "a coefficient or a relation"
expected_words expected.TermOrSemicolon = codes "a coefficient or ;"
expected_words expected.Literal = codes "a literal"
expected_words expected.Integer = codes "an integer"
expected_words expected.Semicolon = codes ";"
expected_words expected.PLine = codes "p line"
expected_words expected.CnfWord = codes "cnf word"
expected_words expected.VarCount = codes "var count"
expected_words expected.ClauseCount = codes "clause count"
expected_words expected.LineEnd = codes "line end"
expected_words expected.ClauseWord = codes "clause word"
expected_words expected.CnfEnd = codes "cnf end"
expected_words expected.ModelLine = codes "model line"
expected_words expected.ModelLiteral = codes "model literal"
expected_words expected.Opposite = codes "opposite"
expected_words expected.ModelZero = codes "model zero"
expected_words expected.Head = codes "head"
expected_words expected.Loaded = codes "loaded"
expected_words expected.LoadedCount = codes "loaded count"
expected_words expected.StepWord = codes "step word"
expected_words expected.Operand = codes "operand"
expected_words expected.Factor = codes "factor"
expected_words expected.Term = codes "term"
expected_words expected.Id = codes "id"
expected_words expected.SetVar = codes "set var"
expected_words expected.Arrow = codes "arrow"
expected_words expected.Bit = codes "bit"
expected_words expected.DerivationEnd = codes "derivation end"
expected_words expected.LratId = codes "lrat id"
expected_words expected.LratLiteral = codes "lrat literal"
expected_words expected.LratHint = codes "lrat hint"
expected_words expected.LratEnd = codes "lrat end"
