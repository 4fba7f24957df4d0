-- What is said of an encoded problem: its size, and a line for each row of its table of bounds. Our own.
use Rattle.std.specs.Prelude.{ℕ, ℤ, List, ◌++◌, codes}
use Rattle.std.specs.List.{flat_map}
use Rattle.std.specs.Fmt.{signed_decimal}
use Rattle.pb_base.specs.declared.literal.Lit.{Lit}
use Rattle.pb_base.specs.declared.problem.Problem.{Problem}
use Rattle.pb_family.specs.ClauseText.{literal_text}
use Rattle.pb_base.specs.declared.options.Options.{Options}
use Rattle.pb_encode.specs.Bounds.{bound_rows}
use Rattle.pb_encode.specs.Summaries.{summary_of, summary_text}

-- a value, and the literal whose negation says that the objective is below it
abbrev pub bound_line : ℤ × Lit → List ℕ
bound_line row = codes "bound " ++ signed_decimal row.0 ++ (codes " " ++ literal_text row.1) ++ codes "\n"

abbrev pub bounds_text : List (ℤ × Lit) → List ℕ
bounds_text rows = flat_map bound_line rows

-- the two lines of the summary, and then a line for each row
abbrev pub words_of : Options → Problem → List ℕ
words_of o p = summary_text (summary_of o p) ++ bounds_text (bound_rows o p)
