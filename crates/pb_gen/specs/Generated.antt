-- The problem that is generated, and its text. Our own.
use Rattle.std.specs.Prelude.{ℕ, zero, suc, ◌+◌, Bool, List, [], ◌∷◌, ◌++◌, None, codes, decimal, if◌then◌else◌}
use Rattle.std.specs.Fmt.{signed_decimal}
use Rattle.std.specs.List.{flat_map}
use Rattle.pb_base.specs.declared.literal.Term.{Term}
use Rattle.pb_base.specs.declared.problem.Problem.{Problem}
use Rattle.pb_base.specs.declared.problem.Raw.{Raw}
use Rattle.pb_base.specs.declared.problem.Relation.{Relation}
use Rattle.pb_base.specs.declared.problem.Relation.TheVariants.{AtLeast, AtMost, Equal}
use Rattle.pb_gen.specs.Draws.{state_after}
use Rattle.pb_gen.specs.Drawn.{drawn_statement, statement_draws}

-- ---- the problem

-- so many statements, each drawn behind the one before it
abbrev pub drawn_statements : ℕ → ℕ → ℕ → List Raw
drawn_statements vars zero seed = []
drawn_statements vars (suc n) seed = drawn_statement vars seed ∷ drawn_statements vars n (state_after (statement_draws seed) seed)

abbrev pub generated_problem : ℕ → ℕ → Problem
generated_problem n seed = record { vars = n + 10; numbered = n + 10; names = []; products = []; objective = None; statements = drawn_statements (n + 10) n seed }

-- ---- its text

abbrev pub sign_text : Bool → List ℕ
sign_text positive = if positive then codes " x" else codes " ~x"

-- a term with a positive coefficient, and a blank
abbrev pub term_text : Term → List ℕ
term_text t = codes "+" ++ signed_decimal t.coef ++ sign_text t.lit.positive ++ decimal t.lit.var ++ codes " "

abbrev pub relation_text : Relation → List ℕ
relation_text AtLeast = codes ">= "
relation_text AtMost = codes "<= "
relation_text Equal = codes "= "

abbrev pub statement_text : Raw → List ℕ
statement_text s = flat_map term_text s.terms ++ relation_text s.relation ++ signed_decimal s.right ++ codes " ;\n"

abbrev pub header_text : ℕ → ℕ → List ℕ
header_text vars count = codes "* #variable= " ++ decimal vars ++ codes " #constraint= " ++ decimal count ++ codes "\n"

-- the text of the generated problem
abbrev pub generated : ℕ → ℕ → List ℕ
generated n seed = header_text (n + 10) n ++ flat_map statement_text (drawn_statements (n + 10) n seed)
