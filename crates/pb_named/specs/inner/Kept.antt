-- A statement that is read where it is kept, as the statement that it is.
use Rattle.std.specs.Prelude.{List}
use Rattle.pb_named.specs.NamedTerms.{NamedTerm}
use Rattle.pb_named.specs.declared.named.NamedStatement.{NamedStatement}
use Rattle.pb_named.specs.declared.statements.Body.{Body}
use Rattle.pb_named.specs.declared.statements.Body.TheVariants.{Plain, Whole}
use Rattle.pb_named.specs.declared.statements.NamedNext.{NamedNext}

abbrev pub body_terms : Body → List NamedTerm
body_terms (Plain ns) = ns
body_terms (Whole ns) = ns.now

abbrev pub statement_in : NamedNext → NamedStatement
statement_in s = record { terms = body_terms s.body; relation = s.relation; right = s.right }
