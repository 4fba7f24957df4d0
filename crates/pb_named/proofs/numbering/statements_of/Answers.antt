use Rattle.std.proofs.Common.{◌∙◌, List, ap, sym, map}
use Rattle.std.specs.List.{flat_map}
use Rattle.pb_named.specs.declared.named.NamedStatement.{NamedStatement}
use Rattle.pb_named.specs.NamedProblems.{products_in, statement_of}
use Rattle.pb_named.proofs.NumberLemmas.{noting}
use Rattle.pb_named.proofs.ColumnLemmas.{plain-statements, plain-products}
use Rattle.pb_named.proofs.numbering.statements_of.Goals as goal

pub returns-in-Ok-clause-noted : goal.returns-in-Ok-clause-noted
returns-in-Ok-clause-noted c =
    let t = c.args.table.now in
    sym (ap (noting c.args.products.now) (ap (λ (ss : List NamedStatement). products_in t (flat_map (λ s. s.terms) ss)) (sym c.in-Ok.ensures.plain) ∙ plain-products t c.in-Ok.list))

pub returns-in-Ok-clause-statements : goal.returns-in-Ok-clause-statements
returns-in-Ok-clause-statements c =
    let t = c.args.table.now in
    let products = noting c.args.products.now (products_in t (flat_map (λ s. s.terms) c.args.statements)) in
    sym (ap (λ (ss : List NamedStatement). map (statement_of t products) ss) (sym c.in-Ok.ensures.plain) ∙ plain-statements t products c.in-Ok.list)
