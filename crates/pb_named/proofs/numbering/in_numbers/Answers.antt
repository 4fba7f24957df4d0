use Rattle.std.proofs.Common.{◌∙◌, [], sym, append-nil, rules}
use Rattle.std.specs.Option.{unwrap_or}
use Rattle.pb_named.specs.NamedProblems.{size, names_of, all_names}
use Rattle.pb_named.specs.inner.Numbering.{place_in}
use Rattle.pb_named.proofs.NumberLemmas.{made-by_table, over-objective, over-all}
use Rattle.pb_named.proofs.TableLemmas.{statement_names}
use Rattle.pb_named.proofs.Taking.{starts-behind, starts-front}
use Rattle.std.specs.List.{flat_map}
use Rattle.pb_named.proofs.numbering.in_numbers.Goals as goal

pub objective_of-requires-clause-places : goal.objective_of-requires-clause-places
objective_of-requires-clause-places c =
    let f = place_in c.args.table.now in
    let p = c.args.problem in
    starts-front f c.args.places.now (names_of (unwrap_or p.objective [])) (flat_map statement_names p.statements) ([], c.requires.places ∙ sym (append-nil (flat_map f (all_names p))))

pub statements_of-requires-clause-places : goal.statements_of-requires-clause-places
statements_of-requires-clause-places c =
    let f = place_in c.args.table.now in
    let p = c.args.problem in
    starts-behind f c.args.places.now _ (names_of (unwrap_or p.objective [])) (flat_map statement_names p.statements) ([], c.requires.places ∙ sym (append-nil (flat_map f (all_names p))))
    c.in_ok-objective.ensures.places

pub returns-clause-ok : goal.returns-clause-ok
returns-clause-ok c =
    let t = c.args.table.now in
    let made = made-by_table t c.args.problem c.args.products.now _ _ c.in_ok-objective.objective c.in_ok-statements.statements c.requires.fresh c.in_ok-objective.ensures.noted c.in_ok-statements.ensures.noted c.in_ok-objective.ensures.objective c.in_ok-statements.ensures.statements in
    c.in_ok-with_lists.ensures ∙ (λ i. record {
      vars = size t;
      numbered = t.numbered;
      names = t.names;
      products = made.0 i;
      objective = made.1 i;
      statements = made.2 i;
    })

pub returns-in_err-objective-clause-many : goal.returns-in_err-objective-clause-many
returns-in_err-objective-clause-many c = λ e. over-objective c.args.table.now c.args.problem c.args.products.now c.requires.fresh (c.in_err-objective.ensures.many (search rules))

pub returns-in_err-statements-clause-many : goal.returns-in_err-statements-clause-many
returns-in_err-statements-clause-many c = λ e. over-all c.args.table.now c.args.problem c.args.products.now _ c.requires.fresh c.in_ok-objective.ensures.noted (c.in_err-statements.ensures.many (search rules))
