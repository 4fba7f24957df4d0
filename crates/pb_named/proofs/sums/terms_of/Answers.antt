use Rattle.std.proofs.Common.{◌∙◌, ◌++◌, ap, take, rules}
use Rattle.pb_named.specs.NamedProblems.{term_names}
use Rattle.pb_named.specs.inner.Numbering.{place_in}
use Rattle.pb_named.proofs.NumberLemmas.{numbers-item, over-item}
use Rattle.pb_named.proofs.Taking.{starts-item, gives-push}
use Rattle.pb_named.proofs.sums.terms_of.Goals as goal

pub term_of-requires-clause-places : goal.term_of-requires-clause-places
term_of-requires-clause-places c =
    starts-item (place_in c.args.table.now) term_names c.args.places.now c.loop-term.places c.args.terms.now c.loop-term.term-index c.term-item.result (search rules) (search rules) c.requires.places c.loop-term.invariant.gives

pub loop-term-preserved : goal.loop-term-preserved
loop-term-preserved c =
    let t = c.args.table.now in
    let x = c.term-item.result in
    numbers-item t c.args.products.now c.args.places.now c.args.terms.now c.loop-term.term-index x c.loop-term.products _ c.loop-term.places _ c.loop-term.list _ (search rules) (search rules) c.loop-term.invariant
    (gives-push (place_in t) term_names c.args.places.now c.loop-term.places _ (take c.loop-term.term-index c.args.terms.now) x c.loop-term.invariant.gives c.in_ok-term_of.ensures.places)
    c.in_ok-term_of.ensures.noted
    (c.in_ok-push_some.ensures ∙ ap (λ ts. c.loop-term.list ++ ts) c.in_ok-term_of.ensures.term)
    c.in_ok-term_of.ensures.few

pub returns-in_err-term_of-clause-many : goal.returns-in_err-term_of-clause-many
returns-in_err-term_of-clause-many c = λ e.
    over-item c.args.table.now c.args.products.now c.args.terms.now c.loop-term.term-index c.term-item.result c.loop-term.products (search rules) (search rules) c.loop-term.invariant.noted (c.in_err-term_of.ensures.many (search rules))
