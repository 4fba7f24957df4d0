use Rattle.std.proofs.Common.{◌∙◌, ◌∷◌, [], map, ap, sym, subst}
use Rattle.pb_named.specs.declared.named.NamedLit.{NamedLit}
use Rattle.pb_named.specs.Products.{factor_of}
use Rattle.pb_named.specs.inner.Numbering.{place_in, StartsWith, IsKnown}
use Rattle.pb_named.proofs.Taking.{starts-first}
use Rattle.pb_named.proofs.sums.factor_in.Goals as goal

pub lit_of-lit-requires-clause-places : goal.lit_of-lit-requires-clause-places
lit_of-lit-requires-clause-places c =
    let n = c.args.term.now in
    let f = place_in c.args.table.now in
    subst (λ (l : NamedLit). StartsWith f c.args.places.now (l.name ∷ [])) (sym c.lit.ensures) (starts-first f c.args.places.now n.lit.name (map (λ l. l.name) n.more) c.requires.places)

pub lit_of-lit-requires-clause-known : goal.lit_of-lit-requires-clause-known
lit_of-lit-requires-clause-known c = subst (λ (l : NamedLit). IsKnown c.args.table.now l.name) (sym c.lit.ensures) c.requires.known.0

pub returns-clause-factor : goal.returns-clause-factor
returns-clause-factor c = c.factor_of.ensures ∙ ap factor_of c.in_ok-lits.ensures.lits
