use Rattle.std.proofs.Common.{◌∙◌, ◌∷◌, ◌++◌, [], List, map, All, ap, sym, subst}
use Rattle.pb_base.specs.declared.literal.Lit.{Lit}
use Rattle.pb_named.specs.declared.named.NamedLit.{NamedLit}
use Rattle.pb_named.specs.NamedProblems.{lit_of}
use Rattle.pb_named.specs.inner.Numbering.{place_in, StartsWith, Gives, IsKnown}
use Rattle.pb_named.proofs.Taking.{starts-first, gives-more, starts-behind}
use Rattle.pb_named.proofs.sums.lits_of.Goals as goal

pub lit_of-requires-clause-places : goal.lit_of-requires-clause-places
lit_of-requires-clause-places c =
    let n = c.args.term.now in
    let f = place_in c.args.table.now in
    subst (λ (l : NamedLit). StartsWith f c.args.places.now (l.name ∷ [])) (sym c.lit.ensures) (starts-first f c.args.places.now n.lit.name (map (λ l. l.name) n.more) c.requires.places)

pub lit_of-requires-clause-known : goal.lit_of-requires-clause-known
lit_of-requires-clause-known c = subst (λ (l : NamedLit). IsKnown c.args.table.now l.name) (sym c.lit.ensures) c.requires.known.0

pub push_lits-requires-clause-places : goal.push_lits-requires-clause-places
push_lits-requires-clause-places c =
    let n = c.args.term.now in
    let f = place_in c.args.table.now in
    let names = map (λ (l : NamedLit). l.name) n.more in
    subst (λ (ls : List NamedLit). StartsWith f c.lit_of.new.places (map (λ l. l.name) ls)) (sym c.more.ensures)
    (starts-behind f c.args.places.now c.lit_of.new.places (n.lit.name ∷ []) names c.requires.places (subst (λ (l : NamedLit). Gives f c.args.places.now (l.name ∷ []) c.lit_of.new.places) c.lit.ensures c.lit_of.ensures.places))

pub push_lits-requires-clause-known : goal.push_lits-requires-clause-known
push_lits-requires-clause-known c = subst (λ (ls : List NamedLit). All (λ l. IsKnown c.args.table.now l.name) ls) (sym c.more.ensures) c.requires.known.1

pub returns-clause-places : goal.returns-clause-places
returns-clause-places c =
    let n = c.args.term.now in
    let f = place_in c.args.table.now in
    let names = map (λ (l : NamedLit). l.name) n.more in
    gives-more f c.args.places.now c.lit_of.new.places _ (n.lit.name ∷ []) names
    (subst (λ (l : NamedLit). Gives f c.args.places.now (l.name ∷ []) c.lit_of.new.places) c.lit.ensures c.lit_of.ensures.places)
    (subst (λ (ls : List NamedLit). Gives f c.lit_of.new.places (map (λ l. l.name) ls) c.push_lits.new.places) c.more.ensures c.in_ok-push_lits.ensures.places)

pub returns-clause-lits : goal.returns-clause-lits
returns-clause-lits c =
    let n = c.args.term.now in
    let t = c.args.table.now in
    c.in_ok-push_lits.ensures.lits ∙ ap (λ (ls : List NamedLit). c.push.new.self ++ map (lit_of t) ls) c.more.ensures
    ∙ ap (λ (ls : List Lit). ls ++ map (lit_of t) n.more) (c.in_ok-push.ensures.ok ∙ ap (λ (ls : List Lit). ls ++ c.lit_of.result ∷ []) c.new-lits.ensures ∙ ap (λ (l : Lit). l ∷ []) (c.lit_of.ensures.lit ∙ ap (lit_of t) c.lit.ensures))
