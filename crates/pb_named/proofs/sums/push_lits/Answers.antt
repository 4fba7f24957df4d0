use Rattle.std.proofs.Common.{rules}
use Rattle.pb_named.specs.declared.named.NamedLit.{NamedLit}
use Rattle.pb_named.specs.inner.Numbering.{place_in}
use Rattle.pb_named.proofs.NumberLemmas.{lits-more}
use Rattle.pb_named.proofs.Taking.{starts-one, gives-one}
use Rattle.pb_named.proofs.sums.push_lits.Goals as goal

pub lit_of-requires-clause-places : goal.lit_of-requires-clause-places
lit_of-requires-clause-places c =
    starts-one (place_in c.args.table.now) (λ (l : NamedLit). l.name) c.args.places.now c.loop-lit.places c.args.lits.now c.loop-lit.lit-index c.lit-item.result (search rules) (search rules) c.requires.places c.loop-lit.invariant.gives

pub loop-lit-preserved : goal.loop-lit-preserved
loop-lit-preserved c =
    let f = place_in c.args.table.now in
    let xs = c.args.lits.now in
    let i = c.loop-lit.lit-index in
    let x = c.lit-item.result in
    record {
      gives = gives-one f (λ (l : NamedLit). l.name) c.args.places.now c.loop-lit.places c.lit_of.new.places xs i x (search rules) (search rules) c.loop-lit.invariant.gives c.lit_of.ensures.places;
      lits = lits-more c.args.table.now c.args.list.now c.loop-lit.list _ xs i x c.lit_of.result (search rules) (search rules) c.loop-lit.invariant.lits c.lit_of.ensures.lit c.in_ok-push.ensures.ok;
    }
