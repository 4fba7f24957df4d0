use Rattle.std.proofs.Common.{arith}
use Rattle.std.proofs.lemmas.Bool.{OnTrue_at}
use Rattle.pb_database.proofs.Indexing.{keeps_ids_again, added_more, all_added}
use Rattle.pb_database.proofs.index.enter.Goals as goal

pub enter_one-requires : goal.enter_one-requires
enter_one-requires c = omega (arith, c.requires, c.loop-term.invariant.kept.size)

pub loop-term-preserved : goal.loop-term-preserved
loop-term-preserved c =
    let after = c.enter_one.new.lists.items in
    record {
      kept = keeps_ids_again c.args.lists.now.items c.loop-term.lists.items after c.loop-term.invariant.kept c.enter_one.ensures.kept;
      added = added_more c.args.original c.args.terms.now c.args.id c.loop-term.term-index c.term-item.result c.index.result c.loop-term.lists.items after c.loop-term-test.true c.term-item.is c.index.ensures.value c.enter_one.ensures.kept
          (OnTrue_at c.if-not-enter_one.false c.enter_one.ensures.added) c.loop-term.invariant.added;
    }

pub returns-clause-added : goal.returns-clause-added
returns-clause-added c = all_added c.args.original c.args.terms.now c.args.id c.loop-term.term-index c.loop-term.lists.items c.loop-term-test.false c.loop-term.invariant.added
