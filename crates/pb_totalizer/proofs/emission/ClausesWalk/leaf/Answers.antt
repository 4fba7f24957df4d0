use Rattle.pb_tree.proofs.SplitTerms.{leaf_of}
use Rattle.pb_totalizer.proofs.emission.ClausesWalk.leaf.Goals as goal

pub returns-clause-leaves : goal.returns-clause-leaves
returns-clause-leaves g c =
    let one = leaf_of c.args.terms.now c.index-terms-0.result c.requires.one in
    record { literals = rw one; count = rw one }
