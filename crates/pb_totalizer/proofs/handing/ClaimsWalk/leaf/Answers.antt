use Rattle.pb_family.proofs.Deriving.{takes_no_steps}
use Rattle.pb_tree.proofs.SplitTerms.{leaf_of, some_term}
use Rattle.pb_totalizer.proofs.handing.ClaimsWalk.leaf.Goals as goal

pub returns-clause-leaves : goal.returns-clause-leaves
returns-clause-leaves g c =
    let one = leaf_of c.args._terms.now some_term c.requires.one in
    record { ids = rw one; count = rw one }

pub returns-clause-hands : goal.returns-clause-hands
returns-clause-hands g c sink = takes_no_steps (g.T.StepSink.state sink)
