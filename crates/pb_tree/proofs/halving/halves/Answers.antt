use Rattle.pb_tree.proofs.SplitTerms.{halves_of}
use Rattle.pb_tree.proofs.halving.halves.Goals as goal

pub returns : goal.returns
returns c = halves_of c.args.terms.now c.split_at.result.0.now c.split_at.result.1.now c.requires c.split_at.ensures.front c.split_at.ensures.back
