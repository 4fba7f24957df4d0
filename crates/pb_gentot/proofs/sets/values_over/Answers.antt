use Rattle.pb_gentot.proofs.Parts.{is_there}
use Rattle.pb_gentot.proofs.sets.values_over.Goals as goal

pub unwrap-requires : goal.unwrap-requires
unwrap-requires c = is_there c.args.cap c.args.left.now c.args.right.now _ c.in_ok-found.ensures c.requires.fits

pub returns : goal.returns
returns c = (rw c.unwrap.ensures at c.in_ok-found.ensures).0
