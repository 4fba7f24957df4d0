use Rattle.pb_totalizer.proofs.row_claims.derive_number.Goals as goal

pub derive_pair-requires-clause-pair : goal.derive_pair-requires-clause-pair
derive_pair-requires-clause-pair g c = rw c.in-Up.is at c.requires.together

pub returns-in-Up : goal.returns-in-Up
returns-in-Up g c = rw c.in-Up.is c.derive_pair.ensures

pub derive_limit-requires-clause-pair : goal.derive_limit-requires-clause-pair
derive_limit-requires-clause-pair g c = rw c.in-Down.is at c.requires.together

pub returns-in-Down : goal.returns-in-Down
returns-in-Down g c = rw c.in-Down.is c.derive_limit.ensures
