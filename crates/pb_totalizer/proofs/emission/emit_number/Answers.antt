use Rattle.pb_totalizer.proofs.emission.emit_number.Goals as goal

pub hand_over-requires : goal.hand_over-requires
hand_over-requires g c = rw c.in-Up.is at c.requires

pub returns-in-Up : goal.returns-in-Up
returns-in-Up g c = rw c.in-Up.is c.hand_over.ensures

pub hand_over_limit-requires : goal.hand_over_limit-requires
hand_over_limit-requires g c = rw c.in-Down.is at c.requires

pub returns-in-Down : goal.returns-in-Down
returns-in-Down g c = rw c.in-Down.is c.hand_over_limit.ensures
