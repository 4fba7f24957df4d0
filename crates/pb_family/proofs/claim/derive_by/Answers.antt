use Rattle.pb_family.proofs.claim.derive_by.Goals as goal

pub returns-in-Some-second : goal.returns-in-Some-second
returns-in-Some-second g c = rw c.in-Some.is (rw c.in-Some-second.is c.derive_claim.ensures)

pub returns-in-None-second : goal.returns-in-None-second
returns-in-None-second g c = rw c.in-Some.is (rw c.in-None-second.is c.derive_claim-in-None-second.ensures)

pub returns-in-Some-second-2 : goal.returns-in-Some-second-2
returns-in-Some-second-2 g c = rw c.in-None.is (rw c.in-Some-second-2.is c.derive_claim-in-Some-second-2.ensures)

pub returns-in-None-second-2 : goal.returns-in-None-second-2
returns-in-None-second-2 g c = rw c.in-None.is (rw c.in-None-second-2.is c.derive_claim-in-None-second-2.ensures)
