use Rattle.pb_family.proofs.claim.derive_propagated.Goals as goal

pub returns : goal.returns
returns g c = c.derive_and_put_out.ensures _ c.propagated_step.ensures
