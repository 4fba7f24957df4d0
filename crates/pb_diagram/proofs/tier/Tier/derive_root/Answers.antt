use Rattle.pb_diagram.proofs.tier.Tier.derive_root.Goals as goal

pub returns : goal.returns
returns g c = c.hand_clause.ensures _ c.rooted.ensures
