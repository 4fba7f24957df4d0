use Rattle.pb_diagram.proofs.tier.Tier.derive_order.Goals as goal

pub returns : goal.returns
returns g c = c.hand_line.ensures _ c.order_at.ensures
