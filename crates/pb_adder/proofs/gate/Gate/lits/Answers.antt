use Rattle.std.proofs.Common.{◌∙◌, ap, sym}
use Rattle.pb_adder.specs.declared.gate.GateLits.TheVariants.{Three, Two}
use Rattle.pb_adder.specs.inner.GateLits.{gate_lits}
use Rattle.pb_adder.proofs.gate.Gate.lits.Goals as goal

pub returns-in-Full : goal.returns-in-Full
returns-in-Full c =
    (λ i. Three (record { a = c.lit.ensures i; b = c.lit-in-Full.ensures i; c = c.lit-in-Full-2.ensures i; sum = c.fresh_at.ensures i; carry = c.fresh_at-in-Full.ensures i }))
    ∙ sym (ap (gate_lits c.args.first) c.in-Full.is)

pub returns-in-Half : goal.returns-in-Half
returns-in-Half c =
    (λ i. Two (record { a = c.lit-in-Half.ensures i; b = c.lit-in-Half-2.ensures i; sum = c.fresh_at-in-Half.ensures i; carry = c.fresh_at-in-Half-2.ensures i }))
    ∙ sym (ap (gate_lits c.args.first) c.in-Half.is)
