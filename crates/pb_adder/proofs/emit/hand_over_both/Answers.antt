use Rattle.pb_adder.proofs.Handing.{first_fault, second_hands}
use Rattle.pb_adder.proofs.emit.hand_over_both.Goals as goal

pub returns-in_err-hand_over : goal.returns-in_err-hand_over
returns-in_err-hand_over g c = first_fault c.from_residual.result _ c.from_residual.ensures.1 c.args.long.now c.args.short.now _ _ c.in_err-hand_over.ensures

pub returns : goal.returns
returns g c = second_hands _ _ _ _ _ _ c.in_ok-hand_over.ensures c.hand_over-2.ensures
