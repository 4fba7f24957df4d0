use Rattle.std.proofs.Common.{◌≡◌, ◌*◌, ℕ, ap, length, refl, rules, sym, append-nil}
use Rattle.std.proofs.lemmas.Result.{IfOk-from_err}
use Rattle.pb_adder.proofs.LevelSteps.{last_end, last_gates, no_bit, one_bit, two_bits}
use Rattle.pb_adder.proofs.level.end_level.Goals as goal

pub returns-in-empty : goal.returns-in-empty
returns-in-empty c =
    let bits = c.args.bits.now in
    let gates = c.args.gates.now.items in
    let is = no_bit bits c.in-empty.len_below in
    record { gates = last_gates bits _ _ gates is refl _ (sym (append-nil gates)); end = last_end bits _ _ gates is refl }

pub returns-in-len1 : goal.returns-in-len1
returns-in-len1 c =
    let bits = c.args.bits.now in
    let gates = c.args.gates.now.items in
    let is = one_bit bits _ c.in-len1.len_at_least c.in-len1.len_below c.last-item.is in
    record { gates = last_gates bits _ _ gates is refl _ (sym (append-nil gates)); end = last_end bits _ _ gates is refl }

pub returns-in_ok-push-in-len2-up : goal.returns-in_ok-push-in-len2-up
returns-in_ok-push-in-len2-up c =
    let bits = c.args.bits.now in
    let gates = c.args.gates.now.items in
    let is = two_bits bits _ _ c.in-len2-up.len_at_least c.requires c.a-item.is c.b-item.is in
    let count : c.len-made.result ≡ length gates = search rules in
    let number = ap (λ (n : ℕ). 2 * n) count in
    record { gates = last_gates bits _ _ gates is number _ c.in_ok-push-in-len2-up.ensures.items; end = last_end bits _ _ gates is number }

pub returns-in_err-push-in-len2-up : goal.returns-in_err-push-in-len2-up
returns-in_err-push-in-len2-up c = record { gates = IfOk-from_err _ _ c.from_residual.ensures.0; end = IfOk-from_err _ _ c.from_residual.ensures.0 }
