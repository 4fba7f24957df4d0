use Rattle.std.proofs.Common.{◌≡◌, ◌*◌, ℕ, ap, arith, rules, length, length-append}
use Rattle.std.proofs.lemmas.Result.{IfOk-from_err, IfOk-weaker}
use Rattle.pb_adder.specs.declared.gate.Wire.{Wire}
use Rattle.pb_adder.proofs.LevelSteps.{bit_read, grown, step_gates, step_left}
use Rattle.pb_adder.proofs.level.push_full.Goals as goal

pub returns : goal.returns
returns c =
    let queue = c.args.queue.now.items in
    let same = c.as_slice-bits.ensures.value in
    let ra = bit_read _ queue _ _ same c.index-bits-oldest.is in
    let rb = bit_read _ queue _ _ same c.index-bits-oldest-2.is in
    let rc = bit_read _ queue _ _ same c.index-bits-oldest-3.is in
    let added = c.in_ok-push.ensures.items in
    let count : c.len-made.result ≡ length c.args.gates.now.items = search rules in
    let number = ap (λ (n : ℕ). 2 * n) count in
    let done = grown c.extend_from_slice.result _ _ _ c.extend_from_slice.ensures.items in
    record {
      size = IfOk-weaker c.extend_from_slice.result _ _ (λ _ pushed. omega (arith, ap length pushed, length-append {A = Wire})) done;
      gates = IfOk-weaker c.extend_from_slice.result _ _ (λ _ pushed. step_gates queue _ _ _ _ _ _ c.args.gates.now.items _ c.requires ra rb rc pushed number added) done;
      left = IfOk-weaker c.extend_from_slice.result _ _ (λ _ pushed. step_left queue _ _ _ _ _ _ c.args.gates.now.items _ c.requires ra rb rc pushed number added) done;
    }

pub returns-in_err-push : goal.returns-in_err-push
returns-in_err-push c = let failed = c.from_residual.ensures.0 in record { size = IfOk-from_err _ _ failed; gates = IfOk-from_err _ _ failed; left = IfOk-from_err _ _ failed }
