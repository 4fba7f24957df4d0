use Rattle.std.proofs.Common.{◌≡◌, ◌≤◌, ◌+◌, ◌-◌, ◌*◌, ◌∙◌, ℕ, length, drop, take, suc, ap, arith}
use Rattle.std.proofs.Math.Nat.{mul-le-mul_right, mul-le-mul_left, mul-suc}
use Rattle.std.proofs.lemmas.List.{length-take, length-drop}
use Rattle.pb_counter.proofs.OthersHanding.{first_stopped, others_handed, fewer}
use Rattle.pb_counter.proofs.by_rows.derive_by_rows.Goals as goal

pub derive_start-requires : goal.derive_start-requires
derive_start-requires g c =
    let n : ℕ = length c.args.terms.now in
    let last : ℕ = c.args.last in
    let one : 1 * suc last ≤ (n - 1) * suc last = mul-le-mul_right (suc last) (omega (arith, c.requires.two)) in
    let room : (8 * last + 10) * 1 ≤ (8 * last + 10) * (n + 1) = mul-le-mul_left (8 * last + 10) (omega arith) in
    record { low = c.requires.low; fits = omega (arith, one, c.requires.fits); room = omega (arith, room, c.requires.room) }

pub returns-in_err-derive_start : goal.returns-in_err-derive_start
returns-in_err-derive_start g c =
    let a = c.args in
    let old = g.T.StepSink.state a.sink.now in
    first_stopped a.terms.now c.index-terms-0.result a.first a.last a.id old c.requires.two c.from_residual.result _ (g.T.StepSink.state c.derive_start.new.sink) c.from_residual.ensures.1 c.in_err-derive_start.ensures.hands

pub derive_others-requires : goal.derive_others-requires
derive_others-requires g c =
    let a = c.args in
    let n : ℕ = length a.terms.now in
    let size : length (take (n - 1) (drop 1 a.terms.now)) ≡ n - 1 = omega (arith, length-take (n - 1) (drop 1 a.terms.now), length-drop 1 a.terms.now) in
    let rows : length (take (n - 1) (drop 1 a.terms.now)) * suc a.last ≡ (n - 1) * suc a.last = ap (λ (m : ℕ). m * suc a.last) size in
    let ids : (8 * a.last + 10) * length (take (n - 1) (drop 1 a.terms.now)) ≡ (8 * a.last + 10) * (n - 1) = ap (λ (m : ℕ). (8 * a.last + 10) * m) size in
    let more : (8 * a.last + 10) * (n + 1) ≡ (8 * a.last + 10) * n + (8 * a.last + 10) = ap (λ (m : ℕ). (8 * a.last + 10) * m) (let e : n + 1 ≡ suc n = omega arith in e) ∙ mul-suc (8 * a.last + 10) n in
    let less = fewer (8 * a.last + 10) n (omega (arith, c.requires.two)) in
    record {
      some = omega (arith, size, c.requires.two);
      few = omega (arith, size, c.requires.few);
      low = c.requires.low;
      fits = omega (arith, rows, c.requires.fits);
      order = omega (arith, c.next_id-next.ensures, c.in_ok-derive_start.ensures.next);
      room = omega (arith, ids, more, less, c.in_ok-derive_start.ensures.next, c.requires.room);
    }

pub returns : goal.returns
returns g c =
    let a = c.args in
    let old = g.T.StepSink.state a.sink.now in
    others_handed a.terms.now c.index-terms-0.result a.first a.last a.id old c.requires.two c.derive_others.result _ _ (g.T.StepSink.state c.derive_start.new.sink) (g.T.StepSink.state c.derive_others.new.sink) c.in_ok-derive_start.ensures.hands c.in_ok-derive_start.ensures.next
    (omega (arith, c.next_id-next.ensures)) (omega (arith, c.next_id-next.ensures)) c.derive_others.ensures
